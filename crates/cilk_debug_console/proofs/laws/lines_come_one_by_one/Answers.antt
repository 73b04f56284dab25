use Rattle.cilk_debug_console.proofs.Cut.{one_line, last_line, long_line, many_lines}
use Rattle.cilk_debug_console.proofs.laws.lines_come_one_by_one.Goals as goal

pub returns : goal.returns
returns c = record { line = one_line; last = last_line; long = long_line; many = many_lines }
