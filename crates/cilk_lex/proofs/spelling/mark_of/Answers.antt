use Rattle.cilk_lex.proofs.Halves.{in_halves}
use Rattle.cilk_lex.proofs.spelling.mark_of.Goals as goal

pub returns : goal.returns
returns c = rw c.or.ensures (in_halves c.args.text.now c.byte_mark.result c.longer_mark.result c.byte_mark.ensures c.longer_mark.ensures)
