use Rattle.std.proofs.Common.{arith}
use Rattle.std.proofs.lemmas.List.Sums.{prefix_len-le-length}
use Rattle.cilk_lex_tokens.specs.Byte.{is_line_blank}
use Rattle.cilk_lex.proofs.bytes.split_blanks.Goals as goal

pub split_at-requires : goal.split_at-requires
split_at-requires c = omega (arith, c.blank_end.ensures, prefix_len-le-length is_line_blank c.args.text.now)
