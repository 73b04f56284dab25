use Rattle.std.proofs.Common.{arith}
use Rattle.std.proofs.lemmas.List.Sums.{prefix_len-le-length}
use Rattle.cilk_lex_tokens.specs.Byte.{continues_header}
use Rattle.cilk_lex.proofs.bytes.split_header.Goals as goal

pub split_at-requires : goal.split_at-requires
split_at-requires c = omega (arith, c.header_end.ensures, prefix_len-le-length continues_header c.args.text.now)
