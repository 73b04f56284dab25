use Rattle.std.proofs.Common.{arith}
use Rattle.std.proofs.lemmas.List.Sums.{prefix_len-le-length}
use Rattle.cilk_lex_tokens.specs.Byte.{continues_name}
use Rattle.cilk_lex.proofs.bytes.split_name.Goals as goal

pub split_at-requires : goal.split_at-requires
split_at-requires c = omega (arith, c.name_end.ensures, prefix_len-le-length continues_name c.args.text.now)
