use Rattle.std.proofs.Common.{refl}
use Rattle.cilk_words.specs.Described.{with_rules}
use Rattle.cilk_words.proofs.Built.{in_turn, is_whole}
use Rattle.cilk_words.proofs.arguments.command.Goals as goal

pub returns : goal.returns
unfolding with_rules in_turn
returns c = is_whole _ _ c.with_all.result c.with_all.ensures c.bare.ensures refl
