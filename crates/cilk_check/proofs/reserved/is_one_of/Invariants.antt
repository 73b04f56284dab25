use Rattle.std.proofs.Common.{◌≡◌, drop, map}
use Rattle.cilk_check.specs.NameFinds.{is_one_of}
use Rattle.cilk_check.proofs.reserved.is_one_of.Given as goal

abbrev pub invariant-loop-word : goal.invariant-loop-word
invariant-loop-word l =
    is_one_of (map (λ word. word.now) (drop l.word-index l.words)) l.fn.name ≡ is_one_of (map (λ word. word.now) l.words) l.fn.name
