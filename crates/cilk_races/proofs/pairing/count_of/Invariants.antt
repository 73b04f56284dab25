use Rattle.std.proofs.Common.{◌≡◌, ◌≤◌, take}
use Rattle.cilk_races.specs.Paired.{pairs_told}
use Rattle.cilk_races.specs.Races.{count_of}
use Rattle.cilk_races.specs.PairWords.{relation_named}
use Rattle.cilk_races.proofs.pairing.count_of.Given as goal

abbrev pub invariant-loop-pair : goal.invariant-loop-pair
invariant-loop-pair l =
    (l.count ≡ count_of (relation_named l.relation) (pairs_told l.rows l.touches (take l.pair-index l.pairs))) × (l.count ≤ l.pair-index)
