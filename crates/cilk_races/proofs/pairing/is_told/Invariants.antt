use Rattle.std.proofs.Common.{◌≡◌, drop}
use Rattle.cilk_races.specs.Paired.{is_told, pair_of, pairs_told}
use Rattle.cilk_races.proofs.pairing.is_told.Given as goal

abbrev pub invariant-loop-entry : goal.invariant-loop-entry
invariant-loop-entry l =
    is_told (pairs_told l.rows l.touches (drop l.entry-index l.entries)) (pair_of l.rows l.touches l.pair)
    ≡ is_told (pairs_told l.rows l.touches l.entries) (pair_of l.rows l.touches l.pair)
