use Rattle.std.proofs.Common.{◌≡◌, ◌≤◌, ◌+◌, ◌++◌, length, reverse, vec_capacity}
use Rattle.cilk_view.specs.Ups.{linked_path}
use Rattle.cilk_view.proofs.spot.climb.Given as goal

abbrev pub invariant-loop-link : goal.invariant-loop-link
invariant-loop-link l =
    (linked_path l.links l.at ++ reverse l.numbers.items ≡ linked_path l.links l.fn.id)
    × ((l.at + length l.numbers.items ≤ l.fn.id) × (vec_capacity l.numbers ≡ vec_capacity l.initial.numbers))

abbrev pub decreases-loop-link : goal.decreases-loop-link
decreases-loop-link l = l.at
