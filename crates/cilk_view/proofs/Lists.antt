-- The frames of a deque one after another.
use Rattle.std.proofs.Common.{◌≡◌, ℕ, zero, suc, ◌+◌, ◌<◌, ◌++◌, List, [], ◌∷◌, drop, map, length, arith, append_assoc}
use Rattle.std.specs.Prelude.{slice_get}
use Rattle.cilk_machine_agree.specs.frame.Frames.{Frame}
use Rattle.cilk_machine_agree.specs.spawn.Nodes.{Node}
use Rattle.cilk_machine_agree.specs.Agrees.{name_in}
use Rattle.cilk_machine_agree.specs.model.Workers.{paths_text}
use Rattle.cilk_view.specs.WhereLines.{queued_text}

pub next_queued : (ns : List Node) (deque : List Frame) (i : ℕ) → i < length deque
    → paths_text (map (name_in ns) (drop i deque)) ≡ queued_text ns (slice_get deque i) ++ paths_text (map (name_in ns) (drop (suc i) deque))
next_queued ns [] i below = absurd (omega (arith, below))
next_queued ns (f ∷ deque) zero below = simp append_assoc
next_queued ns (f ∷ deque) (suc i) below = next_queued ns deque i (omega (arith, below))

-- the text so far, and one frame more
pub one_queued : (ns : List Node) (deque : List Frame) (i : ℕ) (old now whole : List ℕ) → i < length deque → now ≡ old ++ queued_text ns (slice_get deque i)
    → old ++ paths_text (map (name_in ns) (drop i deque)) ≡ whole
    → now ++ paths_text (map (name_in ns) (drop (i + 1) deque)) ≡ whole
one_queued ns deque i old now whole below is so_far =
    let e : i + 1 ≡ suc i = omega arith in
    rw (e, is, append_assoc, ← next_queued ns deque i below) so_far
