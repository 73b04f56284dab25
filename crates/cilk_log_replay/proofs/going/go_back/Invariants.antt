use Rattle.std.proofs.Common.{◌≡◌, ◌≤◌, ◌+◌, length}
use Rattle.cilk_machine.specs.Situation.{Situation}
use Rattle.cilk_log_replay.specs.Going.{Goes}
use Rattle.cilk_log_replay.specs.Tape.{Tape}
use Rattle.cilk_log_replay.proofs.going.go_back.Given as goal

abbrev pub invariant-loop-machine : goal.invariant-loop-machine
invariant-loop-machine l =
    let m : Situation = l.initial.machine in
    let n : Situation = l.machine in
    (l.to ≤ n.choices) × ((n.choices ≤ m.choices) × (((t : Tape) → Goes t m → Goes t n)
    × ((length n.past + m.choices ≡ length m.past + n.choices) × (n.choices ≡ m.choices → n ≡ m))))

abbrev pub decreases-loop-machine : goal.decreases-loop-machine
decreases-loop-machine l = l.machine.choices
