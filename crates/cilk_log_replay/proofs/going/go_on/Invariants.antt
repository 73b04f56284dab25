use Rattle.std.proofs.Common.{◌≡◌, ◌≤◌, ◌+◌, true, length, map}
use Rattle.cilk_machine.specs.sched.Words.{choice_of}
use Rattle.cilk_machine.specs.Situation.{Situation}
use Rattle.cilk_log_replay.specs.Going.{Goes}
use Rattle.cilk_log_replay.specs.Tape.{Tape}
use Rattle.cilk_log_replay.proofs.going.go_on.Given as goal

abbrev pub invariant-loop-made : goal.invariant-loop-made
invariant-loop-made l =
    let m : Situation = l.initial.machine in
    let n : Situation = l.machine in
    (n.choices ≡ l.made) × ((m.choices ≤ n.choices) × (((t : Tape) → t.choices ≡ map choice_of l.choices → Goes t m → Goes t n)
    × ((m.keeps ≡ true → (n.keeps ≡ true) × (length n.past + m.choices ≡ length m.past + n.choices)) × (n.choices ≡ m.choices → n ≡ m))))
