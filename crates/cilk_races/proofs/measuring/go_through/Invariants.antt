use Rattle.std.proofs.Common.{◌≡◌, map}
use Rattle.cilk_log_replay.specs.machine.sched.Words.{choice_of}
use Rattle.cilk_log_replay.specs.Tape.{Tape, IsAt}
use Rattle.cilk_races.specs.Held.{Gauged}
use Rattle.cilk_races.proofs.measuring.go_through.Given as goal

abbrev pub invariant-loop-made : goal.invariant-loop-made
invariant-loop-made l =
    (l.gauge.machine.choices ≡ l.made)
    × ((t : Tape) → t.choices ≡ map choice_of l.choices → IsAt t 0 l.fn.gauge.machine
    → IsAt t l.made l.gauge.machine × (Gauged t 0 l.fn.gauge → Gauged t l.made l.gauge))
