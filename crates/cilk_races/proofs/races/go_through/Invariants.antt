use Rattle.std.proofs.Common.{◌≡◌, map}
use Rattle.cilk_log_replay.specs.machine.agree.scopes.WellFormed.{WellFormed}
use Rattle.cilk_log_replay.specs.machine.sched.Words.{choice_of}
use Rattle.cilk_log_replay.specs.Tape.{Tape, IsAt}
use Rattle.cilk_races.specs.Watched.{Watched}
use Rattle.cilk_races.proofs.races.go_through.Given as goal

abbrev pub invariant-loop-made : goal.invariant-loop-made
invariant-loop-made l =
    (l.watch.machine.choices ≡ l.made)
    × ((t : Tape) → t.choices ≡ map choice_of l.choices → IsAt t 0 l.fn.watch.machine
    → IsAt t l.made l.watch.machine × (WellFormed t.program → Watched t 0 l.fn.watch → Watched t l.made l.watch))
