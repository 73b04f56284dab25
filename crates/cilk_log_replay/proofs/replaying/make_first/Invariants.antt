use Rattle.std.proofs.Common.{◌≡◌, map}
use Rattle.cilk_machine.specs.sched.Words.{choice_of}
use Rattle.cilk_log_replay.specs.Tape.{Tape, IsAt}
use Rattle.cilk_log_replay.proofs.replaying.make_first.Given as goal

abbrev pub invariant-loop-made : goal.invariant-loop-made
invariant-loop-made l =
    (l.machine.choices ≡ l.made) × ((t : Tape) → t.choices ≡ map choice_of l.choices → IsAt t 0 l.fn.machine → IsAt t l.made l.machine)
