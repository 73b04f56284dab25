use Rattle.std.proofs.Common.{◌≡◌, ◌++◌, map, length, flat_map}
use Rattle.cilk_sched.specs.Words.{choice_of}
use Rattle.cilk_log.specs.Stretches.{stretch_text, stretches_of}
use Rattle.cilk_log.specs.Text.{with_newline}
use Rattle.cilk_log.proofs.writing_stretches.put_stretches.Given as goal

abbrev pub invariant-loop-stretch : goal.invariant-loop-stretch
invariant-loop-stretch l =
    l.text.items ++ flat_map with_newline (map stretch_text (stretches_of (map choice_of l.rest)))
    ≡ l.initial.text.items ++ flat_map with_newline (map stretch_text (stretches_of (map choice_of l.choices)))

abbrev pub decreases-loop-stretch : goal.decreases-loop-stretch
decreases-loop-stretch l = length l.rest
