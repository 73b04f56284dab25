use Rattle.std.proofs.Common.{◌≡◌, ◌++◌, map, take, flat_map}
use Rattle.cilk_sched.specs.Words.{choice_of}
use Rattle.cilk_log.specs.Choices.{choice_text}
use Rattle.cilk_log.specs.Text.{with_newline}
use Rattle.cilk_log.proofs.writing.put_first_version.Given as goal

abbrev pub invariant-loop-choice : goal.invariant-loop-choice
invariant-loop-choice l =
    l.text.items ≡ l.initial.text.items ++ flat_map with_newline (map choice_text (map choice_of (take l.choice-index l.choices)))
