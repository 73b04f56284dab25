use Rattle.std.proofs.Common.{◌≡◌, ◌≤◌, ◌+◌, None, drop, map, option_map}
use Rattle.cilk_log_replay.specs.log.choices.Words.{choice_of}
use Rattle.cilk_program_tapes.proofs.ChoiceLines.{lines_behind}
use Rattle.cilk_program_tapes.proofs.choice_line.lines_of.Given as goal

abbrev pub invariant-loop-choice : goal.invariant-loop-choice
invariant-loop-choice l = record {
  lines : l.count + lines_behind (option_map choice_of l.last) (map choice_of (drop l.choice-index l.choices))
      ≡ lines_behind None (map choice_of l.choices);
  few : l.count ≤ l.choice-index;
}
