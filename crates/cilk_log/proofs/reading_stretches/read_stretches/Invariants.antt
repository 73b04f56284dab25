use Rattle.std.proofs.Common.{◌≡◌, ◌+◌, ◌≤◌, length, map, option_map}
use Rattle.cilk_sched.specs.Words.{choice_of}
use Rattle.cilk_log.specs.Text.{most_choices}
use Rattle.cilk_log.specs.Reading.{lines_of, stretches_read}
use Rattle.cilk_log.proofs.GoingOnStretched.{goes_on}
use Rattle.cilk_log.proofs.reading_stretches.read_stretches.Given as goal

abbrev pub invariant-loop-choices : goal.invariant-loop-choices
invariant-loop-choices l = record {
  same : goes_on (option_map choice_of l.last) l.number (map choice_of l.choices) (lines_of l.rest)
      ≡ stretches_read (lines_of l.text).whole (lines_of l.text).rest;
  few : length l.choices ≤ most_choices;
  lines : l.number + length l.rest ≤ 4 + length l.text;
}

abbrev pub decreases-loop-choices : goal.decreases-loop-choices
decreases-loop-choices l = length l.rest
