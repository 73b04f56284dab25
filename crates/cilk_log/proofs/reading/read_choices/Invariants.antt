use Rattle.std.proofs.Common.{◌≡◌, ◌+◌, ◌≤◌, length, map, []}
use Rattle.cilk_sched.specs.Words.{choice_of}
use Rattle.cilk_log.specs.Reading.{lines_of}
use Rattle.cilk_log.proofs.GoingOn.{goes_on}
use Rattle.cilk_log.proofs.reading.read_choices.Given as goal

abbrev pub invariant-loop-found : goal.invariant-loop-found
invariant-loop-found l = record {
  same : goes_on (map choice_of l.choices) (lines_of l.rest) ≡ goes_on [] (lines_of l.text);
  shorter : length l.choices + length l.rest ≤ length l.text;
}

abbrev pub decreases-loop-found : goal.decreases-loop-found
decreases-loop-found l = length l.rest
