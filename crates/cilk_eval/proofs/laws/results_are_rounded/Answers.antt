use Rattle.cilk_eval.proofs.Results.{division_truncates, remainder_is_left, shift_multiplies, shift_rounds_down}
use Rattle.cilk_eval.proofs.laws.results_are_rounded.Goals as goal

pub returns : goal.returns
returns c = record {
  division = division_truncates;
  remainder = remainder_is_left;
  shift_left = shift_multiplies;
  shift_right = shift_rounds_down;
}
