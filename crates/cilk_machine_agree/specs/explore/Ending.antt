-- How a run ends: how the program stands where no choice is possible, with what it printed.
use Rattle.std.specs.Prelude.{◌≢◌, ℕ, Bool, true, false, List, None}
use Rattle.cilk_machine_agree.specs.labelled.Labelled.{Labelled}
use Rattle.cilk_machine_agree.specs.model.Choice.{Choice}
use Rattle.cilk_machine_agree.specs.model.Run.{Standing, refusal_of}
use Rattle.cilk_machine_agree.specs.model.End.{End, finished, trapped, stuck, limit, end_now}

-- what is told of an end: two programs that are stuck with one output have one ending, whatever led there
pub record Ending : Type 0 where
  pub end : End
  pub output : List ℕ

abbrev pub ending_at : Labelled → Standing → Ending
ending_at program at = record { end = end_now program at; output = at.state.output }

-- whether a program that stands so has no possible choice
abbrev pub is_last : End → Bool
is_last (finished z) = true
is_last (trapped kind path n line) = true
is_last stuck = true
is_last limit = false

-- no choice is possible
abbrev pub IsOver : Labelled → Standing → Type 0
IsOver program at = (choice : Choice) → refusal_of program at choice ≢ None
