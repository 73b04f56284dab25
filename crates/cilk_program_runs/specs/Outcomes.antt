-- The outcomes of a program, in the order of their logs.
use Rattle.std.specs.Prelude.{◌+◌, ◌==◌, nat_lt, if◌then◌else◌, ℕ, suc, Bool, true, false, List, [], ◌∷◌, length, map, Option, Some, None}
use Rattle.cilk_explore.specs.Exploring.{endless_of}
use Rattle.cilk_explore.specs.Telling.{told_by}
use Rattle.cilk_explore.specs.declared.exploration.Exploration.{Exploration}
use Rattle.cilk_explore.specs.explore.Search.{Told}
use Rattle.cilk_run.specs.choices.Words.{choice_of}
use Rattle.cilk_run.specs.model.Choice.{Act, step, pop, steal, Choice}
use Rattle.cilk_program_runs.specs.declared.outcome.Outcome as code
use Rattle.cilk_program_runs.specs.declared.outcome.Outcome.TheVariants.{Ended, Endless}

-- an ending with a log that leads to it, or a log behind which no choices end the program
pub data Outcome : Type 0 where
  with_end : (told : Told) → Outcome
  without_end : (log : List Choice) → Outcome

abbrev pub log_in : Outcome → List Choice
log_in (with_end told) = told.log
log_in (without_end log) = log

-- of one worker the step is tried first, then the pop, and then the steals
abbrev pub order_of : Act → ℕ
order_of step = 0
order_of pop = 1
order_of (steal victim) = victim + 2

-- and those of one worker before those of the next
abbrev pub is_tried_before : Choice → Choice → Bool
is_tried_before c other = if c.worker == other.worker then nat_lt (order_of c.act) (order_of other.act) else nat_lt c.worker other.worker

-- of two logs of as many choices that comes first whose first choice that is another one is tried first
abbrev pub comes_before : List Choice → List Choice → Bool
comes_before [] other = false
comes_before (c ∷ log) [] = false
comes_before (c ∷ log) (d ∷ other) = if is_tried_before c d then true else if is_tried_before d c then false else comes_before log other

-- and a shorter one before both
abbrev pub stands_before : List Choice → List Choice → Bool
stands_before log other = if length log == length other then comes_before log other else nat_lt (length log) (length other)

-- a log without an end stands behind the endings whose logs are found before it
abbrev pub with_endless : List Choice → List Told → List Outcome
with_endless log [] = without_end log ∷ []
with_endless log (t ∷ told) = if stands_before t.log log then with_end t ∷ with_endless log told else without_end log ∷ map with_end (t ∷ told)

-- all that is told, in its order
abbrev pub outcomes_of : List Told → Option (List Choice) → List Outcome
outcomes_of told None = map with_end told
outcomes_of told (Some log) = with_endless log told

abbrev pub outcomes_by : Exploration → List Outcome
outcomes_by e = outcomes_of (map told_by e.told.items) (endless_of e)

-- ---- what the code has of them

abbrev pub outcome_by : code.Outcome → Outcome
outcome_by (Ended told) = with_end (told_by told.now)
outcome_by (Endless log) = without_end (map choice_of log.now)

-- how many endings stand before the log without an end
abbrev pub before_endless : List Choice → List Told → ℕ
before_endless log [] = 0
before_endless log (t ∷ told) = if stands_before t.log log then suc (before_endless log told) else 0

-- all of them, where there is none
abbrev pub ended_before : List Told → Option (List Choice) → ℕ
ended_before told None = length told
ended_before told (Some log) = before_endless log told

abbrev pub before_by : Exploration → ℕ
before_by e = ended_before (map told_by e.told.items) (endless_of e)
