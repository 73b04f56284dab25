-- What the code has of a tally.
use Rattle.std.specs.Prelude.{⊤, ◌≤◌, ℕ, Bool, cond, List, [], ◌∷◌, ◌++◌, map, codes, decimal, string_bytes}
use Rattle.std.specs.List.{list_any}
use Rattle.cilk_run.specs.model.End.{line_break}
use Rattle.cilk_run.specs.Tallied.{Outcome, Row, bumped, runs_word, same_outcome}
use Rattle.cilk_run.specs.declared.outcome.Outcome as code_outcome
use Rattle.cilk_run.specs.declared.row.Row as code_row

abbrev pub outcome_by : code_outcome.Outcome → Outcome
outcome_by o = record { printed = o.printed.items; ended = string_bytes o.ended }

abbrev pub row_by : code_row.Row → Row
row_by r = record { outcome = outcome_by r.outcome; count = r.count; first = r.first }

abbrev pub rows_by : List code_row.Row → List Row
rows_by = map row_by

-- one run more has this outcome, by this seed

abbrev pub has_row : Outcome → List Row → Bool
has_row o rows = list_any (λ r. same_outcome r.outcome o) rows

abbrev pub begun : Outcome → ℕ → Row
begun o seed = record { outcome = o; count = 1; first = seed }

abbrev pub new_row : Bool → Outcome → ℕ → List Row
new_row there o seed = cond there [] (begun o seed ∷ [])

abbrev pub added : Outcome → ℕ → List Row → List Row
added o seed rows = map (bumped o) rows ++ new_row (has_row o rows) o seed

-- no row has more runs
abbrev pub AreAtMost : ℕ → List Row → Type 0
AreAtMost n [] = ⊤
AreAtMost n (r ∷ rows) = (r.count ≤ n) × AreAtMost n rows

-- the text of a row, in two parts

abbrev pub front_text : Row → List ℕ
front_text r = decimal r.count ++ (runs_word r.count ++ (decimal r.first ++ codes ":"))

-- what stands before the words of the end
abbrev pub printed_text : List ℕ → List ℕ
printed_text [] = codes " "
printed_text (b ∷ bytes) = codes "\n" ++ ((b ∷ bytes) ++ line_break (b ∷ bytes))
