-- A tally of runs by one seed after another: each outcome that a run has, how many runs have it, and the first seed of one.
use Rattle.std.specs.Prelude.{◌≡◌, ◌+◌, ◌<◌, ◌==◌, ◌&&◌, ◌||◌, not, nat_lt, nat_le, if◌then◌else◌, ℕ, zero, suc, Bool, true, List, [], ◌∷◌, ◌++◌, length, map}
use Rattle.std.specs.Prelude.{filter, count_by, flat_map, slice_index_or, IsPermutation, Option, Some, None, bytes_eq, codes, decimal}
use Rattle.std.specs.List.{position_or_len}
use Rattle.cilk_run.specs.labelled.Labelled.{Labelled}
use Rattle.cilk_run.specs.model.End as model
use Rattle.cilk_run.specs.model.End.{End, end_now, end_text, line_break}
use Rattle.cilk_run.specs.model.Run.{Position, after}
use Rattle.cilk_run.specs.Drawn.{drawn}

-- what comes of a run: what was printed, and how it ended, without the number of its choices
pub record Outcome : Type 0 where
  pub printed : List ℕ
  pub ended : List ℕ

abbrev pub same_outcome : Outcome → Outcome → Bool
same_outcome a b = bytes_eq a.printed b.printed && bytes_eq a.ended b.ended

abbrev pub end_words : End → List ℕ
end_words (model.finished z) = end_text (model.finished z) 0
end_words (model.trapped kind path n line) = end_text (model.trapped kind path n line) 0
end_words model.stuck = codes "stuck"
end_words model.limit = codes "limit"

abbrev pub outcome_at : Labelled → Option Position → Outcome
outcome_at program None = record { printed = []; ended = [] }
outcome_at program (Some at) = record { printed = at.standing.state.output; ended = end_words (end_now program at.standing) }

-- that of the run of n workers which a seed names
abbrev pub outcome_of : Labelled → ℕ → ℕ → ℕ → Outcome
outcome_of program n limit seed = outcome_at program (after program n (drawn program n seed limit))

-- those of so many seeds, from this one on
abbrev pub outcomes_from : Labelled → ℕ → ℕ → ℕ → ℕ → List Outcome
outcomes_from program n limit seed zero = []
outcomes_from program n limit seed (suc k) = outcomes_from program n limit seed k ++ outcome_of program n limit (seed + k) ∷ []

-- the outcomes that runs have, each where it comes first
abbrev pub firsts : List Outcome → List Outcome
firsts [] = []
firsts (o ∷ runs) = o ∷ filter (λ other. not (same_outcome o other)) (firsts runs)

pub record Row : Type 0 where
  pub outcome : Outcome
  pub count : ℕ
  pub first : ℕ

-- how many runs have the outcome, and the seed of the first of them, where the first run of all is by this one
abbrev pub row_of : ℕ → List Outcome → Outcome → Row
row_of seed runs o = record {
  outcome = o;
  count = count_by (same_outcome o) runs;
  first = seed + position_or_len (same_outcome o) runs;
}

abbrev pub tally : ℕ → List Outcome → List Row
tally seed runs = map (row_of seed runs) (firsts runs)

-- one run more has this outcome
abbrev pub bumped : Outcome → Row → Row
bumped o r = if same_outcome r.outcome o then record r { count = r.count + 1 } else r

-- more runs come first, and of as many the one with the smaller seed
abbrev pub comes_before : Row → Row → Bool
comes_before a b = nat_lt b.count a.count || (a.count == b.count && nat_le a.first b.first)

-- the same rows in this order
pub record IsRanked (rows ranked : List Row) : Type 0 where
  pub same : IsPermutation rows ranked
  pub order : (k : ℕ) (d : Row) → k + 1 < length ranked → comes_before (slice_index_or ranked k d) (slice_index_or ranked (k + 1) d) ≡ true

-- the tally, as it is told

abbrev pub runs_word : ℕ → List ℕ
runs_word count = if count == 1 then codes " run, first by seed " else codes " runs, first by seed "

-- what was printed stands on lines of its own
abbrev pub told_behind : List ℕ → List ℕ → List ℕ
told_behind [] ended = codes " " ++ (ended ++ codes "\n")
told_behind (b ∷ bytes) ended = codes "\n" ++ ((b ∷ bytes) ++ (line_break (b ∷ bytes) ++ (ended ++ codes "\n")))

abbrev pub row_text : Row → List ℕ
row_text r = decimal r.count ++ (runs_word r.count ++ (decimal r.first ++ (codes ":" ++ told_behind r.outcome.printed r.outcome.ended)))

abbrev pub tally_text : List Row → List ℕ
tally_text rows = flat_map row_text rows

-- a text that tells the outcomes of the runs by so many seeds, from one on
pub record IsTallyText (program : Labelled) (workers limit seed runs : ℕ) (text : List ℕ) : Type 0 where
  pub rows : List Row
  pub ranked : IsRanked (tally seed (outcomes_from program workers limit seed runs)) rows
  pub is : text ≡ tally_text rows
