-- Which step of a run has to come before which, and the longest chain of steps each of which follows the one before it.
use Rattle.std.specs.Prelude.{ℕ, suc, max, Bool, true, ◌&&◌, ◌||◌, if◌then◌else◌, List, [], ◌∷◌, ◌++◌, Option, Some, None, is_some, is_none}
use Rattle.cilk_log_replay.specs.machine.nodes.model.Path.{Path, same_path, is_that, is_child}
use Rattle.cilk_races.specs.Steps.{Step}

-- the thread of p, from its spawn on
abbrev pub is_of_thread : Path → Step → Bool
is_of_thread p s = (same_path s.path p && is_none s.taking) || is_that p s.child

-- what p waits for at a `sync` and at its end: what its children do, and what takes their values (Cilk 5.4 manual, `sync`, `inlet`)
abbrev pub is_joined : Path → Step → Bool
is_joined p s = is_child p s.path || (same_path s.path p && is_some s.taking)

-- the delivery of c, and the inlet that takes its value
abbrev pub takes : Path → Step → Bool
takes c s = is_that c s.taking

-- whether an earlier step has to come before a step: inlets and threads of one instance do not follow one another
abbrev pub comes_before : Option Path → Step → Step → Bool
comes_before None s earlier = is_of_thread s.path earlier || (s.joins && is_joined s.path earlier)
comes_before (Some c) s earlier = is_of_thread c earlier || takes c earlier

abbrev pub follows : Step → Step → Bool
follows s earlier = comes_before s.taking s earlier

-- a step, and how many the longest chain has that ends with it
pub record Ranked : Type 0 where
  pub step : Step
  pub rank : ℕ

-- the greatest rank of those that are so
abbrev pub top : (Step → Bool) → List Ranked → ℕ
top f [] = 0
top f (r ∷ ranked) = max (if f r.step then r.rank else 0) (top f ranked)

abbrev pub ranked : List Ranked → Step → Ranked
ranked before s = record { step = s; rank = suc (top (follows s) before) }

-- these, and those of later steps
abbrev pub ranked_from : List Ranked → List Step → List Ranked
ranked_from before [] = before
ranked_from before (s ∷ steps) = ranked_from (before ++ ranked before s ∷ []) steps

abbrev pub all_ranked : List Step → List Ranked
all_ranked steps = ranked_from [] steps

abbrev pub span_of : List Step → ℕ
span_of steps = top (λ s. true) (all_ranked steps)
