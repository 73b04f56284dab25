-- The numbers that are told of a run.
use Rattle.std.specs.Prelude.{ℕ, suc, ◌+◌, ◌-◌, max, Bool, true, false, List, [], ◌∷◌, ◌++◌, length, map, count_by}
use Rattle.cilk_log_replay.specs.machine.nodes.model.labelled.Labelled.{Labelled}
use Rattle.cilk_log_replay.specs.machine.nodes.model.Path.{Path}
use Rattle.cilk_log_replay.specs.machine.nodes.model.Choice.{Choice}
use Rattle.cilk_log_replay.specs.machine.nodes.model.Event.{Event, returned, ended}
use Rattle.cilk_log_replay.specs.machine.nodes.model.End.{numbers}
use Rattle.cilk_log_replay.specs.machine.nodes.model.Made.{made}
use Rattle.cilk_races.specs.Steps.{Step, steps_of}
use Rattle.cilk_races.specs.Deeds.{Deed, deeds_of, is_work, is_park, pops, steals, is_work_of, in_deque}
use Rattle.cilk_races.specs.Span.{span_of}

abbrev pub greatest : List ℕ → ℕ
greatest [] = 0
greatest (x ∷ xs) = max x (greatest xs)

-- the greatest value that f has on the way: behind none of these, behind the first one, and so on; others came before
abbrev pub most_from : {A : Type 0} → (List A → ℕ) → List A → List A → ℕ
most_from f before [] = f before
most_from f before (x ∷ xs) = max (f before) (most_from f (before ++ x ∷ []) xs)

abbrev pub most : {A : Type 0} → (List A → ℕ) → List A → ℕ
most f xs = most_from f [] xs

abbrev pub is_end : Event → Bool
is_end (returned path n) = true
is_end (ended path) = true
is_end other = false

-- how many instances live
abbrev pub living : List Event → ℕ
living events = length (made events) - count_by is_end events

-- how many instances stand one above another, from `main` down to this one
abbrev pub depth_of : Path → ℕ
depth_of p = suc (length p)

abbrev pub depth_in : List Event → ℕ
depth_in events = greatest (map depth_of (made events))

-- and how many bodies, where each instance above has one
abbrev pub bodies_at : Step → ℕ
bodies_at s = depth_of s.path + s.above

pub record Measure : Type 0 where
  pub work : ℕ
  pub span : ℕ
  -- instances ever made, those that lived at once, and how many stood one above another
  pub instances : ℕ
  pub live : ℕ
  pub depth : ℕ
  -- bodies that stood one above another
  pub bodies : ℕ
  -- frames in one deque
  pub deque : ℕ
  pub steals : ℕ
  pub pops : ℕ
  pub parks : ℕ
  -- the work of each worker, from worker 1 on
  pub shares : List ℕ

abbrev pub measure : ℕ → List Event → List Step → List Deed → Measure
measure n events steps deeds = record {
  work = count_by is_work deeds;
  span = span_of steps;
  instances = length (made events);
  live = most living events;
  depth = depth_in events;
  bodies = max (depth_in events) (greatest (map bodies_at steps));
  deque = greatest (map (λ w. most (in_deque w) deeds) (numbers n));
  steals = count_by steals deeds;
  pops = count_by pops deeds;
  parks = count_by is_park deeds;
  shares = map (λ w. count_by (is_work_of w) deeds) (numbers n);
}

-- of the choices of n workers, which did this
abbrev pub measure_of : Labelled → ℕ → List Choice → List Event → Measure
measure_of program n choices events = measure n events (steps_of program events) (deeds_of choices events)
