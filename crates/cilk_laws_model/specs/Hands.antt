-- Where the live instances are: each is in one hand, in one deque or parked.
use Rattle.std.specs.Prelude.{◌≡◌, ℕ, ◌+◌, true, ⊤, cond, List, [], ◌∷◌, ◌++◌, Option, Some, None, sum_by, count_by}
use Rattle.cilk_model.specs.Path.{Path, same_path, is_that, is_child}
use Rattle.cilk_model.specs.State.{is_live, has_live_child}
use Rattle.cilk_model.specs.Scheduler.{Worker, Scheduler, worker_at}
use Rattle.cilk_model.specs.Run.{Standing}
use Rattle.cilk_laws_model.specs.Family.{IsFamily}

-- how often p stands in a hand, in a deque and among what is parked
abbrev pub times_held : Path → Worker → ℕ
times_held p at = cond (is_that p at.hand) 1 0 + count_by (same_path p) at.deque

abbrev pub times_placed : Path → Scheduler → ℕ
times_placed p sched = sum_by (times_held p) sched.places + cond (sched.parked p) 1 0

-- each path is the parent of the next
abbrev pub Descends : List Path → Type 0
Descends [] = ⊤
Descends (p ∷ []) = ⊤
Descends (p ∷ c ∷ paths) = (is_child p c ≡ true) × Descends (c ∷ paths)

abbrev pub in_hand : Option Path → List Path
in_hand None = []
in_hand (Some p) = p ∷ []

-- a worker's deque from top to bottom, and then its hand
abbrev pub worker_paths : Worker → List Path
worker_paths at = at.deque ++ in_hand at.hand

pub record EachInItsPlace (at : Standing) : Type 0 where
  -- a live instance is in one place, and nothing else is in any
  pub once : (p : Path) → times_placed p at.scheduler ≡ cond (is_live at.state.instances p) 1 0
  pub family : IsFamily at.state.instances
  -- in a deque each path is the parent of the next below it, and the lowest is the parent of the one in a full hand
  pub lines : (w : ℕ) → Descends (worker_paths (worker_at at.scheduler.places w))
  pub parked : (p : Path) → at.scheduler.parked p ≡ true → has_live_child at.state.instances p ≡ true
