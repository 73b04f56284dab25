-- Where the instances are: each worker has at most one in its hand, and a deque of others (Cilk 5.4 manual, work stealing).
use Rattle.std.specs.Prelude.{ℕ, Bool, false, not, ◌&&◌, ◌||◌, if◌then◌else◌, List, [], Option, Some, None, replicate}
use Rattle.cilk_model.specs.Hands.{WorkerOf, popped_by, stolen_by, pushed_by}
use Rattle.cilk_model.specs.Path.{Path, same_path, parent_of}
use Rattle.cilk_model.specs.Instance.{Instance}
use Rattle.cilk_model.specs.State.{Instances, instance_at, has_live_child}
use Rattle.cilk_model.specs.State.{is_empty}
use Rattle.cilk_model.specs.Pick.{Step, waits, parks, goes_on, ends, spawns}
pub use Rattle.cilk_model.specs.Hands.{no_place, worker_at, hand_of, deque_of, with_hand, with_deque, top_of, below_top, bottom_of, above_bottom}

-- what one worker has of the instances
abbrev pub Worker : Type 0
Worker = WorkerOf Path

-- the places of the workers from worker 1 on, and which instances are parked
pub record Scheduler : Type 0 where
  pub places : List Worker
  pub parked : Path → Bool

-- the bottom of w's own deque comes to its hand
abbrev pub popped : Scheduler → ℕ → Scheduler
popped sched w = record sched { places = popped_by sched.places w }

-- the top of v's deque comes to w's hand
abbrev pub stolen : Scheduler → ℕ → ℕ → Scheduler
stolen sched w v = record sched { places = stolen_by sched.places w v }

-- p leaves w's hand for the bottom of its deque, and c comes to the hand
abbrev pub pushed : Scheduler → ℕ → Path → Path → Scheduler
pushed sched w p c = record sched { places = pushed_by sched.places w p c }

-- p leaves w's hand and is parked
abbrev pub parked_from : Scheduler → ℕ → Path → Scheduler
parked_from sched w p = record {
  places = with_hand sched.places w None;
  parked = λ q. same_path q p || sched.parked q;
}

-- whether an instance that was parked can go on: no child of it lives, or it is not aborted and a delivery waits
abbrev pub can_take : Option Instance → Bool
can_take None = false
can_take (Some i) = not i.aborted && not (is_empty i.waiting)

abbrev pub can_go_on : Instances → Path → Bool
can_go_on instances p = not (has_live_child instances p) || can_take (instance_at instances p)

-- a parked parent that can go on comes to w's hand
abbrev pub woken : Instances → Scheduler → ℕ → Option Path → Scheduler
woken instances sched w None = sched
woken instances sched w (Some p) =
    if sched.parked p && can_go_on instances p
    then record { places = with_hand sched.places w (Some p); parked = λ q. not (same_path q p) && sched.parked q }
    else sched

abbrev pub with_empty_hand : Scheduler → ℕ → Scheduler
with_empty_hand sched w = record sched { places = with_hand sched.places w None }

-- after a step of p, which w has in its hand
abbrev pub after_step : Scheduler → ℕ → Path → Step → Scheduler
after_step sched w p waits = sched
after_step sched w p parks = parked_from sched w p
after_step sched w p (goes_on state did) = sched
after_step sched w p (ends state did) = woken state.instances (with_empty_hand sched w) w (parent_of p)
after_step sched w p (spawns child state did) = pushed sched w p child

-- at first the root is in worker 1's hand
abbrev pub opening_scheduler : ℕ → Scheduler
opening_scheduler n = record { places = with_hand (replicate n no_place) 1 (Some []); parked = λ q. false }
