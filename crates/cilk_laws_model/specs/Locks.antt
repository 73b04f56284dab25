-- Who holds a lock, and who waits for one (Cilk 5.4 manual, locks).
use Rattle.std.specs.Prelude.{◌≡◌, ◌≢◌, ℕ, true, List, Some}
use Rattle.cilk_model.specs.syntax.declared.lock_action.LockAction.TheVariants as action
use Rattle.cilk_model.specs.labelled.Labelled.{Labelled, Numbered, locking}
use Rattle.cilk_model.specs.labelled.Items.{head_of}
use Rattle.cilk_model.specs.Path.{Path}
use Rattle.cilk_model.specs.Instance.{Instance}
use Rattle.cilk_model.specs.State.{State, held, instance_at, is_live, lock_at}
use Rattle.cilk_model.specs.Scheduler.{hand_of}
use Rattle.cilk_model.specs.Choice.{Choice}
use Rattle.cilk_model.specs.Run.{Standing, Position, is_worker, after}

abbrev pub HoldersLive : State → Type 0
HoldersLive s = (k : ℕ) (p : Path) → lock_at s k ≡ held p → is_live s.instances p ≡ true

-- after every list of possible choices
abbrev pub EachHolderLives : Type 0
EachHolderLives = (program : Labelled) (n : ℕ) (choices : List Choice) (at : Position) → after program n choices ≡ Some at → HoldersLive at.standing.state

-- p is to take a lock that another live instance holds
pub record WaitsForLock (s : State) (p : Path) : Type 0 where
  pub instance : Instance
  pub lives : instance_at s.instances p ≡ Some instance
  pub head : Numbered
  pub first : head_of instance.top.items ≡ Some head
  pub lock : ℕ
  pub takes : head.act ≡ locking action.Lock lock
  pub holder : Path
  pub is_held : lock_at s lock ≡ held holder
  pub other : holder ≢ p
  pub holder_lives : is_live s.instances holder ≡ true

-- each worker with a full hand waits for a lock, and there is such a worker
pub record AllWait (at : Standing) : Type 0 where
  pub each : (w : ℕ) (p : Path) → is_worker at.scheduler.places w ≡ true → hand_of at.scheduler.places w ≡ Some p → WaitsForLock at.state p
  pub worker : ℕ
  pub is_one : is_worker at.scheduler.places worker ≡ true
  pub path : Path
  pub in_hand : hand_of at.scheduler.places worker ≡ Some path
