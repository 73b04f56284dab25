-- When two standings are the same as far as the future can depend on them.
use Rattle.std.specs.Prelude.{◌≡◌}
use Rattle.cilk_machine_agree.specs.model.Path.{Path}
use Rattle.cilk_machine_agree.specs.model.State.{State, instance_at}
use Rattle.cilk_machine_agree.specs.model.Run.{Standing}

-- at each path stands the same instance, or none; in which order they were born does not matter
pub record SameState (a b : State) : Type 0 where
  pub globals : a.globals ≡ b.globals
  pub locks : a.locks ≡ b.locks
  pub output : a.output ≡ b.output
  pub outcome : a.outcome ≡ b.outcome
  pub at : (p : Path) → instance_at a.instances p ≡ instance_at b.instances p

-- each worker has the same in its hand and its deque; what lives and no worker has is parked, so that needs no word
pub record Same (a b : Standing) : Type 0 where
  pub state : SameState a.state b.state
  pub places : a.scheduler.places ≡ b.scheduler.places
