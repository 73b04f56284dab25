-- Where an instance does not step, the written rule allows it no step.
use Rattle.std.specs.Prelude.{◌≡◌, true, Some, ⊤}
use Rattle.cilk_model.specs.labelled.Labelled.{Labelled}
use Rattle.cilk_model.specs.Path.{Path}
use Rattle.cilk_model.specs.Instance.{Instance}
use Rattle.cilk_model.specs.State.{State, instance_at, has_live_child}
use Rattle.cilk_model.specs.WrittenRule.{Allows}
use Rattle.cilk_model.specs.Pick.{Step, waits, parks, goes_on, ends, spawns, step_of}

-- nothing is changed
abbrev pub Stays : Step → Type 0
Stays waits = ⊤
Stays parks = ⊤
Stays (goes_on t did) = ⊥
Stays (ends t did) = ⊥
Stays (spawns child t did) = ⊥

-- an aborted instance only ends, after its children (Cilk 5.4 manual, `abort`)
pub record AbortedParent (s : State) (p : Path) : Type 0 where
  pub instance : Instance
  pub live : instance_at s.instances p ≡ Some instance
  pub aborted : instance.aborted ≡ true
  pub child : has_live_child s.instances p ≡ true

-- it waits only where the rule allows it nothing, unless it is aborted and has a live child
abbrev pub EachWaitIsForced : Type 0
EachWaitIsForced = (program : Labelled) (s : State) (p : Path) (t : State) → Stays (step_of program s p) → Allows program s p t → AbortedParent s p
