-- While an inlet runs: what its instance does until the inlet is left (Cilk 5.4 manual, `inlet`).
use Rattle.std.specs.Prelude.{◌≡◌, ◌⊎◌, ℕ, Bool, true, false, List, [], ◌∷◌, Some}
use Rattle.cilk_laws_model.specs.labelled.Labelled.{Labelled, Action}
use Rattle.cilk_laws_model.specs.model.Path.{Path}
use Rattle.cilk_laws_model.specs.model.Instance.{Activation, Instance}
use Rattle.cilk_laws_model.specs.model.State.{TrapKind, Instances, instance_at}
use Rattle.cilk_laws_model.specs.model.Change.{is_function}
use Rattle.cilk_laws_model.specs.model.Written.{Heads}
use Rattle.cilk_laws_model.specs.model.Event.{Event, acted, ended, trapped, moved}
use Rattle.cilk_laws_model.specs.model.Scheduler.{hand_of}
use Rattle.cilk_laws_model.specs.model.Choice.{Choice, step}
use Rattle.cilk_laws_model.specs.model.Run.{Standing}
use Rattle.cilk_laws_model.specs.model.ViewTrees.{lowest}
use Rattle.cilk_check.specs.FormFinds.{is_inlet}
use Rattle.cilk_machine.specs.plans.effects.Known.{owner_of}

-- whether the activation right above the lowest, which is the procedure's, is an inlet's: above it are C functions that it called
abbrev pub runs_inlet : Labelled → Activation → List Activation → Bool
runs_inlet program a [] = false
runs_inlet program a (b ∷ []) = is_inlet (owner_of program a.body)
runs_inlet program a (b ∷ c ∷ below) = runs_inlet program b (c ∷ below)

abbrev pub in_inlet : Labelled → Instance → Bool
in_inlet program i = runs_inlet program i.top i.below

-- of such a stack, the activation that goes on is the inlet's own, or that of a C function
abbrev pub IsOfInlet : Labelled → Activation → List Activation → Type 0
IsOfInlet program a [] = ⊥
IsOfInlet program a (b ∷ []) = is_inlet (owner_of program a.body) ≡ true
IsOfInlet program a (b ∷ c ∷ below) = is_function (owner_of program a.body) ≡ true

-- the choice is a step of p, which stands there as i
pub record IsStep (at : Standing) (choice : Choice) (p : Path) (i : Instance) : Type 0 where
  pub by_step : choice.act ≡ step
  pub in_hand : hand_of at.scheduler.places choice.worker ≡ Some p
  pub lives : instance_at at.state.instances p ≡ Some i

-- the procedure stands where it stood, with as many children, and the same deliveries wait
pub record StandsStill (i later : Instance) : Type 0 where
  pub items : (lowest later.top later.below).items ≡ (lowest i.top i.below).items
  pub spawned : later.spawned ≡ i.spawned
  pub children : later.children ≡ i.children
  pub waiting : later.waiting ≡ i.waiting

-- p lives, and the inlet still runs or has been left
pub record GoesOn (program : Labelled) (p : Path) (i : Instance) (after : Instances) : Type 0 where
  pub later : Instance
  pub lives : instance_at after p ≡ Some later
  pub still : StandsStill i later
  pub runs : (in_inlet program later ≡ true) ⊎ (later.below ≡ [])

-- what a step of an instance in an inlet may be
pub data Alone (program : Labelled) (did : Event) (p : Path) (i : Instance) (after : Instances) : Type 0 where
  -- of the inlet, or of a C function called from it: the action is the head of the one that goes on
  acts : (n : ℕ) (act : Action) → i.aborted ≡ false → Heads i n act → IsOfInlet program i.top i.below → did ≡ acted p n → GoesOn program p i after
      → Alone program did p i after
  traps : (kind : TrapKind) (n : ℕ) → i.aborted ≡ false → did ≡ trapped kind p n → Alone program did p i after
  -- once it is aborted
  parks : i.aborted ≡ true → did ≡ moved → Alone program did p i after
  ends : i.aborted ≡ true → did ≡ ended p → Alone program did p i after

-- an instance whose activations are as they were
pub record Unmoved (i : Instance) (p : Path) (after : Instances) : Type 0 where
  pub later : Instance
  pub lives : instance_at after p ≡ Some later
  pub top : later.top ≡ i.top
  pub below : later.below ≡ i.below

-- the inlet stands on the procedure's activation
pub record HasStarted (program : Labelled) (p : Path) (i : Instance) (after : Instances) : Type 0 where
  pub later : Instance
  pub lives : instance_at after p ≡ Some later
  pub runs : in_inlet program later ≡ true
  pub below : later.below ≡ i.top ∷ []
