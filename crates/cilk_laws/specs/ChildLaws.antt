-- What holds of an instance and its children, over every list of possible choices.
use Rattle.std.specs.Prelude.{◌≡◌, ◌≢◌, ◌≤◌, ℕ, ℤ, Bool, true, false, not, List, [], ◌∷◌, ◌++◌, Some, count_by}
use Rattle.std.specs.List.{list_all}
use Rattle.cilk_laws_model.specs.labelled.Labelled.{Labelled, sync, abort}
use Rattle.cilk_laws_model.specs.model.Path.{Path, child_path, parent_of, is_below}
use Rattle.cilk_laws_model.specs.model.Instance.{through, Delivery, Instance}
use Rattle.cilk_laws_model.specs.model.State.{instance_at, is_live}
use Rattle.cilk_laws_model.specs.model.Event.{Event, spawned, delivered}
use Rattle.cilk_laws_model.specs.model.Fate.{is_birth, was_made}
use Rattle.cilk_laws_model.specs.model.Written.{AtBoundary}
use Rattle.cilk_laws_model.specs.model.Choice.{Choice}
use Rattle.cilk_laws_model.specs.model.Run.{Standing, Position, event_of, after}
use Rattle.cilk_laws.specs.Moments.{mark_at, deliveries_at, Acts, Settles, Settled, Lived, is_delivery, gives_value}
use Rattle.cilk_laws.specs.Calls.{calls_suit}
use Rattle.cilk_laws.specs.Inlets.{in_inlet, IsStep, Alone, Unmoved, HasStarted}

-- one choice more, after a list of them, leads from `at` to `next`
pub record Leads (program : Labelled) (n : ℕ) (choices : List Choice) (choice : Choice) (at next : Position) : Type 0 where
  pub before : after program n choices ≡ Some at
  pub later : after program n (choices ++ choice ∷ []) ≡ Some next

-- as p passes a `sync` of its procedure, or returns, each child that it spawned before is settled (Cilk 5.4 manual, `sync`, `return`)
abbrev pub ChildrenAreSettled : Type 0
ChildrenAreSettled = (program : Labelled) (n : ℕ) (choices : List Choice) (choice : Choice) (at next : Position)
    → Leads program n choices choice at next → (p : Path) → Settles program at.standing choice p
    → (k : ℕ) → was_made at.events (child_path p k) ≡ true → Settled program n choices at (child_path p k)

-- each path that was made has lived
abbrev pub TheMadeHaveLived : Type 0
TheMadeHaveLived = (program : Labelled) (n : ℕ) (choices : List Choice) (at : Position) → after program n choices ≡ Some at
    → (p : Path) → was_made at.events p ≡ true → Lived program n choices p

-- no path is spawned twice, and the root never
pub record SpawnedOnce (events : List Event) : Type 0 where
  pub each : (p : Path) → count_by (is_birth p) events ≤ 1
  pub root : count_by (is_birth []) events ≡ 0

abbrev pub TheMadeAreSpawnedOnce : Type 0
TheMadeAreSpawnedOnce = (program : Labelled) (n : ℕ) (choices : List Choice) (at : Position) → after program n choices ≡ Some at → SpawnedOnce at.events

-- no path's value is taken twice
abbrev pub DeliveredOnce : Type 0
DeliveredOnce = (program : Labelled) (n : ℕ) (choices : List Choice) (at : Position) → after program n choices ≡ Some at
    → (p : Path) → count_by (is_delivery p) at.events ≤ 1

-- an `abort` of p marks each live descendant of p (Cilk 5.4 manual, `abort`)
abbrev pub AbortMarks : Type 0
AbortMarks = (program : Labelled) (n : ℕ) (choices : List Choice) (choice : Choice) (at next : Position)
    → Leads program n choices choice at next → (p : Path) → Acts program at.standing choice p abort
    → (q : Path) → is_below p q ≡ true → is_live at.standing.state.instances q ≡ true → mark_at next.standing.state.instances q ≡ Some true

-- and no other, nor p itself: where a live instance is not below p, it is marked where it was
abbrev pub AbortSparesOthers : Type 0
AbortSparesOthers = (program : Labelled) (n : ℕ) (choices : List Choice) (choice : Choice) (at next : Position)
    → Leads program n choices choice at next → (p : Path) → Acts program at.standing choice p abort
    → (q : Path) → is_below p q ≡ false → mark_at next.standing.state.instances q ≡ mark_at at.standing.state.instances q

-- each delivery that waited waits still, in its order
abbrev pub AbortKeepsDeliveries : Type 0
AbortKeepsDeliveries = (program : Labelled) (n : ℕ) (choices : List Choice) (choice : Choice) (at next : Position)
    → Leads program n choices choice at next → (p : Path) → Acts program at.standing choice p abort
    → (q : Path) → deliveries_at next.standing.state.instances q ≡ deliveries_at at.standing.state.instances q

-- a child is not marked as it is spawned
abbrev pub TheNewAreUnmarked : Type 0
TheNewAreUnmarked = (program : Labelled) (n : ℕ) (choices : List Choice) (choice : Choice) (at next : Position)
    → Leads program n choices choice at next → (c : Path) (k : ℕ) → event_of program at.standing choice ≡ spawned c k
    → mark_at next.standing.state.instances c ≡ Some false

-- an instance that was not marked, and is after a choice, was marked by an `abort` of one above it
pub record MarkedBy (program : Labelled) (at : Standing) (choice : Choice) (q : Path) : Type 0 where
  pub path : Path
  pub acts : Acts program at choice path abort
  pub above : is_below path q ≡ true

abbrev pub OnlyAnAbortMarks : Type 0
OnlyAnAbortMarks = (program : Labelled) (n : ℕ) (choices : List Choice) (choice : Choice) (at next : Position)
    → Leads program n choices choice at next → (q : Path) → mark_at at.standing.state.instances q ≢ Some true
    → mark_at next.standing.state.instances q ≡ Some true → MarkedBy program at.standing choice q

-- the events after those that came before
pub record Further (before after : List Event) (Holds : Event → Bool) : Type 0 where
  pub new : List Event
  pub is : after ≡ before ++ new
  pub each : list_all Holds new ≡ true

-- one that is marked gives no value afterwards, and none of it is taken
abbrev pub TheMarkedAreSilent : Type 0
TheMarkedAreSilent = (program : Labelled) (n : ℕ) (front rest : List Choice) (early late : Position)
    → after program n front ≡ Some early → after program n (front ++ rest) ≡ Some late
    → (p : Path) → mark_at early.standing.state.instances p ≡ Some true → Further early.events late.events (λ e. not (gives_value p e))

-- and takes no value of a child: the deliveries that wait for it end with it (Cilk 5.4 manual, `abort`)
abbrev pub TheMarkedTakeNothing : Type 0
TheMarkedTakeNothing = (program : Labelled) (n : ℕ) (front rest : List Choice) (early late : Position)
    → after program n front ≡ Some early → after program n (front ++ rest) ≡ Some late
    → (p : Path) → mark_at early.standing.state.instances p ≡ Some true
    → (c : Path) → parent_of c ≡ Some p → Further early.events late.events (λ e. not (is_delivery c e))

-- a child's value is taken only at a boundary of its parent, where it waits first (Cilk 5.4 manual, `inlet`)
pub record IsTaken (at : Standing) (c : Path) : Type 0 where
  pub parent : Path
  pub is_parent : parent_of c ≡ Some parent
  pub instance : Instance
  pub lives : instance_at at.state.instances parent ≡ Some instance
  pub boundary : AtBoundary instance
  pub delivery : Delivery
  pub others : List Delivery
  pub first : instance.waiting ≡ delivery ∷ others
  pub brings : delivery.child ≡ c

abbrev pub TakenAtBoundaries : Type 0
TakenAtBoundaries = (program : Labelled) (n : ℕ) (choices : List Choice) (choice : Choice) (at next : Position)
    → Leads program n choices choice at next → (c : Path) (k : ℕ) → event_of program at.standing choice ≡ delivered c k
    → IsTaken at.standing c

-- a delivery that an inlet takes starts that inlet
abbrev pub EachInletStarts : Type 0
EachInletStarts = (program : Labelled) → calls_suit program ≡ true → (n : ℕ) (choices : List Choice) (choice : Choice) (at next : Position)
    → Leads program n choices choice at next → (c : Path) (k : ℕ) → event_of program at.standing choice ≡ delivered c k
    → (taken : IsTaken at.standing c) (inlet m : ℕ) (others : List ℤ) → taken.delivery.receiver ≡ through inlet others m
    → HasStarted program taken.parent taken.instance next.standing.state.instances

-- from there on until it is left, each step of its instance is the inlet's own, or of a C function called from it, unless it traps or is
-- aborted (Cilk 5.4 manual, `inlet`)
abbrev pub InletsRunAlone : Type 0
InletsRunAlone = (program : Labelled) → calls_suit program ≡ true → (n : ℕ) (choices : List Choice) (choice : Choice) (at next : Position)
    → Leads program n choices choice at next → (p : Path) (i : Instance) → IsStep at.standing choice p i → in_inlet program i ≡ true
    → Alone program (event_of program at.standing choice) p i next.standing.state.instances

-- and the steps of others leave its activations as they are
abbrev pub OthersLeaveIt : Type 0
OthersLeaveIt = (program : Labelled) (n : ℕ) (choices : List Choice) (choice : Choice) (at next : Position)
    → Leads program n choices choice at next → (p : Path) (i : Instance) → instance_at at.standing.state.instances p ≡ Some i
    → ¬ IsStep at.standing choice p i → Unmoved i p next.standing.state.instances

-- a `sync` is passed by a procedure itself, in no C function or inlet (Cilk 5.4 manual, `sync`)
abbrev pub OnlyProceduresSync : Type 0
OnlyProceduresSync = (program : Labelled) → calls_suit program ≡ true → (n : ℕ) (choices : List Choice) (choice : Choice) (at : Position)
    → after program n choices ≡ Some at → (p : Path) (acts : Acts program at.standing choice p sync) → acts.instance.below ≡ []
