-- What holds of every run.
use Rattle.std.specs.Prelude.{◌≡◌, ◌≢◌, ◌↔◌, ◌≤◌, ℕ, ◌+◌, ◌-◌, ◌^◌, ℤ, true, false, not, All, List, [], ◌∷◌, ◌++◌, length, Some, None, count_by}
use Rattle.cilk_model.specs.labelled.Labelled.{Labelled}
use Rattle.cilk_model.specs.Path.{Path}
use Rattle.cilk_model.specs.labelled.Items.{head_of}
use Rattle.cilk_model.specs.Instance.{Activation, Instance}
use Rattle.cilk_model.specs.State.{State, running, finished, held, instance_at, is_live, has_live_child, lock_at}
use Rattle.cilk_model.specs.Scheduler.{worker_at, bottom_of}
use Rattle.cilk_model.specs.Choice.{Choice, step, waiting}
use Rattle.cilk_model.specs.Run.{Standing, Position, is_crew, refusal_of, next_of, opening, after, one_more}
use Rattle.cilk_model.specs.End.{is_stuck}
use Rattle.cilk_laws_model.specs.Loops.{breaks_fit}
use Rattle.cilk_laws_model.specs.Locks.{AllWait}
use Rattle.cilk_laws_model.specs.Hands.{worker_paths, EachInItsPlace}

-- a list of choices is possible where its front is, and then its last
abbrev pub OneByOne : Type 0
OneByOne = (program : Labelled) (n : ℕ) (choices : List Choice) (choice : Choice)
    → after program n (choices ++ choice ∷ []) ≡ one_more program choice (after program n choices)

-- each instance is in its place at the start, and after each choice that is possible where each was
pub record PlacesAreKept : Type 0 where
  pub at_first : (program : Labelled) (main n : ℕ) → is_crew n ≡ true → EachInItsPlace (opening program main n)
  pub by_choice : (program : Labelled) (at : Standing) (choice : Choice) → refusal_of program at choice ≡ None
      → EachInItsPlace at → EachInItsPlace (next_of program at choice)
  -- and so after every list of possible choices
  pub always : (program : Labelled) (n : ℕ) (choices : List Choice) (at : Position) → after program n choices ≡ Some at
      → EachInItsPlace at.standing

-- a program is stuck exactly where it has not ended and no choice is possible
abbrev pub StuckExactly : Type 0
StuckExactly = (program : Labelled) (at : Standing)
    → (is_stuck program at ≡ true) ↔ ((at.state.outcome ≡ running) × ((choice : Choice) → refusal_of program at choice ≢ None))

-- after every list of possible choices each live instance without a live child is the last of a worker's line:
-- in its hand, or at the bottom of its deque where the hand is empty (Cilk 5.4 manual, work stealing)
abbrev pub EachLeafIsBusy : Type 0
EachLeafIsBusy = (program : Labelled) (n : ℕ) (choices : List Choice) (at : Position) → after program n choices ≡ Some at
    → (p : Path) → is_live at.standing.state.instances p ≡ true → has_live_child at.standing.state.instances p ≡ false
    → (w : ℕ) × (bottom_of (worker_paths (worker_at at.standing.scheduler.places w)) ≡ Some p)

-- after every list of possible choices of one worker, at most one live instance has no live child
abbrev pub OneWorkerHasOneLeaf : Type 0
OneWorkerHasOneLeaf = (program : Labelled) (choices : List Choice) (at : Position) → after program 1 choices ≡ Some at
    → (p q : Path) → is_live at.standing.state.instances p ≡ true → has_live_child at.standing.state.instances p ≡ false
    → is_live at.standing.state.instances q ≡ true → has_live_child at.standing.state.instances q ≡ false → p ≡ q

-- after every list of possible choices of a program whose `continue`s stand in loops, and whose `break`s in loops or
-- `switch`es, each live instance has an action to go on with, and so has each of its activations that wait for the one above: the closing
-- brace of a body comes last
abbrev pub EachHasHead : Type 0
EachHasHead = (program : Labelled) → breaks_fit program ≡ true → (n : ℕ) (choices : List Choice) (at : Position) → after program n choices ≡ Some at
    → (p : Path) (i : Instance) → instance_at at.standing.state.instances p ≡ Some i
    → (head_of i.top.items ≢ None) × All (λ (a : Activation). head_of a.items ≢ None) i.below

pub record WithinLimits (s : State) : Type 0 where
  pub instances : length s.instances ≤ 65536
  pub children : (p : Path) (i : Instance) → instance_at s.instances p ≡ Some i → i.children ≤ 2 ^ 32 - 1
  pub activations : (p : Path) (i : Instance) → instance_at s.instances p ≡ Some i → 1 + length i.below ≤ 256
  pub output : length s.output ≤ 1048576

-- after every list of possible choices
abbrev pub LimitsAreKept : Type 0
LimitsAreKept = (program : Labelled) (n : ℕ) (choices : List Choice) (at : Position) → after program n choices ≡ Some at
    → WithinLimits at.standing.state

-- after every list of possible choices, where the program has not ended and no worker's step has to wait, some choice is possible
abbrev pub SomeChoiceIsPossible : Type 0
SomeChoiceIsPossible = (program : Labelled) (n : ℕ) (choices : List Choice) (at : Position) → after program n choices ≡ Some at
    → at.standing.state.outcome ≡ running
    → ((w : ℕ) → refusal_of program at.standing (record { worker = w; act = step }) ≢ Some waiting)
    → (choice : Choice) × (refusal_of program at.standing choice ≡ None)

-- after every list of possible choices of a program whose `continue`s stand in loops, and whose `break`s in loops or
-- `switch`es, it is stuck only where each worker with a full hand waits for a lock
abbrev pub StuckOnLocks : Type 0
StuckOnLocks = (program : Labelled) → breaks_fit program ≡ true → (n : ℕ) (choices : List Choice) (at : Position) → after program n choices ≡ Some at
    → is_stuck program at.standing ≡ true → AllWait at.standing

-- after every list of possible choices of n workers at most n live instances have no live child
abbrev pub NoMoreLeavesThanWorkers : Type 0
NoMoreLeavesThanWorkers = (program : Labelled) (n : ℕ) (choices : List Choice) (at : Position) → after program n choices ≡ Some at
    → count_by (λ e. not (has_live_child at.standing.state.instances e.path)) at.standing.state.instances ≤ n

-- after every list of possible choices at the end of which the root has returned, no instance lives and no lock is held
abbrev pub FinishedIsEmpty : Type 0
FinishedIsEmpty = (program : Labelled) (n : ℕ) (choices : List Choice) (at : Position) (z : ℤ) → after program n choices ≡ Some at
    → at.standing.state.outcome ≡ finished z
    → (at.standing.state.instances ≡ []) × ((k : ℕ) (p : Path) → lock_at at.standing.state k ≢ held p)
