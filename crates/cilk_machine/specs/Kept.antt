-- The records of a machine: that each can be taken back, and what is kept behind a choice.
use Rattle.std.specs.Prelude.{◌≡◌, ◌<◌, ◌≤◌, ◌+◌, ◌∷◌, ℕ, ⊤, Bool, true, false, cond, List, [], length, is_some}
use Rattle.cilk_machine_undo.specs.syntax.Tree.{Program}
use Rattle.cilk_machine_undo.specs.frame.Frames.{Frame}
use Rattle.cilk_machine_undo.specs.plans.declared.parts.Parts.{Parts}
use Rattle.cilk_sched.specs.model.Hands.{WorkerOf}
use Rattle.cilk_sched.specs.declared.outcome.Outcome.{Outcome}
use Rattle.cilk_sched.specs.declared.outcome.Outcome.TheVariants.{Running}
use Rattle.cilk_machine_undo.specs.Undo.{Undo}
use Rattle.cilk_machine_undo.specs.Able.{CanTakeBack}
use Rattle.cilk_machine_undo.specs.Notes.{Undoes}
use Rattle.cilk_machine.specs.Situation.{Before, Situation}
use Rattle.cilk_machine.specs.Stands.{IsSound}
use Rattle.cilk_machine.specs.Pasts.{before_by, running_at, situation_of}

-- the program ran then
abbrev pub situation_at : Program → Before → Situation
situation_at p b = record { program = p; machine = b.machine; outcome = Running; choices = b.choices; keeps = false; past = [] }

-- the last choice can be taken back by its record, and what it was before is sound
pub record IsKept (p : Program) (u : Undo) (b : Before) : Type 0 where
  pub can : CanTakeBack u b.machine
  pub counted : 0 < b.choices
  pub sound : IsSound (situation_at p (before_by u b))

-- so can the choice before it, and so on
abbrev pub AllKept : Program → List Undo → Before → Type 0
AllKept p [] b = ⊤
AllKept p (u ∷ us) b = IsKept p u b × AllKept p us (before_by u b)

-- how many hands are empty
abbrev pub idle_hands : List (WorkerOf Frame) → ℕ
idle_hands [] = 0
idle_hands (at ∷ places) = idle_hands places + cond (is_some at.hand) 0 1

-- what is always true of a machine: it stands somewhere; there are no records where none are kept; and where they are, each can be taken back, and there
-- is room for one more of each empty hand, since a frame that comes to it takes no memory
pub record IsWhole (p : Program) (parts : Parts) (trapper : ℕ) (outcome : Outcome) (choices : ℕ) (keeps : Bool) (us : List Undo)
    (workers count capacity : ℕ) : Type 0 where
  pub sound : IsSound (situation_of p parts trapper outcome choices keeps us)
  pub crew : workers ≡ length parts.hands
  pub all : AllKept p us (running_at parts choices)
  pub none : keeps ≡ false → us ≡ []
  pub room : keeps ≡ true → count + idle_hands parts.hands ≤ capacity

-- a record more is kept, by which those parts are these again
pub record Adds (parts now : Parts) (us kept : List Undo) : Type 0 where
  pub undo : Undo
  pub is : kept ≡ undo ∷ us
  pub undoes : Undoes undo parts now

-- a record more, or none as before
abbrev pub KeepsAs : Bool → Parts → Parts → List Undo → List Undo → Type 0
KeepsAs true parts now us kept = Adds parts now us kept
KeepsAs false parts now us kept = (us ≡ []) × (kept ≡ [])
