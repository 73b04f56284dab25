-- What was noted of the frame in the hand was noted of the plan.
use Rattle.std.proofs.Common.{◌≡◌, ℕ, List, Some, refl, sym, ap, ◌∙◌, subst}
use Rattle.std.specs.Prelude.{Result, Ok, Err, IfOk}
use Rattle.cilk_machine_plan.specs.model.Hands.{WorkerOf, hand_of}
use Rattle.cilk_machine_plan.specs.frame.Frames.{Frame}
use Rattle.cilk_machine_plan.specs.agree.Agrees.{MachineParts}
use Rattle.cilk_machine_plan.specs.declared.plan.Plan.{Plan}
use Rattle.cilk_machine_plan.specs.declared.did.NoMemory.{NoMemory}
use Rattle.cilk_machine_plan.specs.Ready.{frame_of, frame_in}
use Rattle.cilk_machine_plan.specs.declared.spent.Spent.TheVariants.{Nothing}
use Rattle.cilk_machine_undo.specs.declared.undo.Undo as code
use Rattle.cilk_machine_undo.specs.declared.undo.Undo.TheVariants as kept
use Rattle.cilk_machine_undo.specs.Records.{undo_of}
use Rattle.cilk_machine_undo.specs.Words.{undo_by, undo_with}
use Rattle.cilk_machine_undo.specs.Notes.{Notes}

pub noted-by : (m : MachineParts) (w : ℕ) (u : code.Undo) {f g : Frame} {x y : Plan} → x ≡ y → f ≡ g → Notes m w g y u → Notes m w f x u
noted-by m w u {f = f} {y = y} is same h =
    subst (λ p. Notes m w f p u) (sym is) (subst (λ k. Notes m w k y u) (sym same) h)

pub ok-noted : {P Q : code.Undo → Type 0} (r : Result code.Undo NoMemory) → IfOk r P → ((u : code.Undo) → P u → Q u) → IfOk r Q
ok-noted (Ok u) h goes = goes u h
ok-noted (Err e) h goes = h

pub in-hand : (places : List (WorkerOf Frame)) (w : ℕ) (f : Frame) → hand_of places w ≡ Some f → frame_in places w ≡ f
in-hand places w f held = ap frame_of held

with-nothing : (u : code.Undo) → undo_with u Nothing ≡ undo_by u
with-nothing (kept.Stayed w) = refl
with-nothing (kept.Went s) = refl
with-nothing (kept.Wrote s writing) = refl
with-nothing (kept.Called s) = refl
with-nothing (kept.Printed s count) = refl
with-nothing (kept.Turned s was lock) = refl
with-nothing (kept.Marked s ids) = refl
with-nothing (kept.Spawned s id) = refl
with-nothing (kept.Took taken writing w) = refl
with-nothing (kept.Opened taken w) = refl
with-nothing (kept.Closed activation w) = refl
with-nothing (kept.Answered activation writing w) = refl
with-nothing (kept.Parked id w) = refl
with-nothing (kept.Ended gone w) = refl
with-nothing (kept.Popped w) = refl
with-nothing (kept.Stolen w v) = refl

-- what is noted of a step that moves nothing out of the machine is its record
pub whole-noted : (m : MachineParts) (w : ℕ) (u : code.Undo) {f g : Frame} {x y : Plan} → x ≡ y → f ≡ g → undo_with u Nothing ≡ undo_of m w g y
    → undo_by u ≡ undo_of m w f x
whole-noted m w u is same noted = sym (with-nothing u) ∙ noted ∙ (λ j. undo_of m w (sym same j) (sym is j))
