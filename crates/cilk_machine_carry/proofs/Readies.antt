-- What a plan needs is there.
use Rattle.std.proofs.Common.{◌≡◌, ◌≢◌, ℕ, zero, suc, ◌+◌, ◌<◌, ◌^◌, ℤ, pos, true, not, List, [], ◌∷◌, map, length, Option, refl, sym, ap, ◌∙◌, subst, arith}
use Rattle.std.specs.Prelude.{slice_index_or}
use borrow.Author.Tests.{ltb-true}
use Rattle.cilk_machine_plan.specs.nodes.declared.area.Area.{Area}
use Rattle.cilk_machine_plan.specs.nodes.declared.area.Area.TheVariants.{Own, Outer, Global}
use Rattle.cilk_machine_plan.specs.nodes.declared.slot.Slot.{Slot}
use Rattle.cilk_machine_plan.specs.labelled.Labelled.{Declaration, local, outer, global, of_lock, of_body, unknown, Variable, Body, Labelled}
use Rattle.cilk_machine_plan.specs.labelled.Bodies.{label}
use Rattle.cilk_machine_plan.specs.model.Values.{Values, Cell}
use Rattle.cilk_machine_plan.specs.model.Instance.{Instance, no_body}
use Rattle.cilk_machine_plan.specs.model.State.{is_empty}
use Rattle.cilk_machine_plan.specs.model.Change.{gone_on}
use Rattle.cilk_machine_plan.specs.nodes.declared.body.Body as code
use Rattle.cilk_machine_plan.specs.nodes.Slots.{size_of, cells_of, flat, procedure_around, slot_from, slot_of}
use Rattle.cilk_machine_plan.specs.frame.Frames.{Frame, depth, gone_to, left}
use Rattle.cilk_machine_plan.specs.frame.Begins.{Takes}
use Rattle.cilk_machine_plan.specs.frame.Cells.{SameCell, HasCell, no_variable, own_variables, outer_variables}
use Rattle.cilk_machine_plan.specs.frame.Reads.{lent, seen_by}
use Rattle.cilk_machine_plan.specs.frame.Stands.{StandsFor}
use Rattle.cilk_machine_plan.proofs.frame_laws.Values.{cell-there}
use Rattle.cilk_machine_plan.proofs.frame_laws.Steps.{lent-seen, alone-is}
use Rattle.cilk_machine_plan.proofs.frame_laws.Tops.{left-stands}
use Rattle.cilk_machine_plan.specs.agree.Laws.{InHand, instance_of}
use Rattle.cilk_machine_plan.proofs.agree_laws.Alone.{holds, free}
use Rattle.cilk_machine_plan.proofs.agree_laws.Actions.{gone}
use Rattle.cilk_machine_plan.proofs.agree_laws.Between.{senders-can-end, parents-outlive}
use Rattle.cilk_machine_plan.specs.declared.plan.Plan.{Plan}
use Rattle.cilk_machine_plan.specs.declared.plan.Plan.TheVariants as plan
use Rattle.cilk_machine_plan.specs.Plans.{IsPlan, Caller}
use Rattle.cilk_machine_plan.specs.Ready.{Fits, Acting, Needs, Ready}
use Rattle.cilk_machine_carry.specs.Carries.{CellsAreFew, Starts}

-- a cell of one of the variables is one of their cells
slot-few : (area : Area) (at : ℕ) (variables : List Variable) (n k : ℕ) → n < length variables → k < size_of (slice_index_or variables n no_variable)
    → (slot_from area at variables n).offset + k < at + cells_of variables
slot-few area at [] n k h below = absurd (omega arith)
slot-few area at (v ∷ variables) zero k h below = omega arith
slot-few area at (v ∷ variables) (suc n) k h below = let e = slot-few area (at + size_of v) variables n k (omega arith) below in omega arith

every : (P : Body → Type 0) (bodies : List Body) (b : ℕ) → ((c : ℕ) → c < length bodies → P (slice_index_or bodies c no_body)) → P no_body
    → P (slice_index_or bodies b no_body)
every P [] b h none = none
every P (x ∷ bodies) zero h none = h 0 (omega arith)
every P (x ∷ bodies) (suc b) h none = every P bodies b (λ c below. h (suc c) (omega arith)) none

few-body : (program : Labelled) → CellsAreFew program → (b : ℕ) → cells_of (own_variables program b) < 2 ^ 32
few-body program few b = every (λ (x : Body). cells_of x.variables < 2 ^ 32) program.bodies b few.own (omega arith)

numbered : (program : Labelled) → CellsAreFew program → (b : ℕ) (d : Declaration) (k : ℕ) → HasCell program b d k → (slot_of program b d).offset + k < 2 ^ 32
numbered program few b (local n) k (inside, below) =
    let l = slot-few Own 0 (own_variables program b) n k inside below in
    let m = few-body program few b in
    omega (arith, l, m)
numbered program few b (outer n) k (inlet, (inside, below)) =
    let l = slot-few Outer 0 (outer_variables program b) n k inside below in
    let m = few-body program few (procedure_around program b) in
    omega (arith, l, m)
numbered program few b (global n) k (inside, below) =
    let l = slot-few Global 0 program.globals n k inside below in
    omega (arith, l, few.globals)
numbered program few b (of_lock n) k h = absurd h
numbered program few b (of_body n) k h = absurd h
numbered program few b unknown k h = absurd h

fits : (program : Labelled) → CellsAreFew program → (f : Frame) (i : Instance) (globals : Values) (cells : List ℤ) → StandsFor program f i
    → cells ≡ flat globals → map length globals ≡ map size_of program.globals → (slot : Slot) (index : ℕ) (cell : Cell)
    → SameCell program i.top.body slot index cell → Fits slot index f cells
fits program few f i globals cells stands are sizes slot index cell same =
    subst (λ x. Fits slot x f cells) (sym same.index_is)
    (subst (λ x. Fits x cell.index f cells) (sym same.slot_is)
    (subst (λ x. Fits (slot_of program i.top.body cell.place) cell.index f x) (sym are)
    (record {
      numbered = numbered program few i.top.body cell.place cell.index same.there;
      there = cell-there program i.top.body (lent f (flat globals) true) (seen_by i globals true) (lent-seen program f i globals true stands sizes)
          cell.place cell.index same.there;
    })))

module _ (choice : ℕ) (t : InHand) (few : CellsAreFew (label t.program)) (body : Option code.Body) where
  acting : Acting t.machine.nodes t.frame.id
  acting = record { live = (holds t).live; free = free t }

  fits-here : (f : Frame) (i : Instance) → StandsFor (label t.program) f i → (slot : Slot) (index : ℕ) (cell : Cell)
      → SameCell (label t.program) i.top.body slot index cell → Fits slot index f t.machine.outside.cells
  fits-here f i stands slot index cell same =
      fits (label t.program) few f i t.at.state.globals t.machine.outside.cells stands t.agrees.outside.cells t.agrees.outside.sizes slot index cell same

  deeper : Caller t → 1 < depth t.frame
  deeper c =
      ltb-true 1 (depth t.frame) (alone-is (label t.program) t.frame (instance_of t) (holds t).stands ∙ ap (λ below. not (is_empty below)) c.is)

  needs : (x : Plan) → x ≢ plan.Wait → Starts t.program body x → IsPlan t x → Needs choice t.machine.nodes t.machine.outside.cells t.frame body x
  needs plan.Wait goes starts h = absurd (goes refl)
  needs plan.Park goes starts h = tt
  needs plan.End goes starts h =
      record { acting = acting; childless = h.childless; outlives = λ r e. (parents-outlive t (pos 0) choice r e h.childless).1 }
  needs (plan.Trap kind n) goes starts h = tt
  needs (plan.Take child n reached z) goes starts h =
      fits-here t.frame (instance_of t) (holds t).stands reached.slot reached.index h.at.cell h.at.same
  needs (plan.Enter child n inlet arguments) goes starts h =
      record { takes = subst (λ b. Takes b arguments) (sym starts) h.takes; depth = h.depth }
  needs (plan.Go n to) goes starts h = tt
  needs (plan.Write n reached z to) goes starts h =
      fits-here (gone_to to t.frame) (gone_on (pos 1) (instance_of t)) (gone t (pos 1) to h.next) reached.slot reached.index h.at.cell h.at.same
  needs (plan.Call n awaits callee arguments to) goes starts h =
      record { takes = subst (λ b. Takes b arguments) (sym starts) h.takes; depth = h.depth }
  needs (plan.Leave n) goes starts h = deeper h.caller
  needs (plan.Answer n reached z) goes starts h =
      let c = h.caller in (
        deeper c,
        fits-here (left t.frame) (record (instance_of t) { top = c.caller; below = c.below })
            (left-stands (label t.program) t.frame (instance_of t) c.caller c.below (holds t).stands c.is) reached.slot reached.index h.at.cell h.at.same,
      )
  needs (plan.Return n z) goes starts h =
      let c = senders-can-end t z h.childless in
      record {
        acting = record { live = c.live; free = c.free };
        childless = c.childless;
        outlives = λ r e. (parents-outlive t z choice r e h.childless).0;
      }
  needs (plan.Spawn n receiver callee arguments to) goes starts h =
      record { takes = subst (λ b. Takes b arguments) (sym starts) h.takes; room = h.room }
  needs (plan.Print n bytes to) goes starts h = tt
  needs (plan.TurnLock n lock now to) goes starts h = tt
  needs (plan.Abort n to) goes starts h = tt

  pub ready : (x : Plan) → x ≢ plan.Wait → Starts t.program body x → IsPlan t x → Ready choice t.machine.nodes t.machine.outside.cells t.frame body x
  ready x goes starts h = record { acting = acting; needs = needs x goes starts h }
