-- A step that was carried out is undone by its record.
use Rattle.std.proofs.Common.{◌≡◌, ◌<◌, ◌≤◌, ℕ, Option, Some, refl, sym, ap, ◌∙◌, subst}
use Rattle.cilk_machine_undo.specs.plans.model.Hands.{hand_of}
use Rattle.cilk_machine_undo.specs.nodes.declared.body.Body.{Body}
use Rattle.cilk_machine_undo.specs.frame.Frames.{Frame, depth}
use Rattle.cilk_machine_undo.specs.spawn.Nodes.{IsTree, node_at, is_live}
use Rattle.cilk_machine_undo.specs.agree.Outside.{Outcome, running}
use Rattle.cilk_machine_undo.specs.agree.Agrees.{MachineParts}
use Rattle.cilk_machine_undo.specs.plans.declared.plan.Plan.{Plan}
use Rattle.cilk_machine_undo.specs.plans.declared.did.Done.{Done}
use Rattle.cilk_machine_undo.specs.plans.declared.parts.Parts.{Parts}
use Rattle.cilk_machine_undo.specs.plans.PartWords.{machine_of, outcome_of}
use Rattle.cilk_machine_carry.specs.Carries.{CanCarry, Becomes}
use Rattle.cilk_machine_carry.proofs.Whole.{worker-there, ready-there}
use Rattle.cilk_machine_undo.specs.Undo.{Undo, undone, nothing, cell, lock, printed, acted, parked, spawned, ended, popped, stolen}
use Rattle.cilk_machine_undo.specs.Records.{undo_of}
use Rattle.cilk_machine_undo.specs.Able.{CanTakeBack}
use Rattle.cilk_machine_undo.specs.Laws.{CanUndo}
use Rattle.cilk_machine_undo.specs.Notes.{Undoes}
use Rattle.cilk_machine_undo.specs.Words.{machine_in}
use Rattle.cilk_machine_undo.proofs.Plans.{plan-back}
use Rattle.cilk_machine_undo.proofs.Able.{plan-can}

abbrev with_outcome : MachineParts → Outcome → MachineParts
with_outcome m p = record m { outside = record m.outside { outcome = p } }

-- what the outcome was makes no difference
any-outcome : (u : Undo) (m : MachineParts) (p : Outcome) → undone u (with_outcome m p) ≡ undone u m
any-outcome (acted w change family nothing) m p = refl
any-outcome (acted w change family (cell reached z)) m p = refl
any-outcome (acted w change family (lock at was)) m p = refl
any-outcome (acted w change family (printed count)) m p = refl
any-outcome (parked w k) m p = refl
any-outcome (spawned w k n flag) m p = refl
any-outcome (ended w of) m p = refl
any-outcome (popped w) m p = refl
any-outcome (stolen w v) m p = refl

can-any : (u : Undo) (m : MachineParts) (p : Outcome) → CanTakeBack u m → CanTakeBack u (with_outcome m p)
can-any (acted w change family beside) m p c =
    record { worker = c.worker; frame = c.frame; hand = c.hand; allows = c.allows; tree = c.tree }
can-any (parked w k) m p c = record { worker = c.worker; empty = c.empty; live = c.live }
can-any (spawned w k n flag) m p c =
    record { worker = c.worker; above = c.above; live = c.live; childless = c.childless; free = c.free; tree = c.tree }
can-any (ended w of) m p c = record { there = c.there; dead = c.dead; tree = c.tree; lives_on = c.lives_on }
can-any (popped w) m p c = record { worker = c.worker; frame = c.frame; hand = c.hand }
can-any (stolen w v) m p c =
    record { pops = record { worker = c.pops.worker; frame = c.pops.frame; hand = c.pops.hand }; victim = c.victim; other = c.other }

module _ (choice : ℕ) (parts : Parts) (w : ℕ) (body : Option Body) (x : Plan) (can : CanCarry parts w body x) (f : Frame)
    (held : hand_of parts.hands w ≡ Some f) (some : 0 < depth f) (limit : depth f ≤ 256) where
  can-undo : CanUndo choice (machine_in parts) w f body x
  can-undo =
      let t = can.in_hand in
      let is = can.planned.machine in
      record {
        tree = subst (λ (m : MachineParts). IsTree m.nodes) is t.agrees.tree;
        worker = worker-there choice parts w body x t can.planned;
        hand = held;
        runs = refl;
        some = some;
        limit = limit;
        own = λ i g live parked.
            (t.agrees.waits i g (ap (λ (m : MachineParts). is_live (node_at m.nodes i)) is ∙ live)
            (ap (λ (m : MachineParts). (node_at m.nodes i).parked) is ∙ parked)).own;
        ready = ready-there choice parts w body x can f held;
      }

  pub undoes : (now : Parts) (done : Done) (u : Undo) → Becomes choice parts w body x now done → u ≡ undo_of (machine_in parts) w f x → Undoes u parts now
  undoes now done u becomes is =
      let m = machine_in parts in
      let told = outcome_of done.outcome in
      let after = (becomes f held).machine in
      record {
        can = can-any u (machine_of now told) running
            (subst (λ y. CanTakeBack y (machine_of now told)) (sym is)
            (subst (CanTakeBack (undo_of m w f x)) (sym after) (plan-can choice m w f body x can-undo)));
        back = any-outcome u (machine_of now told) running
            ∙ (λ j. undone (is j) (after j)) ∙ plan-back choice m w f body x can-undo;
      }
