use Rattle.std.proofs.Common.{◌∷◌, refl, sym, ap, ◌∙◌, vec_len, vec_capacity, arith}
use Rattle.cilk_machine_undo.specs.Words.{undo_by}
use Rattle.cilk_machine.specs.Situation.{Situation}
use Rattle.cilk_machine.specs.Pasts.{pasts, kept_of, running_at}
use Rattle.cilk_machine.proofs.Back.{can-take, takes, taken-old, whole-back}
use Rattle.cilk_machine.proofs.Kept.{same-view, still-whole}
use Rattle.cilk_machine.proofs.machine.Machine.undo.Goals as goal

pub invariant_of-self : goal.invariant_of-self
invariant_of-self c =
    let now = c.take_last.new.records in
    still-whole c.self.invariant c.self.inside.parts refl (kept_of now.items) (c.in-None.ensures.same ∙ sym c.in-None.ensures.none) (vec_len now)
    (vec_capacity now) (omega (arith, c.take_last.ensures.count)) (omega (arith, c.take_last.ensures.capacity))

pub returns-in-None-clause-none : goal.returns-in-None-clause-none
returns-in-None-clause-none c = λ e.
    ap (λ (m : Situation). m.past) (sym c.self.view_is)
    ∙ ap (λ us. pasts us (running_at c.self.inside.parts c.self.inside.choices)) c.in-None.ensures.none

pub returns-in-None-clause-unchanged : goal.returns-in-None-clause-unchanged
returns-in-None-clause-unchanged c = λ e.
    same-view c.self.invariant c.self.inside.parts refl (kept_of c.take_last.new.records.items) (c.in-None.ensures.same ∙ sym c.in-None.ensures.none)
    ∙ c.self.view_is

pub take_back-requires : goal.take_back-requires
take_back-requires c = can-take c.self.invariant (undo_by c.in-Some.last) (kept_of c.take_last.new.records.items) c.in-Some.ensures.some

pub invariant_of-self-in-Ok : goal.invariant_of-self-in-Ok
invariant_of-self-in-Ok c =
    let now = c.take_last.new.records in
    whole-back c.self.invariant (undo_by c.in-Some.last) (kept_of now.items) c.in-Some.ensures.some c.take_back.new.parts c.in-Ok.ensures.ok
    c.self.inside.trapper (vec_len now) (vec_capacity now) (omega (arith, c.in-Some.ensures.fewer)) (omega (arith, c.take_last.ensures.capacity))

pub returns-in-Ok-clause-back : goal.returns-in-Ok-clause-back
returns-in-Ok-clause-back c = λ e.
    taken-old _ _ _ c.self.view_is
    (takes c.self.invariant (undo_by c.in-Some.last) (kept_of c.take_last.new.records.items) c.in-Some.ensures.some c.take_back.new.parts c.in-Ok.ensures.ok
    c.self.inside.trapper)

pub invariant_of-self-in-Err : goal.invariant_of-self-in-Err
invariant_of-self-in-Err c =
    let now = c.put_last.new.records in
    still-whole c.self.invariant c.take_back.new.parts c.in-Err.ensures.same (kept_of now.items)
    (c.put_last.ensures.kept ∙ ap (λ u. u ∷ kept_of c.take_last.new.records.items) c.in-Err.ensures.back ∙ sym c.in-Some.ensures.some) (vec_len now)
    (vec_capacity now) (omega (arith, c.put_last.ensures.count, c.in-Some.ensures.fewer))
    (omega (arith, c.put_last.ensures.capacity, c.take_last.ensures.capacity))

pub returns-in-Err-clause-same : goal.returns-in-Err-clause-same
returns-in-Err-clause-same c =
    same-view c.self.invariant c.take_back.new.parts c.in-Err.ensures.same (kept_of c.put_last.new.records.items)
    (c.put_last.ensures.kept ∙ ap (λ u. u ∷ kept_of c.take_last.new.records.items) c.in-Err.ensures.back ∙ sym c.in-Some.ensures.some)
    ∙ c.self.view_is
