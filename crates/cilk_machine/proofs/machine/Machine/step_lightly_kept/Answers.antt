use Rattle.std.proofs.Common.{ap, ◌∙◌, vec_len, vec_capacity, arith}
use Rattle.cilk_machine.specs.Situation.{Situation}
use Rattle.cilk_machine.specs.Pasts.{pasts, kept_of, running_at}
use Rattle.cilk_machine.proofs.Kept.{one-made, one-whole, same-view, still-whole}
use Rattle.cilk_machine.proofs.Steps.{stepping, carrying-runs, made-old}
use Rattle.cilk_machine.proofs.Lightly.{light-carrying, light-carries, light-made}
use Rattle.cilk_machine.proofs.machine.Machine.step_lightly_kept.Goals as goal

pub carry_lightly_kept-requires : goal.carry_lightly_kept-requires
carry_lightly_kept-requires c =
    let x = c.self.inside in
    let has = light-carrying _ c.args.self.now c.args.worker c.args.light c.self.view_is c.self.invariant.sound c.requires.light in
    light-carries x.loaded x.parts x.trapper x.outcome x.choices x.keeps (pasts (kept_of x.records.items) (running_at x.parts x.choices)) c.args.worker
    c.args.light has

pub invariant_of-self : goal.invariant_of-self
invariant_of-self c =
    still-whole c.self.invariant c.carry_lightly_kept.new.parts c.in-Err.ensures.same (kept_of c.carry_lightly_kept.new.records.items) c.in-Err.ensures.kept
    (vec_len c.carry_lightly_kept.new.records) (vec_capacity c.carry_lightly_kept.new.records) (omega (arith, c.in-Err.ensures.count))
    c.carry_lightly_kept.ensures.capacity

pub returns-in-Err-clause-unchanged : goal.returns-in-Err-clause-unchanged
returns-in-Err-clause-unchanged c =
    same-view c.self.invariant c.carry_lightly_kept.new.parts c.in-Err.ensures.same (kept_of c.carry_lightly_kept.new.records.items) c.in-Err.ensures.kept
    ∙ c.self.view_is

pub invariant_of-self-in-Ok : goal.invariant_of-self-in-Ok
invariant_of-self-in-Ok c =
    let x = c.self.inside in
    let has = light-carrying _ c.args.self.now c.args.worker c.args.light c.self.view_is c.self.invariant.sound c.requires.light in
    let made = light-made x.loaded x.parts x.trapper x.outcome x.choices x.keeps (pasts (kept_of x.records.items) (running_at x.parts x.choices))
    c.args.worker c.args.light has c.carry_lightly_kept.new.parts c.in-Ok.did c.in-Ok.ensures.done c.in-Ok.ensures.becomes in
    let runs = carrying-runs _ _ _ _ has in
    let keeps = ap (λ (m : Situation). m.keeps) c.self.view_is ∙ c.requires.keeps in
    one-whole c.self.invariant c.carry_lightly_kept.new.parts x.trapper x.outcome runs (stepping c.args.worker) _ made keeps
    (kept_of c.carry_lightly_kept.new.records.items)
    c.in-Ok.ensures.adds (vec_len c.carry_lightly_kept.new.records) (vec_capacity c.carry_lightly_kept.new.records) c.in-Ok.ensures.room

pub returns-in-Ok-clause-made : goal.returns-in-Ok-clause-made
returns-in-Ok-clause-made c =
    let x = c.self.inside in
    let has = light-carrying _ c.args.self.now c.args.worker c.args.light c.self.view_is c.self.invariant.sound c.requires.light in
    let made = light-made x.loaded x.parts x.trapper x.outcome x.choices x.keeps (pasts (kept_of x.records.items) (running_at x.parts x.choices))
    c.args.worker c.args.light has c.carry_lightly_kept.new.parts c.in-Ok.did c.in-Ok.ensures.done c.in-Ok.ensures.becomes in
    let runs = carrying-runs _ _ _ _ has in
    let keeps = ap (λ (m : Situation). m.keeps) c.self.view_is ∙ c.requires.keeps in
    made-old _ c.args.self.now _ c.args.worker c.carry_lightly_kept.new.parts.tree.nodes c.in-Ok.did c.self.view_is
    (one-made c.self.invariant c.carry_lightly_kept.new.parts x.trapper x.outcome runs (stepping c.args.worker) _ made keeps
    (kept_of c.carry_lightly_kept.new.records.items)
    c.in-Ok.ensures.adds)
