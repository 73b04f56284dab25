use Rattle.std.proofs.Common.{ap, ◌∙◌, vec_len, vec_capacity}
use Rattle.cilk_machine.specs.Situation.{Situation}
use Rattle.cilk_machine.specs.Pasts.{pasts, kept_of, running_at}
use Rattle.cilk_machine.proofs.Kept.{alone-made, alone-whole}
use Rattle.cilk_machine.proofs.Steps.{stepping, carrying-runs, made-old}
use Rattle.cilk_machine.proofs.Lightly.{light-carrying, light-carries, light-made}
use Rattle.cilk_machine.proofs.machine.Machine.step_lightly_alone.Goals as goal

pub carry_lightly-did-requires : goal.carry_lightly-did-requires
carry_lightly-did-requires c =
    let x = c.self.inside in
    let has = light-carrying _ c.args.self.now c.args.worker c.args.light c.self.view_is c.self.invariant.sound c.requires.light in
    light-carries x.loaded x.parts x.trapper x.outcome x.choices x.keeps (pasts (kept_of x.records.items) (running_at x.parts x.choices)) c.args.worker
    c.args.light has

pub invariant_of-self : goal.invariant_of-self
invariant_of-self c =
    let x = c.self.inside in
    let has = light-carrying _ c.args.self.now c.args.worker c.args.light c.self.view_is c.self.invariant.sound c.requires.light in
    let made = light-made x.loaded x.parts x.trapper x.outcome x.choices x.keeps (pasts (kept_of x.records.items) (running_at x.parts x.choices))
    c.args.worker c.args.light has c.carry_lightly-did.new.parts c.carry_lightly-did.result c.carry_lightly-did.ensures.done
    c.carry_lightly-did.ensures.becomes in
    let runs = carrying-runs _ _ _ _ has in
    let alone = ap (λ (m : Situation). m.keeps) c.self.view_is ∙ c.requires.alone in
    alone-whole c.self.invariant c.carry_lightly-did.new.parts x.trapper x.outcome runs (stepping c.args.worker) _ made alone
    (vec_len x.records) (vec_capacity x.records)

pub returns : goal.returns
returns c =
    let x = c.self.inside in
    let has = light-carrying _ c.args.self.now c.args.worker c.args.light c.self.view_is c.self.invariant.sound c.requires.light in
    let made = light-made x.loaded x.parts x.trapper x.outcome x.choices x.keeps (pasts (kept_of x.records.items) (running_at x.parts x.choices))
    c.args.worker c.args.light has c.carry_lightly-did.new.parts c.carry_lightly-did.result c.carry_lightly-did.ensures.done
    c.carry_lightly-did.ensures.becomes in
    let runs = carrying-runs _ _ _ _ has in
    let alone = ap (λ (m : Situation). m.keeps) c.self.view_is ∙ c.requires.alone in
    made-old _ c.args.self.now _ c.args.worker c.carry_lightly-did.new.parts.tree.nodes c.carry_lightly-did.result c.self.view_is
    (alone-made c.self.invariant c.carry_lightly-did.new.parts x.trapper x.outcome runs (stepping c.args.worker) _ made alone)
