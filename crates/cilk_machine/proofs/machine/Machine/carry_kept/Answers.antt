use Rattle.std.proofs.Common.{ap, ◌∙◌, vec_len, vec_capacity, arith}
use Rattle.std.specs.Option.{option_copied}
use Rattle.cilk_machine.specs.Situation.{Situation}
use Rattle.cilk_machine.specs.Pasts.{pasts, kept_of, running_at}
use Rattle.cilk_machine.proofs.Kept.{one-made, one-whole, same-view, still-whole}
use Rattle.cilk_machine.proofs.Steps.{stepping, carrying, carrying-runs, whole-carries, whole-made, made-old}
use Rattle.cilk_machine.proofs.machine.Machine.carry_kept.Goals as goal

pub carry_out_kept-requires : goal.carry_out_kept-requires
carry_out_kept-requires c =
    let x = c.self.inside in
    let past = pasts (kept_of x.records.items) (running_at x.parts x.choices) in
    let has = carrying _ c.args.self.now c.args.worker c.args.plan c.args.path c.self.view_is c.self.invariant.sound c.requires.free
    c.requires.planned c.requires.path in
    whole-carries x.loaded x.parts x.trapper x.outcome x.choices x.keeps past c.args.worker c.args.plan c.args.path has
    (option_copied c.body_numbered-body.result) c.started_number.result c.body_numbered-body.ensures c.started_number.ensures

pub invariant_of-self : goal.invariant_of-self
invariant_of-self c =
    still-whole c.self.invariant c.carry_out_kept.new.parts c.in-Err.ensures.same (kept_of c.carry_out_kept.new.records.items) c.in-Err.ensures.kept
    (vec_len c.carry_out_kept.new.records) (vec_capacity c.carry_out_kept.new.records) (omega (arith, c.in-Err.ensures.count))
    c.carry_out_kept.ensures.capacity

pub returns-in-Err-clause-unchanged : goal.returns-in-Err-clause-unchanged
returns-in-Err-clause-unchanged c =
    same-view c.self.invariant c.carry_out_kept.new.parts c.in-Err.ensures.same (kept_of c.carry_out_kept.new.records.items)
    c.in-Err.ensures.kept ∙ c.self.view_is

pub invariant_of-self-in-Ok : goal.invariant_of-self-in-Ok
invariant_of-self-in-Ok c =
    let x = c.self.inside in
    let past = pasts (kept_of x.records.items) (running_at x.parts x.choices) in
    let has = carrying _ c.args.self.now c.args.worker c.args.plan c.args.path c.self.view_is c.self.invariant.sound c.requires.free
    c.requires.planned c.requires.path in
    let made = whole-made x.loaded x.parts x.trapper x.outcome x.choices x.keeps past c.args.worker c.args.plan c.args.path has
    (option_copied c.body_numbered-body.result) c.started_number.result c.body_numbered-body.ensures c.started_number.ensures
    c.carry_out_kept.new.parts c.in-Ok.done
    c.trapper_of-self-inside.result c.outcome_with.result c.in-Ok.ensures.done c.in-Ok.ensures.becomes c.trapper_of-self-inside.ensures
    c.outcome_with.ensures in
    let runs = carrying-runs _ _ _ _ has in
    let keeps = ap (λ (m : Situation). m.keeps) c.self.view_is ∙ c.requires.keeps in
    one-whole c.self.invariant c.carry_out_kept.new.parts c.trapper_of-self-inside.result c.outcome_with.result runs (stepping c.args.worker) _ made keeps
    (kept_of c.carry_out_kept.new.records.items) c.in-Ok.ensures.adds (vec_len c.carry_out_kept.new.records) (vec_capacity c.carry_out_kept.new.records)
    c.in-Ok.ensures.room

pub returns-in-Ok-clause-made : goal.returns-in-Ok-clause-made
returns-in-Ok-clause-made c =
    let x = c.self.inside in
    let past = pasts (kept_of x.records.items) (running_at x.parts x.choices) in
    let has = carrying _ c.args.self.now c.args.worker c.args.plan c.args.path c.self.view_is c.self.invariant.sound c.requires.free
    c.requires.planned c.requires.path in
    let made = whole-made x.loaded x.parts x.trapper x.outcome x.choices x.keeps past c.args.worker c.args.plan c.args.path has
    (option_copied c.body_numbered-body.result) c.started_number.result c.body_numbered-body.ensures c.started_number.ensures
    c.carry_out_kept.new.parts c.in-Ok.done
    c.trapper_of-self-inside.result c.outcome_with.result c.in-Ok.ensures.done c.in-Ok.ensures.becomes c.trapper_of-self-inside.ensures
    c.outcome_with.ensures in
    let runs = carrying-runs _ _ _ _ has in
    let keeps = ap (λ (m : Situation). m.keeps) c.self.view_is ∙ c.requires.keeps in
    made-old _ c.args.self.now _ c.args.worker c.carry_out_kept.new.parts.tree.nodes c.in-Ok.done.did c.self.view_is
    (one-made c.self.invariant c.carry_out_kept.new.parts c.trapper_of-self-inside.result c.outcome_with.result runs (stepping c.args.worker) _ made keeps
    (kept_of c.carry_out_kept.new.records.items) c.in-Ok.ensures.adds)
