use Rattle.std.proofs.Common.{Some, ap, sym, ◌∙◌}
use Rattle.cilk_machine_plan.specs.spawn.Nodes.{node_at, is_live, with_parked}
use Rattle.cilk_machine_undo.specs.Undo.{asleep}
use Rattle.cilk_machine_undo.proofs.ending.sleep.Goals as goal

pub park-requires-clause-live : goal.park-requires-clause-live
park-requires-clause-live c =
    let p = c.requires.parks c.in-Some-parent._parent c.in-Some.frame (sym c.parent.ensures ∙ c.in-Some-parent.is) (sym c.take.ensures.value ∙ c.in-Some.is) in
    ap (λ k. is_live (node_at c.args.tree.now.nodes k)) p.own ∙ p.live

pub park-requires-clause-free : goal.park-requires-clause-free
park-requires-clause-free c =
    let p = c.requires.parks c.in-Some-parent._parent c.in-Some.frame (sym c.parent.ensures ∙ c.in-Some-parent.is) (sym c.take.ensures.value ∙ c.in-Some.is) in
    ap (λ k. (node_at c.args.tree.now.nodes k).parked) p.own ∙ p.free

pub returns-in-Some-parent-clause-tree : goal.returns-in-Some-parent-clause-tree
returns-in-Some-parent-clause-tree c =
    let up = sym c.parent.ensures ∙ c.in-Some-parent.is in
    let held = sym c.take.ensures.value ∙ c.in-Some.is in
    let p = c.requires.parks c.in-Some-parent._parent c.in-Some.frame up held in
    let ns = c.args.tree.now.nodes in
    (λ j. (c.park.ensures j).nodes) ∙ ap (λ k. with_parked ns k (Some c.in-Some.frame)) p.own ∙ (λ j. asleep (sym up j) (sym held j) ns)
