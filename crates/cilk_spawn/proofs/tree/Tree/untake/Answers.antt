use Rattle.std.proofs.Common.{List, ap, ◌∙◌}
use Rattle.cilk_spawn.specs.Nodes.{Node, with_fate}
use Rattle.cilk_spawn.specs.Records.{nodes_of}
use Rattle.cilk_spawn.specs.Undone.{waits_again, untaken}
use Rattle.cilk_spawn.proofs.Undone.{alike_then, kept_untaken}
use Rattle.cilk_spawn.proofs.tree.Tree.untake.Goals as goal

pub invariant_of-self-in-Ok : goal.invariant_of-self-in-Ok
invariant_of-self-in-Ok c =
    let ns = nodes_of c.self.inside.records.items in
    let t = c.args.taken.value in
    let id = c.deref.result.now.id in
    let given = c.into_inner-delivery.result in
    kept_untaken _ _ _ _ c.self.invariant c.self.view_is
    (alike_then _ _ _ (alike_then _ _ _ c.make_room.ensures.beside c.wait_first.ensures.beside) c.set_fate.ensures.beside)
    t.id t.delivery t.fate c.requires.live c.requires.there c.requires.lives c.requires.tree
    (c.set_fate.ensures.nodes
    ∙ ap (λ (ms : List Node). with_fate ms given.delivery.child given.fate)
    (c.wait_first.ensures.nodes ∙ ap (λ (ms : List Node). waits_again ms id given.delivery) c.make_room.ensures.nodes)
    ∙ (λ j. untaken ns (c.deref.ensures j).id (c.into_inner-delivery.ensures j).delivery (c.into_inner-delivery.ensures j).fate))
