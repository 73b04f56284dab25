use Rattle.std.proofs.Common.{refl, sym, ap, ◌∙◌}
use Rattle.cilk_frame.specs.model.Hands.{bottom_of, above_bottom}
use Rattle.cilk_spawn.specs.Nodes.{Node, node_at}
use Rattle.cilk_spawn.specs.Records.{nodes_of}
use Rattle.cilk_spawn.proofs.Records.{alike_self, alike_set, at_is, changed_is}
use Rattle.cilk_spawn.proofs.InPlace.{at_live_one}
use Rattle.cilk_spawn.proofs.putting.take_newest.Goals as goal

pub returns-clause-result : goal.returns-clause-result
returns-clause-result c =
    let rs = c.args.records.now.items in
    c.take_newest.ensures.result
    ∙ ap (λ (n : Node). bottom_of n.waiting)
    (sym (at_is rs _ _ (at_live_one _ _ _ _ c.number.ensures c.index_mut.ensures.value c.requires)) ∙ ap (node_at (nodes_of rs)) c.number.ensures)

pub returns-clause-nodes : goal.returns-clause-nodes
returns-clause-nodes c =
    changed_is _ _ _ _ _ _ (λ (n : Node). record n { waiting = above_bottom n.waiting })
    (at_live_one _ _ _ _ c.number.ensures c.index_mut.ensures.value c.requires) refl c.number.ensures c.take_newest.ensures.node

pub returns-clause-beside : goal.returns-clause-beside
returns-clause-beside c =
    let rs = c.args.records.now.items in
    alike_set rs rs _ _ _ (alike_self rs) (at_live_one _ _ _ _ c.number.ensures c.index_mut.ensures.value c.requires) c.take_newest.ensures.beside
