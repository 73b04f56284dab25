use Rattle.std.proofs.Common.{refl, sym, ap, ◌∙◌}
use Rattle.cilk_spawn.specs.Nodes.{Node, node_at, is_live}
use Rattle.cilk_spawn.specs.Records.{nodes_of}
use Rattle.cilk_spawn.proofs.Records.{alike_self, alike_set, at_is, changed_is}
use Rattle.cilk_spawn.proofs.InPlace.{at_there}
use Rattle.cilk_spawn.proofs.putting.set_fate.Goals as goal

pub set_fate-requires : goal.set_fate-requires
set_fate-requires c =
    let rs = c.args.records.now.items in
    c.requires.lives ∙ ap is_live (ap (node_at (nodes_of rs)) (sym c.number.ensures)
    ∙ at_is rs _ _ (at_there _ _ _ _ c.number.ensures c.index_mut.ensures.value c.requires.there))

pub returns-clause-nodes : goal.returns-clause-nodes
returns-clause-nodes c =
    changed_is _ _ _ _ _ _ (λ (n : Node). record n { fate = c.args.fate })
    (at_there _ _ _ _ c.number.ensures c.index_mut.ensures.value c.requires.there) refl c.number.ensures c.set_fate.ensures.node

pub returns-clause-beside : goal.returns-clause-beside
returns-clause-beside c =
    let rs = c.args.records.now.items in
    alike_set rs rs _ _ _ (alike_self rs) (at_there _ _ _ _ c.number.ensures c.index_mut.ensures.value c.requires.there) c.set_fate.ensures.beside
