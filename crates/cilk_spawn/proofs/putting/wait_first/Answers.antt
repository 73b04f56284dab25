use Rattle.std.proofs.Common.{◌∷◌, refl}
use Rattle.cilk_spawn.specs.Nodes.{Node}
use Rattle.cilk_spawn.proofs.Records.{alike_self, alike_set, changed_is}
use Rattle.cilk_spawn.proofs.InPlace.{at_there, room_there}
use Rattle.cilk_spawn.proofs.putting.wait_first.Goals as goal

pub wait_first-requires : goal.wait_first-requires
wait_first-requires c = record { room = room_there _ _ _ _ c.number.ensures c.index_mut.ensures.value c.requires.there c.requires.room }

pub returns-clause-nodes : goal.returns-clause-nodes
returns-clause-nodes c =
    changed_is _ _ _ _ _ _ (λ (n : Node). record n { waiting = c.args.delivery ∷ n.waiting })
    (at_there _ _ _ _ c.number.ensures c.index_mut.ensures.value c.requires.there) refl c.number.ensures c.wait_first.ensures.node

pub returns-clause-beside : goal.returns-clause-beside
returns-clause-beside c =
    let rs = c.args.records.now.items in
    alike_set rs rs _ _ _ (alike_self rs) (at_there _ _ _ _ c.number.ensures c.index_mut.ensures.value c.requires.there) c.wait_first.ensures.beside
