use Rattle.std.proofs.Common.{refl}
use Rattle.cilk_spawn.specs.Nodes.{Node}
use Rattle.cilk_spawn.proofs.Records.{alike_self, alike_set, changed_is}
use Rattle.cilk_spawn.proofs.InPlace.{at_live_one, lives_there}
use Rattle.cilk_spawn.proofs.putting.give_receiver.Goals as goal

pub give_receiver-requires : goal.give_receiver-requires
give_receiver-requires c = record { live = lives_there _ _ _ _ c.number.ensures c.index_mut.ensures.value c.requires }

pub returns-clause-nodes : goal.returns-clause-nodes
returns-clause-nodes c =
    changed_is _ _ _ _ _ _ (λ (n : Node). record n { receiver = c.args.receiver })
    (at_live_one _ _ _ _ c.number.ensures c.index_mut.ensures.value c.requires) refl c.number.ensures c.give_receiver.ensures.node

pub returns-clause-beside : goal.returns-clause-beside
returns-clause-beside c =
    let rs = c.args.records.now.items in
    alike_set rs rs _ _ _ (alike_self rs) (at_live_one _ _ _ _ c.number.ensures c.index_mut.ensures.value c.requires) c.give_receiver.ensures.beside
