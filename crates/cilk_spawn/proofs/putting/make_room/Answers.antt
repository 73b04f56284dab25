use Rattle.std.proofs.Common.{refl}
use Rattle.cilk_spawn.specs.Records.{nodes_of}
use Rattle.cilk_spawn.proofs.Records.{alike_self, alike_set, unchanged_is}
use Rattle.cilk_spawn.proofs.InPlace.{on_ok, inside_live, at_live_one, lives_there, room_then}
use Rattle.cilk_spawn.proofs.putting.make_room.Goals as goal

pub make_room-requires : goal.make_room-requires
make_room-requires c = record { live = lives_there _ _ _ _ c.number.ensures c.index_mut.ensures.value c.requires }

pub returns-clause-nodes : goal.returns-clause-nodes
returns-clause-nodes c =
    unchanged_is _ (nodes_of c.args.records.now.items) _ _ _ (at_live_one _ _ _ _ c.number.ensures c.index_mut.ensures.value c.requires) refl
    c.make_room.ensures.node

pub returns-clause-beside : goal.returns-clause-beside
returns-clause-beside c =
    let rs = c.args.records.now.items in
    alike_set rs rs _ _ _ (alike_self rs) (at_live_one _ _ _ _ c.number.ensures c.index_mut.ensures.value c.requires) c.make_room.ensures.beside

pub returns-clause-room : goal.returns-clause-room
returns-clause-room c =
    on_ok c.make_room.result _ _
    (λ room. room_then _ _ _ _ c.number.ensures c.index_mut.ensures.value c.make_room.new.self
    (inside_live _ _ _ _ c.number.ensures c.index_mut.ensures.value c.requires) room) c.make_room.ensures.room
