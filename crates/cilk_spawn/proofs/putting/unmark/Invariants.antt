use Rattle.std.proofs.Common.{◌≡◌, take}
use Rattle.cilk_spawn.specs.Records.{nodes_of, Alike}
use Rattle.cilk_spawn.specs.Undone.{unmarked}
use Rattle.cilk_spawn.proofs.putting.unmark.Given as goal

abbrev pub invariant-loop-id : goal.invariant-loop-id
invariant-loop-id l = record {
  nodes : nodes_of l.records.items ≡ unmarked (nodes_of l.initial.records.items) (take l.id-index l.ids);
  alike : Alike l.initial.records.items l.records.items;
}
