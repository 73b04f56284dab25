use Rattle.std.proofs.Common.{◌≡◌, List}
use Rattle.cilk_machine_agree.specs.spawn.Nodes.{Node}
use Rattle.cilk_view.specs.Ups.{links_of}
use Rattle.cilk_view.specs.Kin.{AreKin}
use Rattle.cilk_view.proofs.kin.kin_made.Given as goal

abbrev pub invariant-loop-number : goal.invariant-loop-number
invariant-loop-number l = (ns : List Node) → l.links ≡ links_of ns → AreKin ns l.number l.kin.items
