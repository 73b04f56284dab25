use Rattle.std.proofs.Common.{◌≡◌, take}
use Rattle.cilk_view.specs.Ups.{links_of}
use Rattle.cilk_view.proofs.link.links_of.Given as goal

abbrev pub invariant-loop-number : goal.invariant-loop-number
invariant-loop-number l = l.links.items ≡ links_of (take l.number l.tree.nodes)
