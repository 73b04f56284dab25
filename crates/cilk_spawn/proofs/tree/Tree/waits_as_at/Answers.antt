use Rattle.std.proofs.Common.{◌∙◌, refl, sym, ap, slice_get}
use Rattle.cilk_spawn.specs.Nodes.{Node}
use Rattle.cilk_spawn.proofs.Finds.{near}
use Rattle.cilk_spawn.proofs.Compared.{delivery_is, node_told, tree_told}
use Rattle.cilk_spawn.proofs.Records.{inside}
use Rattle.cilk_spawn.proofs.Written.{nodes_are}
use Rattle.cilk_spawn.proofs.tree.Tree.waits_as_at.Goals as goal

pub returns-then-has_ordinal_of : goal.returns-then-has_ordinal_of
returns-then-has_ordinal_of c = λ b d e one other.
    let rs = c.self.inside.records.items in
    let qs = c.other.inside.records.items in
    let v = c.args.self.now in
    let w = c.args.other.now in
    let in-rs = inside rs v.nodes c.args.id c.args.id (nodes_are _ _ _ c.self.view_is) refl c.requires.here in
    let in-qs = inside qs w.nodes c.args.to c.args.to (nodes_are _ _ _ c.other.view_is) refl c.requires.there in
    let here = node_told rs c.self.inside.living.items v c.args.id _ c.self.view_is (near rs c.args.id _ _ c.number.ensures in-rs c.index.ensures) in
    let there = node_told qs c.other.inside.living.items w c.args.to _ c.other.view_is
    (near qs c.args.to _ _ c.number-in-Some.ensures in-qs c.index-in-Some.ensures) in
    let same = c.brings_as.ensures.0 b in
    delivery_is v.nodes w.nodes (tree_told rs c.self.inside.living.items v c.self.view_is c.self.invariant)
    (tree_told qs c.other.inside.living.items w c.other.view_is c.other.invariant) c.args.id c.args.to c.args.k c.requires.path
    c.in-Some.mine.now c.in-Some-delivery.own.now d e
    (ap (λ (n : Node). slice_get n.waiting c.args.k) here ∙ sym c.in-Some.ensures)
    (ap (λ (n : Node). slice_get n.waiting c.args.k) there ∙ sym c.in-Some-delivery.ensures)
    (c.if-has_ordinal_of.ensures refl) same.0 same.1 one other
