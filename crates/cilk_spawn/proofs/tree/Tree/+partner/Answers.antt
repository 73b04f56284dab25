use Rattle.std.proofs.Common.{◌≡◌, ◌<◌, length, refl, arith}
use Rattle.cilk_spawn.specs.Nodes.{path_at}
use Rattle.cilk_spawn.proofs.Finds.{near}
use Rattle.cilk_spawn.proofs.Compared.{child_told, partner_told, second_of}
use Rattle.cilk_spawn.proofs.Records.{inside}
use Rattle.cilk_spawn.proofs.Written.{nodes_are}
use Rattle.cilk_spawn.proofs.tree.Tree.+partner.Goals as goal

pub returns-else-len-number : goal.returns-else-len-number
returns-else-len-number t c =
    let rs = c.self.inside.records.items in
    let qs = c.other.inside.records.items in
    let v = c.args.self.now in
    let w = c.args.other.now in
    let to = c.in-Some-partner.to in
    let in-rs = inside rs v.nodes c.args.id c.args.id (nodes_are _ _ _ c.self.view_is) refl c.requires.here in
    let here = near rs c.args.id _ _ c.number.ensures in-rs c.index-record.ensures in
    let size = c.number-else-has_child.ensures in
    let less = c.if-len-number.false in
    let long = c.len.ensures in
    let in-qs : to < length qs = omega (arith, size, less, long, c.other.inside.records.ok.0) in
    let there = near qs to _ _ c.number-else-len-number.ensures in-qs c.index.ensures in
    second_of c.child.result (λ i. i < length w.nodes) (λ i. path_at v.nodes c.args.id ≡ path_at w.nodes i)
    (partner_told rs qs c.self.inside.living.items c.other.inside.living.items v w c.self.view_is c.other.view_is c.self.invariant c.other.invariant
    c.args.id c.in-Some.parent to _ _ here c.in-Some.is c.in-Some-partner.ensures there c.child.result c.child.ensures)

pub returns-then-has_child : goal.returns-then-has_child
returns-then-has_child t c =
    let rs = c.self.inside.records.items in
    let qs = c.other.inside.records.items in
    let v = c.args.self.now in
    let w = c.args.other.now in
    let to = c.in-Some-partner.to in
    let in-rs = inside rs v.nodes c.args.id c.args.id (nodes_are _ _ _ c.self.view_is) refl c.requires.here in
    let here = near rs c.args.id _ _ c.number.ensures in-rs c.index-record.ensures in
    let same = c.if-has_child.true in
    child_told rs qs c.self.inside.living.items c.other.inside.living.items v w c.self.view_is c.other.view_is c.self.invariant c.other.invariant
    c.args.id c.in-Some.parent to c.args.id _ here c.in-Some.is c.in-Some-partner.ensures (c.has_child.ensures.parent same) (c.has_child.ensures.ordinal same)
