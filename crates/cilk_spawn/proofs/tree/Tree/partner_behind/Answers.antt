use Rattle.std.proofs.Common.{◌≡◌, refl, sym, ap, ◌∙◌}
use Rattle.std.proofs.lemmas.Bool.{eqb-true}
use Rattle.cilk_spawn.specs.Nodes.{path_at}
use Rattle.cilk_spawn.proofs.Finds.{near}
use Rattle.cilk_spawn.proofs.Compared.{child_told}
use Rattle.cilk_spawn.proofs.Records.{inside}
use Rattle.cilk_spawn.proofs.Written.{nodes_are}
use Rattle.cilk_spawn.proofs.tree.Tree.partner_behind.Goals as goal

pub returns-then-has_child : goal.returns-then-has_child
returns-then-has_child c =
    let rs = c.self.inside.records.items in
    let qs = c.other.inside.records.items in
    let v = c.args.self.now in
    let w = c.args.other.now in
    let in-rs = inside rs v.nodes c.args.id c.args.id (nodes_are _ _ _ c.self.view_is) refl c.requires.here in
    let here = near rs c.args.id _ _ c.number.ensures in-rs c.index-record.ensures in
    let same = c.if-has_child.true in
    let is : c.in-Some.parent ≡ c.args.near = eqb-true c.in-Some.parent c.args.near (sym c.eq.ensures ∙ c.if-eq.true) in
    child_told rs qs c.self.inside.living.items c.other.inside.living.items v w c.self.view_is c.other.view_is c.self.invariant c.other.invariant
    c.args.id c.in-Some.parent c.args.by c.args.id _ here c.in-Some.is (ap (path_at v.nodes) is ∙ c.requires.near)
    (c.has_child.ensures.parent same) (c.has_child.ensures.ordinal same)
