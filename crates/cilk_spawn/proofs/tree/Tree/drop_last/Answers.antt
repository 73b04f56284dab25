use Rattle.std.proofs.Common.{◌≡◌, ◌<◌, ◌+◌, ◌∙◌, ℕ, List, false, length, take, sym, ap, subst, arith, slice_set}
use Rattle.cilk_spawn.specs.declared.record.Record.{Record}
use Rattle.cilk_spawn.specs.Nodes.{Node, node_at, is_live, IsTree}
use Rattle.cilk_spawn.specs.Records.{nodes_of, Kept}
use Rattle.cilk_spawn.specs.Dropped.{unborn}
use Rattle.cilk_spawn.proofs.Records.{At, nodes_length}
use Rattle.cilk_spawn.proofs.Written.{nodes_are}
use Rattle.cilk_spawn.proofs.Dropped.{dropped_kept}
use Rattle.cilk_spawn.proofs.Unborn.{dropped_is, nodes_dropped}
use Rattle.cilk_spawn.proofs.tree.Tree.drop_last.Goals as goal

size : (c : goal.After-truncate) → length c.self.inside.records.items ≡ c.args.id + 1
size c = sym (nodes_length c.self.inside.records.items) ∙ ap (λ (ns : List Node). length ns) (nodes_are _ _ _ c.self.view_is) ∙ c.requires.newest

at : (c : goal.After-truncate) → At c.self.inside.records.items c.args.parent c.index_mut.result.now
at c =
    let rs = c.self.inside.records.items in
    let there : c.args.parent < length rs = let h = size c in omega arith in
    subst (λ (k : ℕ). At rs k c.index_mut.result.now) c.number.ensures
    (record { there = subst (λ (k : ℕ). k < length rs) (sym c.number.ensures) there; is = c.index_mut.ensures.value })

items : (c : goal.After-truncate) → c.truncate.new.self.items ≡ take c.args.id (slice_set c.self.inside.records.items c.args.parent c.disown.new.self)
items c =
    c.truncate.ensures.items
    ∙ (λ i. take (c.number-2.ensures i) (slice_set c.self.inside.records.items (c.number.ensures i) c.disown.new.self))

nodes : (c : goal.After-truncate) → nodes_of c.truncate.new.self.items ≡ unborn c.args.parent c.args.self.now.nodes
nodes c =
    ap nodes_of (items c)
    ∙ nodes_dropped c.self.inside.records.items c.args.parent c.args.id c.index_mut.result.now c.disown.new.self (size c) (at c) c.requires.above
    c.disown.ensures.node c.disown.ensures.beside
    ∙ ap (unborn c.args.parent) (nodes_are _ _ _ c.self.view_is)

pub returns : goal.returns
returns c = nodes c

pub invariant_of-self : goal.invariant_of-self
invariant_of-self c =
    let rs = c.self.inside.records.items in
    let dead : is_live (node_at (nodes_of rs) c.args.id) ≡ false =
    ap (λ (ns : List Node). is_live (node_at ns c.args.id)) (nodes_are _ _ _ c.self.view_is) ∙ c.requires.dead in
    let all = dropped_is rs c.args.parent c.args.id c.index_mut.result.now c.disown.new.self (size c)
    (at c) c.requires.above c.disown.ensures.node c.disown.ensures.beside dead in
    let tree : IsTree (nodes_of (take c.args.id (slice_set rs c.args.parent c.disown.new.self))) =
    subst IsTree (sym (nodes c) ∙ ap nodes_of (items c)) c.requires.tree in
    subst (λ (xs : List Record). Kept xs c.self.inside.living.items) (sym (items c))
    (dropped_kept rs (take c.args.id (slice_set rs c.args.parent c.disown.new.self)) c.self.inside.living.items c.self.invariant tree all)
