use Rattle.std.proofs.Common.{◌≡◌, ◌<◌, ◌∙◌, ℕ, List, Option, None, Some, Bool, true, false, refl, ap, arith, length, slice_index_or, slice_set, subst, sym}
use Rattle.cilk_spawn.specs.declared.ending.Ending.{Ending}
use Rattle.cilk_spawn.specs.declared.ending.Ending.TheVariants as ending
use Rattle.cilk_spawn.specs.declared.record.Record.{Record}
use Rattle.cilk_spawn.specs.Nodes.{Node, node_at, is_live, has_live_child, fate_at, lives, ended, IsBelow}
use Rattle.cilk_spawn.specs.Records.{node_of, nodes_of, child_of, child_at, place_at, live_index, Kept, Moved}
use Rattle.cilk_spawn.proofs.Records.{At, at_is, record_is}
use Rattle.cilk_spawn.proofs.Written.{at_live, told_of}
use Rattle.cilk_spawn.specs.Remains.{remains_of}
use Rattle.cilk_spawn.proofs.Grown.{childless}
use Rattle.cilk_spawn.proofs.Ends.{Gone, ended_kept}
use Rattle.cilk_spawn.proofs.Endings.{moves_live, swapped_is, gone_is, ended_is}
use Rattle.cilk_spawn.proofs.tree.Tree.retire.Goals as goal

no_life : (how : Ending) (choice : ℕ) → lives (fate_at how choice) ≡ false
no_life ending.Returned choice = refl
no_life ending.Aborted choice = refl

pub settle-requires : goal.settle-requires
settle-requires c =
    let rs = c.self.inside.records.items in
    let rs1 = c.leave_parent.new.records.items in
    let e = c.number-number.result in
    let at = c.place-place.result in
    let own : At rs e c.index.result.now = at_live _ _ _ _ _ _ c.self.view_is c.number-number.ensures c.requires.live c.index.ensures in
    let stood : at ≡ place_at rs e = c.place-place.ensures ∙ ap (λ (r : Record). live_index r.life) (sym (record_is rs e c.index.result.now own)) in
    record {
      live = subst (λ (xs : List ℕ). at < length xs → is_live (node_at (nodes_of (slice_set rs1 e c.retire-remains.new.self)) (slice_index_or xs at 0)) ≡ true)
          (sym c.as_slice.ensures.value)
          (moves_live rs rs1 c.self.inside.living.items c.swap_remove.new.self.items e at c.retire-remains.new.self c.self.invariant stood
          c.leave_parent.ensures.nodes
          (swapped_is c.self.inside.living c.swap_remove.new.self at c.swap_remove.ensures.len c.swap_remove.ensures.by_index));
    }

none_by : (rs : List Record) (ids : List ℕ) (e k : ℕ) (o : Option ℕ) → Kept rs ids → has_live_child (nodes_of rs) e ≡ false → child_at rs e k ≡ o → o ≡ None
none_by rs ids e k None kept none is = refl
none_by rs ids e k (Some i) kept none is = let h = kept.found e k i is in absurd (childless (nodes_of rs) e i none h.lives h.parent)

not_own : (e : ℕ) (o : Option ℕ) → IsBelow o e → o ≡ Some e → ⊥
not_own e None h up = let no : None ≡ Some e = up in cc
not_own e (Some p) h up = let same : p ≡ e = cc in omega arith

pub retire-remains-requires-clause-childless : goal.retire-remains-requires-clause-childless
retire-remains-requires-clause-childless c =
    let rs = c.self.inside.records.items in
    let rs1 = c.leave_parent.new.records.items in
    let e = c.number-number.result in
    let first : At rs e c.index.result.now = at_live _ _ _ _ _ _ c.self.view_is c.number-number.ensures c.requires.live c.index.ensures in
    let there : At rs1 e c.index_mut.result.now = record {
      there = let h = first.there in omega
          (arith, h, c.leave_parent.ensures.len);
      is = c.index_mut.ensures.value;
    } in
    let none : has_live_child (nodes_of rs) e ≡ false = told_of has_live_child _ _ _ _ _ c.self.view_is c.number-number.ensures ∙ c.requires.children in
    λ k. ap (λ (r : Record). child_of r.life k) (sym (record_is rs1 e c.index_mut.result.now there))
    ∙ c.leave_parent.ensures.others e k (λ up. not_own e (node_at (nodes_of rs) e).parent (c.self.invariant.tree.below e) up)
    ∙ none_by rs c.self.inside.living.items e k (child_at rs e k) c.self.invariant none refl

own : (c : goal.After-settle) → At c.self.inside.records.items c.number-number.result c.index.result.now
own c = at_live _ _ _ _ _ _ c.self.view_is c.number-number.ensures c.requires.live c.index.ensures

stood : (c : goal.After-settle) → c.place-place.result ≡ place_at c.self.inside.records.items c.number-number.result
stood c = c.place-place.ensures ∙ ap (λ (r : Record). live_index r.life) (sym (record_is _ _ _ (own c)))

here : (c : goal.After-settle) → At c.leave_parent.new.records.items c.number-number.result c.index_mut.result.now
here c = record { there = let h = (own c).there in omega (arith, h, c.leave_parent.ensures.len); is = c.index_mut.ensures.value }

moved : (c : goal.After-settle)
    → Moved (slice_set c.leave_parent.new.records.items c.number-number.result c.retire-remains.new.self) c.settle.new.records.items
    c.swap_remove.new.self.items
    c.place-place.result
moved c =
    subst (λ (xs : List ℕ). Moved (slice_set c.leave_parent.new.records.items c.number-number.result c.retire-remains.new.self) c.settle.new.records.items xs
    c.place-place.result)
    c.as_slice.ensures.value c.settle.ensures

gone : (c : goal.After-settle)
    → Gone c.self.inside.records.items c.settle.new.records.items c.self.inside.living.items c.swap_remove.new.self.items c.number-number.result
gone c =
    gone_is _ _ _ _ _ _ _ _ _ c.self.invariant (stood c) c.leave_parent.ensures (here c) c.retire-remains.ensures.children
    (swapped_is c.self.inside.living c.swap_remove.new.self c.place-place.result c.swap_remove.ensures.len c.swap_remove.ensures.by_index) (moved c)

nodes : (c : goal.After-settle) → nodes_of c.settle.new.records.items ≡ ended (nodes_of c.self.inside.records.items) c.number-number.result
    (fate_at c.args.ending c.args.choice)
nodes c =
    ended_is _ _ _ _ _ _ _ _ _ c.self.invariant (stood c) c.leave_parent.ensures (here c) c.retire-remains.ensures.children
    (swapped_is c.self.inside.living c.swap_remove.new.self c.place-place.result c.swap_remove.ensures.len c.swap_remove.ensures.by_index) (moved c)
    _ c.retire-remains.ensures.node

pub invariant_of-self : goal.invariant_of-self
invariant_of-self c =
    let told = λ (f : List Node → ℕ → Bool). told_of f _ _ _ _ _ c.self.view_is c.number-number.ensures in
    ended_kept _ _ _ _ _ _ (no_life c.args.ending c.args.choice) c.self.invariant (told (λ ns i. is_live (node_at ns i))
    ∙ c.requires.live) (told has_live_child ∙ c.requires.children)
    (nodes c) (gone c)

pub returns-clause-nodes : goal.returns-clause-nodes
returns-clause-nodes c = nodes c ∙ told_of (λ (ns : List Node) (i : ℕ). ended ns i
    (fate_at c.args.ending c.args.choice)) _ _ _ _ _ c.self.view_is c.number-number.ensures

pub returns-clause-remains : goal.returns-clause-remains
returns-clause-remains c =
    let node : node_of c.index_mut.result.now ≡ node_at (nodes_of c.self.inside.records.items) c.number-number.result =
    sym (at_is _ _ _ (here c)) ∙ ap (λ (ns : List Node). node_at ns c.number-number.result) c.leave_parent.ensures.nodes in
    let own_node : node_at (nodes_of c.self.inside.records.items) c.number-number.result ≡ node_at c.args.self.now.nodes c.args.id =
    told_of node_at _ _ _ _ _ c.self.view_is c.number-number.ensures in
    c.retire-remains.ensures.remains (ap is_live (node ∙ own_node) ∙ c.requires.live) ∙ ap (λ (n : Node). Some (remains_of n.receiver n.waiting)) (node
    ∙ own_node)
