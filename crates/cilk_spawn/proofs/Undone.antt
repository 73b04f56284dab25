-- Values that were not sent or taken, and marks that were not made.
use Rattle.std.proofs.Common.{◌≡◌, ◌<◌, ◌++◌, ◌∷◌, [], ℕ, suc, List, true, Option, Some, None, length, refl, sym, ap, ◌∙◌, subst, arith, inl, inr}
use Rattle.std.proofs.Common.{slice_set}
use Rattle.std.proofs.Common.{All, length-set}
use Rattle.cilk_frame.specs.model.Hands.{bottom_of, above_bottom}
use Rattle.cilk_spawn.specs.declared.delivery.Delivery.{Delivery}
use Rattle.cilk_spawn.specs.declared.fate.Fate.{Fate}
use Rattle.cilk_spawn.specs.declared.record.Record.{Record}
use Rattle.cilk_spawn.specs.Family.{Family}
use Rattle.cilk_spawn.specs.Nodes.{Node, IsTree, no_node, node_at, is_live, lives, with_waiting}
use Rattle.cilk_spawn.specs.Records.{nodes_of, Alike, Kept}
use Rattle.cilk_spawn.specs.Undone.{waits_again, untaken, given_back, unsent, unmark, unmarked}
use Rattle.cilk_spawn.proofs.Lists.{at_set}
use Rattle.cilk_spawn.proofs.Trees.{live_there}
use Rattle.cilk_spawn.proofs.Records.{SameLinks, kept_alike, links_then}
use Rattle.cilk_spawn.proofs.Written.{nodes_are}
use Rattle.cilk_spawn.proofs.Revives.{links_same}

at_by : {A : Type 0} (f : Node → A) (ns : List Node) (j : ℕ) (n : Node) → j < length ns → f n ≡ f (node_at ns j) → (i : ℕ)
    → f (node_at (slice_set ns j n) i) ≡ f (node_at ns i)
at_by f ns j n h e i =
    elim (at_set ns j n i no_node h) [
      | inl p ↦ ap f p.1 ∙ e ∙ ap (λ (k : ℕ). f (node_at ns k)) (sym p.0)
      | inr p ↦ ap f p.1
    ]

links_at : (ns : List Node) (j : ℕ) (n : Node) → j < length ns → n.parent ≡ (node_at ns j).parent → n.ordinal ≡ (node_at ns j).ordinal
    → is_live n ≡ is_live (node_at ns j) → SameLinks ns (slice_set ns j n)
links_at ns j n h parent ordinal live = record {
  len = length-set ns j n;
  parents = at_by (λ m. m.parent) ns j n h parent;
  ordinals = at_by (λ m. m.ordinal) ns j n h ordinal;
  lives = at_by is_live ns j n h live;
}

pub links_untaken : (ns : List Node) (k : ℕ) (d : Delivery) (fate : Fate) → k < length ns → d.child < length ns
    → lives fate ≡ is_live (node_at ns d.child) → SameLinks ns (untaken ns k d fate)
links_untaken ns k d fate there child alike =
    let again : List Node = waits_again ns k d in
    let first : SameLinks ns again = links_at ns k (record (node_at ns k) { waiting = d ∷ (node_at ns k).waiting }) there refl refl refl in
    let inside : d.child < length again = subst (λ (n : ℕ). d.child < n) (sym first.len) child in
    links_then ns again (untaken ns k d fate) first
    (links_at again d.child (record (node_at again d.child) { fate = fate }) inside refl refl (alike ∙ sym (first.lives d.child)))

links_given : (ns : List Node) (k : ℕ) (o : Option Delivery) → k < length ns → SameLinks ns (given_back ns k o)
links_given ns k None there = links_same ns ns refl
links_given ns k (Some d) there = links_at ns k (record (node_at ns k) { receiver = d.receiver }) there refl refl refl

pub links_unsent : (ns : List Node) (p k : ℕ) → p < length ns → k < length ns → SameLinks ns (unsent ns p k)
links_unsent ns p k there child =
    let rest = above_bottom (node_at ns p).waiting in
    let fewer : List Node = with_waiting ns p rest in
    let first : SameLinks ns fewer = links_at ns p (record (node_at ns p) { waiting = rest }) there refl refl refl in
    links_then ns fewer (unsent ns p k) first (links_given fewer k (bottom_of (node_at ns p).waiting) (subst (λ (n : ℕ). k < n) (sym first.len) child))

pub links_unmarked : (n : ℕ) (ids : List ℕ) (ns : List Node) → length ns ≡ n → All (λ i. i < n) ids → SameLinks ns (unmarked ns ids)
links_unmarked n [] ns size all = links_same ns ns refl
links_unmarked n (i ∷ ids) ns size all =
    let now : List Node = slice_set ns i (unmark (node_at ns i)) in
    let there : i < length ns = subst (λ (m : ℕ). i < m) (sym size) (all 0 0 (omega arith)) in
    links_then ns now (unmarked now ids) (links_at ns i (unmark (node_at ns i)) there refl refl refl)
    (links_unmarked n ids now (length-set ns i (unmark (node_at ns i)) ∙ size) (λ k d h. all (suc k) d (omega arith)))

-- one more
pub unmarked_more : (ns : List Node) (ids : List ℕ) (i : ℕ)
    → unmarked ns (ids ++ i ∷ []) ≡ slice_set (unmarked ns ids) i (unmark (node_at (unmarked ns ids) i))
unmarked_more ns [] i = refl
unmarked_more ns (j ∷ ids) i = unmarked_more (slice_set ns j (unmark (node_at ns j))) ids i

pub alike_then : (rs now later : List Record) → Alike rs now → Alike now later → Alike rs later
alike_then rs now later a b = record {
  len = b.len ∙ a.len;
  children = λ p k. b.children p k ∙ a.children p k;
  places = λ i. b.places i ∙ a.places i;
}

module _ (rs now : List Record) (ids : List ℕ) (v : Family) (kept : Kept rs ids) (view :
    (let f : Family = record { nodes = nodes_of rs; living = ids } in f ≡ v))
    (alike : Alike rs now) where
  same_nodes : nodes_of rs ≡ v.nodes
  same_nodes = nodes_are (nodes_of rs) ids v view

  inside : (i : ℕ) → i < length v.nodes → i < length (nodes_of rs)
  inside i h = subst (λ (ns : List Node). i < length ns) (sym same_nodes) h

  lives_inside : (i : ℕ) → is_live (node_at v.nodes i) ≡ true → i < length (nodes_of rs)
  lives_inside i live = inside i (live_there v.nodes i live)

  pub kept_unmarked : (marked : List ℕ) → All (λ i. i < length v.nodes) marked → IsTree (unmarked v.nodes marked)
      → nodes_of now ≡ unmarked (nodes_of rs) marked → Kept now ids
  kept_unmarked marked there tree nodes =
      kept_alike rs now ids kept alike
      (subst (SameLinks (nodes_of rs)) (sym nodes)
      (links_unmarked (length (nodes_of rs)) marked (nodes_of rs) refl (λ k d h. inside _ (there k d h))))
      (subst IsTree (sym (nodes ∙ ap (λ (ns : List Node). unmarked ns marked) same_nodes)) tree)

  pub kept_unsent : (p k : ℕ) → is_live (node_at v.nodes p) ≡ true → is_live (node_at v.nodes k) ≡ true → IsTree (unsent v.nodes p k)
      → nodes_of now ≡ unsent (nodes_of rs) p k → Kept now ids
  kept_unsent p k live child tree nodes =
      kept_alike rs now ids kept alike
      (subst (SameLinks (nodes_of rs)) (sym nodes) (links_unsent (nodes_of rs) p k (lives_inside p live) (lives_inside k child)))
      (subst IsTree (sym (nodes ∙ ap (λ (ns : List Node). unsent ns p k) same_nodes)) tree)

  pub kept_untaken : (k : ℕ) (d : Delivery) (fate : Fate) → is_live (node_at v.nodes k) ≡ true → d.child < length v.nodes
      → lives fate ≡ is_live (node_at v.nodes d.child) → IsTree (untaken v.nodes k d fate) → nodes_of now ≡ untaken (nodes_of rs) k d fate → Kept now ids
  kept_untaken k d fate live child alive tree nodes =
      kept_alike rs now ids kept alike
      (subst (SameLinks (nodes_of rs)) (sym nodes)
      (links_untaken (nodes_of rs) k d fate (lives_inside k live) (inside d.child child)
      (alive ∙ ap (λ (ns : List Node). is_live (node_at ns d.child)) (sym same_nodes))))
      (subst IsTree (sym (nodes ∙ ap (λ (ns : List Node). untaken ns k d fate) same_nodes)) tree)
