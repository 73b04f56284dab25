-- Two trees are compared, path by path.
use Rattle.std.proofs.Common.{◌≡◌, ◌<◌, ◌∷◌, [], ℕ, suc, List, Option, Some, None, true, length, refl, sym, ap, ◌∙◌, subst, arith, slice_get}
use Rattle.std.proofs.Common.{slice_index_or}
use Rattle.std.specs.Option.{IfSome}
use Rattle.std.proofs.lemmas.Option.{slice_get_within, get_or_from_slice_get}
use Rattle.std.proofs.lemmas.List.{get_or_read}
use Rattle.std.proofs.lemmas.List.Elements.{All-get_or}
use Rattle.cilk_frame.specs.model.Path.{child_path}
use Rattle.cilk_spawn.specs.declared.delivery.Delivery.{Delivery}
use Rattle.cilk_spawn.specs.declared.record.Record.{Record}
use Rattle.cilk_spawn.specs.Family.{Family}
use Rattle.cilk_spawn.specs.Nodes.{Node, node_at, is_live, path_at, IsFrom, IsTree}
use Rattle.cilk_spawn.specs.Records.{nodes_of, node_of, child_of, place_at, Kept}
use Rattle.cilk_spawn.specs.Alike.{SameDelivery, SameWaiting}
use Rattle.cilk_spawn.proofs.Trees.{path_child, live_there}
use Rattle.cilk_spawn.proofs.Children.{root_path}
use Rattle.cilk_spawn.proofs.Records.{At, at_is, record_is}
use Rattle.cilk_spawn.proofs.Written.{nodes_are}

-- the delivery at k comes from a child
pub from_at : (ns : List Node) (i : ℕ) → IsTree ns → (k : ℕ) (d : Delivery) → slice_get (node_at ns i).waiting k ≡ Some d → IsFrom ns i d
from_at ns i t k d e =
    let xs = (node_at ns i).waiting in
    subst (IsFrom ns i) (get_or_from_slice_get xs k d d e) (All-get_or (IsFrom ns i) xs k d (slice_get_within xs k d e) (t.sent i))

-- children of two of one path, with one ordinal, have one path
pub child_path_is : (ns ms : List Node) → IsTree ns → IsTree ms → (i j x y : ℕ) → path_at ns i ≡ path_at ms j → (node_at ns x).parent ≡ Some i
    → (node_at ms y).parent ≡ Some j → (node_at ns x).ordinal ≡ (node_at ms y).ordinal → path_at ns x ≡ path_at ms y
child_path_is ns ms t u i j x y path here there ordinal =
    path_child ns t x i here ∙ ap (λ p. child_path p (node_at ns x).ordinal) path ∙ ap (child_path (path_at ms j)) ordinal
    ∙ sym (path_child ms u y j there)

pub delivery_is : (ns ms : List Node) → IsTree ns → IsTree ms → (i j k : ℕ) → path_at ns i ≡ path_at ms j → (x y d e : Delivery)
    → slice_get (node_at ns i).waiting k ≡ Some x → slice_get (node_at ms j).waiting k ≡ Some y
    → (node_at ns x.child).ordinal ≡ (node_at ms y.child).ordinal → x.value ≡ y.value → x.receiver ≡ y.receiver
    → slice_get (node_at ns i).waiting k ≡ Some d → slice_get (node_at ms j).waiting k ≡ Some e → SameDelivery ns ms d e
delivery_is ns ms t u i j k path x y d e here there ordinal value receiver one other =
    let first : Some x ≡ Some d = sym here ∙ one in
    let second : Some y ≡ Some e = sym there ∙ other in
    let mine : x ≡ d = cc in
    let own : y ≡ e = cc in
    let same : SameDelivery ns ms x y = record {
      child = child_path_is ns ms t u i j x.child y.child path (from_at ns i t k x here) (from_at ms j u k y there) ordinal;
      value = value;
      receiver = receiver;
    } in
    subst (λ z. SameDelivery ns ms d z) own (subst (λ (z : Delivery). SameDelivery ns ms z y) mine same)

-- delivery by delivery
pub waiting_is : (ns ms : List Node) (ds es : List Delivery) → length ds ≡ length es
    → ((k : ℕ) → k < length ds → (d e : Delivery) → slice_get ds k ≡ Some d → slice_get es k ≡ Some e → SameDelivery ns ms d e) → SameWaiting ns ms ds es
waiting_is ns ms [] [] n h = tt
waiting_is ns ms [] (e ∷ es) n h = absurd (omega (arith, n))
waiting_is ns ms (d ∷ ds) [] n h = absurd (omega (arith, n))
waiting_is ns ms (d ∷ ds) (e ∷ es) n h =
    (h 0 (omega arith) d e refl refl, waiting_is ns ms ds es (omega (arith, n)) (λ k lt x y p q. h (suc k) (omega (arith, lt)) x y p q))

module _ (rs qs : List Record) (ids others : List ℕ) (kept : Kept rs ids) (also : Kept qs others) where
  -- the child there with the same ordinal
  pub partner_is : (i p to c : ℕ) (x y : Record) → At rs i x → x.parent ≡ Some p → path_at (nodes_of rs) p ≡ path_at (nodes_of qs) to → At qs to y
      → child_of y.life x.ordinal ≡ Some c → (c < length (nodes_of qs)) × (path_at (nodes_of rs) i ≡ path_at (nodes_of qs) c)
  partner_is i p to c x y at parent path here found =
      let child = also.found to x.ordinal c (ap (λ (r : Record). child_of r.life x.ordinal) (record_is qs to y here) ∙ found) in
      let node = at_is rs i x at in (
        live_there (nodes_of qs) c child.lives,
        child_path_is (nodes_of rs) (nodes_of qs) kept.tree also.tree p to i c path (ap (λ (n : Node). n.parent) node ∙ parent) child.parent
            (ap (λ (n : Node). n.ordinal) node ∙ sym child.ordinal),
      )

-- each that lives has a place
pub each_by : (rs : List Record) (ids : List ℕ) → Kept rs ids → (P : ℕ → Type 0) → ((k : ℕ) → k < length ids → P (slice_index_or ids k 0)) → (i : ℕ)
    → is_live (node_at (nodes_of rs) i) ≡ true → P i
each_by rs ids kept P h i live = subst P (kept.place i live) (h (place_at rs i) (kept.within i live))

-- the node that is told of a record
pub node_told : (rs : List Record) (ids : List ℕ) (v : Family) (i : ℕ) (x : Record) → (let f : Family = record { nodes = nodes_of rs; living = ids } in f ≡ v)
    → At rs i x → node_at v.nodes i ≡ node_of x
node_told rs ids v i x e at = sym (ap (λ (ns : List Node). node_at ns i) (nodes_are (nodes_of rs) ids v e)) ∙ at_is rs i x at

pub tree_told : (rs : List Record) (ids : List ℕ) (v : Family) → (let f : Family = record { nodes = nodes_of rs; living = ids } in f ≡ v) → Kept rs ids
    → IsTree v.nodes
tree_told rs ids v e kept = subst IsTree (nodes_are (nodes_of rs) ids v e) kept.tree

-- it is there, and has that path
abbrev pub IsPartner : List Node → List Node → ℕ → ℕ → Type 0
IsPartner ns ms i c = (c < length ms) × (path_at ns i ≡ path_at ms c)

module _ (rs qs : List Record) (ids others : List ℕ) (v w : Family) (e : let f : Family = record { nodes = nodes_of rs; living = ids } in f ≡ v)
    (g : let f : Family = record { nodes = nodes_of qs; living = others } in f ≡ w) (kept : Kept rs ids) (also : Kept qs others) where
  pub partner_told : (i p to : ℕ) (x y : Record) → At rs i x → x.parent ≡ Some p → path_at v.nodes p ≡ path_at w.nodes to → At qs to y
      → (o : Option ℕ) → o ≡ child_of y.life x.ordinal → IfSome o (IsPartner v.nodes w.nodes i)
  partner_told i p to x y at parent path here None found = tt
  partner_told i p to x y at parent path here (Some c) found =
      let one = nodes_are (nodes_of rs) ids v e in
      let other = nodes_are (nodes_of qs) others w g in
      let same : path_at (nodes_of rs) p ≡ path_at (nodes_of qs) to =
      ap (λ (ns : List Node). path_at ns p) one ∙ path ∙ sym (ap (λ (ns : List Node). path_at ns to) other) in
      let is = partner_is rs qs ids others kept also i p to c x y at parent same here (sym found) in (
        subst (λ (ns : List Node). c < length ns) other is.0,
        sym (ap (λ (ns : List Node). path_at ns i) one) ∙ is.1 ∙ ap (λ (ns : List Node). path_at ns c) other,
      )

  -- a child there of the parent's partner, with the same ordinal
  pub child_told : (i p to c : ℕ) (x : Record) → At rs i x → x.parent ≡ Some p → path_at v.nodes p ≡ path_at w.nodes to
      → (node_at w.nodes c).parent ≡ Some to → (node_at w.nodes c).ordinal ≡ x.ordinal → path_at v.nodes i ≡ path_at w.nodes c
  child_told i p to c x at parent path there ordinal =
      let node = node_told rs ids v i x e at in
      child_path_is v.nodes w.nodes (tree_told rs ids v e kept) (tree_told qs others w g also) p to i c path (ap (λ (n : Node). n.parent) node ∙ parent)
      there (ap (λ (n : Node). n.ordinal) node ∙ sym ordinal)

  -- the roots have one path
  pub roots_are_partners : (i j : ℕ) → i ≡ 0 → j ≡ 0 → path_at v.nodes i ≡ path_at w.nodes j
  roots_are_partners i j here there =
      ap (path_at v.nodes) here ∙ root_path v.nodes (tree_told rs ids v e kept) ∙ sym (root_path w.nodes (tree_told qs others w g also))
      ∙ ap (path_at w.nodes) (sym there)

pub second_of : (o : Option ℕ) (P Q : ℕ → Type 0) → IfSome o (λ c. P c × Q c) → IfSome o Q
second_of None P Q h = tt
second_of (Some c) P Q h = h.1

module _ (rs : List Record) (ids : List ℕ) (v : Family) (e : let f : Family = record { nodes = nodes_of rs; living = ids } in f ≡ v) (kept : Kept rs ids) where
  -- the id at a place is that of one that lives
  pub living_there : (k x : ℕ) → k < length ids → x ≡ slice_index_or ids k x → x < length v.nodes
  living_there k x lt is =
      let same : slice_index_or ids k 0 ≡ x = sym (get_or_read ids k x lt is 0) in
      let inside = live_there (nodes_of rs) x (subst (λ i. is_live (node_at (nodes_of rs) i) ≡ true) same (kept.lives k lt)) in
      subst (λ (ns : List Node). x < length ns) (nodes_are (nodes_of rs) ids v e) inside

  -- what holds of each place holds of each that lives
  pub each_living : (P : ℕ → Type 0) → ((k : ℕ) → k < length ids → P (slice_index_or ids k 0)) → (i : ℕ) → is_live (node_at v.nodes i) ≡ true → P i
  each_living P h i live = each_by rs ids kept P h i (ap (λ (ns : List Node). is_live (node_at ns i)) (nodes_are (nodes_of rs) ids v e) ∙ live)

-- one place more
pub place_more : (ids : List ℕ) (P : ℕ → Type 0) (k x : ℕ) → k < length ids → x ≡ slice_index_or ids k x → P x → P (slice_index_or ids k 0)
place_more ids P k x lt is h = subst P (get_or_read ids k x lt is 0) h
