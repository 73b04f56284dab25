-- The records of a tree in which an instance lives again.
use Rattle.std.proofs.Common.{◌≡◌, ◌≢◌, ◌<◌, ◌+◌, ◌++◌, ◌∷◌, [], ℕ, List, Option, Some, None, true, false, ◌==◌, cond, length, count_by, refl, sym, ap, ◌∙◌}
use Rattle.std.proofs.Common.{subst, arith, inl, inr, slice_index_or, slice_set, length-set, length-append}
use Rattle.std.proofs.lemmas.List.{get_or_append_left}
use Rattle.std.proofs.Math.Seq.{get_or-append_seam}
use Rattle.cilk_spawn.specs.declared.record.Record.{Record}
use Rattle.cilk_spawn.specs.Nodes.{Node, no_node, node_at, is_live, live_ids, IsTree, IsBelow}
use Rattle.cilk_spawn.specs.Records.{node_of, nodes_of, no_record, child_of, live_index, child_at, place_at, IsChild, Kept}
use Rattle.std.proofs.lemmas.Bool.{cases_eq}
use Rattle.std.proofs.lemmas.Option.{same_Some}
use Rattle.cilk_spawn.proofs.Lists.{at_set, one_if, count_set}
use Rattle.cilk_spawn.proofs.Records.{At, SameLinks, at_is, record_is, unchanged_is}
use Rattle.cilk_spawn.proofs.Births.{at_here, at_there}
use Rattle.cilk_spawn.proofs.Ends.{live_count}
use Rattle.cilk_spawn.specs.Remains.{Remains}
use Rattle.cilk_spawn.specs.Revived.{alive, revived, Revived, Regained}

pub below_by : (e q : ℕ) (o : Option ℕ) → IsBelow o e → o ≡ Some q → q < e
below_by e q None h up = let no : None ≡ Some q = up in cc
below_by e q (Some p) h up = let same : p ≡ q = same_Some p q up in subst (λ n. n < e) same h

-- a parent is another
below_itself : (e q : ℕ) → {o : Option ℕ} → q ≡ e → IsBelow o e → o ≡ Some q → ⊥
below_itself e q {o} z h up = let l = below_by e q o h up in omega arith

module _ (rs now : List Record) (ids more : List ℕ) (e : ℕ) (r : Remains) (kept : Kept rs ids)
    (there : e < length (nodes_of rs)) (dead : is_live (node_at (nodes_of rs) e) ≡ false) (nodes : nodes_of now ≡ revived (nodes_of rs) e r)
    (tree : IsTree (nodes_of now)) (back : Revived rs now ids more e) where
  abbrev ns : List Node
  ns = nodes_of rs

  abbrev ms : List Node
  ms = nodes_of now

  abbrev again : Node
  again = alive r (node_at ns e)

  own : node_at ms e ≡ again
  own =
      ap (λ (xs : List Node). node_at xs e) nodes
      ∙ elim (at_set ns e again e no_node there) [ inl h ↦ h.1 | inr h ↦ absurd (h.0 refl) ]

  other : (i : ℕ) → i ≢ e → node_at ms i ≡ node_at ns i
  other i ne =
      ap (λ (xs : List Node). node_at xs i) nodes
      ∙ elim (at_set ns e again i no_node there) [ inl h ↦ absurd (ne h.0) | inr h ↦ h.1 ]

  -- who lived is another
  apart : (i : ℕ) → is_live (node_at ns i) ≡ true → i ≢ e
  apart i live = λ (z : i ≡ e). (let no : true ≡ false = sym live ∙ ap (λ (j : ℕ). is_live (node_at ns j)) z ∙ dead in cc)

  still : (q k i : ℕ) → IsChild ns q k i → IsChild ms q k i
  still q k i c =
      let is = other i (apart i c.lives) in
      record { lives = ap is_live is ∙ c.lives; parent = ap (λ (n : Node). n.parent) is ∙ c.parent; ordinal = ap (λ (n : Node). n.ordinal) is ∙ c.ordinal }

  is_back : (q k : ℕ) → (node_at ns e).parent ≡ Some q → (node_at ns e).ordinal ≡ k → IsChild ms q k e
  is_back q k up o = record { lives = ap is_live own; parent = ap (λ (n : Node). n.parent) own ∙ up; ordinal = ap (λ (n : Node). n.ordinal) own ∙ o }

  found_by : (q k i : ℕ) (o : Option ℕ) → (node_at ns e).parent ≡ o → q ≢ e → child_at now q k ≡ Some i → IsChild ms q k i
  found_by q k i None up ne h = still q k i (kept.found q k i (sym (back.others q k ne (λ p. (let f : None ≡ Some q = sym up ∙ p in cc))) ∙ h))
  found_by q k i (Some u) up ne h =
      elim (cases_eq q u) [
        | inl z ↦
            let upq : (node_at ns e).parent ≡ Some q = up ∙ ap (λ (j : ℕ). Some j) (sym z) in
            let gained = back.gained q k upq in
            elim (cases_eq (node_at ns e).ordinal k) [
              | inl same ↦
                  let is : e ≡ i = same_Some e i (sym (at_here (node_at ns e).ordinal k (Some e) (child_at rs q k) same) ∙ sym gained ∙ h) in
                  subst (λ (j : ℕ). IsChild ms q k j) is (is_back q k upq same)
              | inr differs ↦
                  still q k i (kept.found q k i (sym (gained ∙ at_there (node_at ns e).ordinal k (Some e) (child_at rs q k) differs) ∙ h))
            ]
        | inr differs ↦ still q k i (kept.found q k i (sym (back.others q k ne (λ p. differs (sym (same_Some u q (sym up ∙ p))))) ∙ h))
      ]

  found_all : (q k i : ℕ) → child_at now q k ≡ Some i → IsChild ms q k i
  found_all q k i h =
      elim (cases_eq q e) [
        | inl z ↦ absurd (let f : None ≡ Some i = sym (back.none_of k) ∙ ap (λ (j : ℕ). child_at now j k) (sym z) ∙ h in cc)
        | inr ne ↦ found_by q k i (node_at ns e).parent refl ne h
      ]

  lived : (i : ℕ) → i ≢ e → is_live (node_at ms i) ≡ true → is_live (node_at ns i) ≡ true
  lived i ne live = ap is_live (sym (other i ne)) ∙ live

  listed_by : (i q : ℕ) (o : Option ℕ) → (node_at ns e).parent ≡ o → i ≢ e → q ≢ e → is_live (node_at ns i) ≡ true → (node_at ns i).parent ≡ Some q
      → child_at now q (node_at ns i).ordinal ≡ Some i
  listed_by i q None up ne nq l p = back.others q (node_at ns i).ordinal nq (λ h. (let f : None ≡ Some q = sym up ∙ h in cc)) ∙ kept.listed i q l p
  listed_by i q (Some u) up ne nq l p =
      elim (cases_eq q u) [
        | inl z ↦
            let upq : (node_at ns e).parent ≡ Some q = up ∙ ap (λ (j : ℕ). Some j) (sym z) in
            back.gained q (node_at ns i).ordinal upq
            ∙ at_there (node_at ns e).ordinal (node_at ns i).ordinal (Some e) (child_at rs q (node_at ns i).ordinal)
            (λ same. ne (kept.tree.apart i e q p upq (sym same)))
            ∙ kept.listed i q l p
        | inr differs ↦ back.others q (node_at ns i).ordinal nq (λ h. differs (sym (same_Some u q (sym up ∙ h)))) ∙ kept.listed i q l p
      ]

  listed_all : (i q : ℕ) → is_live (node_at ms i) ≡ true → (node_at ms i).parent ≡ Some q → child_at now q (node_at ms i).ordinal ≡ Some i
  listed_all i q l p =
      elim (cases_eq i e) [
        | inl z ↦
            let here : node_at ms i ≡ again = ap (node_at ms) z ∙ own in
            let up : (node_at ns e).parent ≡ Some q = sym (ap (λ (n : Node). n.parent) here) ∙ p in
            ap (child_at now q) (ap (λ (n : Node). n.ordinal) here) ∙ back.gained q (node_at ns e).ordinal up
            ∙ at_here (node_at ns e).ordinal (node_at ns e).ordinal (Some e) (child_at rs q (node_at ns e).ordinal) refl ∙ ap (λ (j : ℕ). Some j) (sym z)
        | inr ne ↦
            let was = lived i ne l in
            let up : (node_at ns i).parent ≡ Some q = sym (ap (λ (n : Node). n.parent) (other i ne)) ∙ p in
            ap (child_at now q) (ap (λ (n : Node). n.ordinal) (other i ne))
            ∙ listed_by i q (node_at ns e).parent refl ne (apart q (kept.tree.outlives i q up was)) was up
      ]

  more_length : length more ≡ length ids + 1
  more_length = ap length back.ids_are ∙ length-append ids (e ∷ [])

  old_place : (k : ℕ) → k < length ids → slice_index_or more k 0 ≡ slice_index_or ids k 0
  old_place k h = ap (λ (xs : List ℕ). slice_index_or xs k 0) back.ids_are ∙ get_or_append_left ids (e ∷ []) 0 k h

  last_place : (k : ℕ) → k ≡ length ids → slice_index_or more k 0 ≡ e
  last_place k z = ap (λ (xs : List ℕ). slice_index_or xs k 0) back.ids_are ∙ ap (λ (j : ℕ). slice_index_or (ids ++ e ∷ []) j 0) z
      ∙ get_or-append_seam ids e [] 0

  counted : length more ≡ length (live_ids ms)
  counted =
      let s = count_set is_live ns e again no_node there in
      let none : one_if (is_live (node_at ns e)) ≡ 0 = ap one_if dead in
      let a = live_count ns in
      let b = live_count ms in
      let c : count_by is_live ms ≡ count_by is_live (slice_set ns e again) = ap (count_by is_live) nodes in
      let k = kept.count in
      let n = more_length in
      omega arith

  pub revived_kept : Kept now more
  revived_kept = record {
    tree = tree;
    found = found_all;
    listed = listed_all;
    within = λ i live. elim (cases_eq i e) [
      | inl z ↦ let w : place_at now i ≡ length ids = ap (place_at now) z ∙ back.placed in omega (arith, w, more_length)
      | inr ne ↦ let w = back.places i ne in let b = kept.within i (lived i ne live) in omega (arith, w, b, more_length)
    ];
    place = λ i live. elim (cases_eq i e) [
      | inl z ↦ last_place (place_at now i) (ap (place_at now) z ∙ back.placed) ∙ sym z
      | inr ne ↦
          let was = lived i ne live in
          ap (λ (k : ℕ). slice_index_or more k 0) (back.places i ne) ∙ old_place (place_at rs i) (kept.within i was) ∙ kept.place i was
    ];
    lives = λ k h. elim (cases_eq k (length ids)) [
      | inl z ↦ ap (λ (j : ℕ). is_live (node_at ms j)) (last_place k z) ∙ ap is_live own
      | inr ne ↦
          let inside : k < length ids = omega (arith, h, ne, more_length) in
          let was = kept.lives k inside in
          ap (λ (j : ℕ). is_live (node_at ms j)) (old_place k inside) ∙ ap is_live (other (slice_index_or ids k 0) (apart (slice_index_or ids k 0) was)) ∙ was
    ];
    stands = λ k h. elim (cases_eq k (length ids)) [
      | inl z ↦ ap (place_at now) (last_place k z) ∙ back.placed ∙ sym z
      | inr ne ↦
          let inside : k < length ids = omega (arith, h, ne, more_length) in
          let was = kept.lives k inside in
          ap (place_at now) (old_place k inside) ∙ back.places (slice_index_or ids k 0) (apart (slice_index_or ids k 0) was) ∙ kept.stands k inside
    ];
    count = counted;
  }

pub parent_lives : (ns : List Node) (e q : ℕ) (r : Remains) → IsTree (revived ns e r) → e < length ns → (node_at ns e).parent ≡ Some q
    → is_live (node_at ns q) ≡ true
parent_lives ns e q r tree there up =
    let own : node_at (revived ns e r) e ≡ alive r (node_at ns e) =
    elim (at_set ns e (alive r (node_at ns e)) e no_node there) [ inl h ↦ h.1 | inr h ↦ absurd (h.0 refl) ] in
    let parent : (node_at (revived ns e r) e).parent ≡ Some q = ap (λ (n : Node). n.parent) own ∙ up in
    let lives = tree.outlives e q parent (ap is_live own) in
    elim (at_set ns e (alive r (node_at ns e)) q no_node there) [
      | inl h ↦ absurd (below_itself e q h.0 (tree.below e) parent)
      | inr h ↦ ap is_live (sym h.1) ∙ lives
    ]

pub regained_some : (rs : List Record) (e p q : ℕ) (x y r : Record) → At rs e x → x.parent ≡ Some p → q ≡ p → At rs q y → node_of r ≡ node_of y
    → ((k : ℕ) → child_of r.life k ≡ cond (x.ordinal == k) (Some e) (child_of y.life k)) → live_index r.life ≡ live_index y.life
    → Regained rs (slice_set rs q r) e
regained_some rs e p q x y r at px qp up node children place =
    let parent : (node_at (nodes_of rs) e).parent ≡ Some p = ap (λ (n : Node). n.parent) (at_is rs e x at) ∙ px in
    let ordinal : (node_at (nodes_of rs) e).ordinal ≡ x.ordinal = ap (λ (n : Node). n.ordinal) (at_is rs e x at) in
    record {
      len = length-set rs q r;
      nodes = unchanged_is rs (nodes_of rs) q y r up refl node;
      gained = λ u k pu. elim (at_set rs q r u no_record up.there) [
        | inl z ↦
            ap (λ (a : Record). child_of a.life k) z.1 ∙ children k
            ∙ ap (λ (a : Record). cond (x.ordinal == k) (Some e) (child_of a.life k)) (sym (record_is rs q y up))
            ∙ ap (λ (m : ℕ). cond (x.ordinal == k) (Some e) (child_at rs m k)) (sym z.0)
            ∙ ap (λ (o : ℕ). cond (o == k) (Some e) (child_at rs u k)) (sym ordinal)
        | inr z ↦ absurd (z.0 (sym (same_Some p u (sym parent ∙ pu)) ∙ sym qp))
      ];
      others = λ u k ne. elim (at_set rs q r u no_record up.there) [
        | inl z ↦ absurd (ne (parent ∙ ap (λ (m : ℕ). Some m) (sym qp ∙ sym z.0)))
        | inr z ↦ ap (λ (a : Record). child_of a.life k) z.1
      ];
      places = λ i. elim (at_set rs q r i no_record up.there) [
        | inl z ↦ ap (λ (a : Record). live_index a.life) z.1 ∙ place ∙ ap (λ (a : Record). live_index a.life) (sym (record_is rs q y up))
            ∙ ap (place_at rs) (sym z.0)
        | inr z ↦ ap (λ (a : Record). live_index a.life) z.1
      ];
    }

-- both writes together
pub revived_by : (rs rs1 : List Record) (ids more : List ℕ) (e : ℕ) (x y : Record) → Regained rs rs1 e → At rs1 e x
    → IsTree (nodes_of rs) → ((k : ℕ) → child_of y.life k ≡ None) → live_index y.life ≡ length ids → more ≡ ids ++ e ∷ []
    → Revived rs (slice_set rs1 e y) ids more e
revived_by rs rs1 ids more e x y g at tree none place is =
    let own : (i : ℕ) → i ≡ e → slice_index_or (slice_set rs1 e y) i no_record ≡ y =
    λ i z. elim (at_set rs1 e y i no_record at.there) [ inl h ↦ h.1 | inr h ↦ absurd (h.0 z) ] in
    let same : (i : ℕ) → i ≢ e → slice_index_or (slice_set rs1 e y) i no_record ≡ slice_index_or rs1 i no_record =
    λ i ne. elim (at_set rs1 e y i no_record at.there) [ inl h ↦ absurd (ne h.0) | inr h ↦ h.1 ] in
    record {
      none_of = λ k. ap (λ (a : Record). child_of a.life k) (own e refl) ∙ none k;
      gained = λ q k up.
          ap (λ (a : Record). child_of a.life k) (same q (λ z. below_itself e q z (tree.below e) up)) ∙ g.gained q k up;
      others = λ q k ne no. ap (λ (a : Record). child_of a.life k) (same q ne) ∙ g.others q k no;
      ids_are = is;
      placed = ap (λ (a : Record). live_index a.life) (own e refl) ∙ place;
      places = λ j ne. ap (λ (a : Record). live_index a.life) (same j ne) ∙ g.places j;
    }

pub links_same : (old new : List Node) → new ≡ old → SameLinks old new
links_same old new e = record {
  len = ap length e;
  parents = λ i. ap (λ (xs : List Node). (node_at xs i).parent) e;
  ordinals = λ i. ap (λ (xs : List Node). (node_at xs i).ordinal) e;
  lives = λ i. ap (λ (xs : List Node). is_live (node_at xs i)) e;
}
