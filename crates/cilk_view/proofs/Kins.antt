-- The children in the order of their ordinals, and what a search among them finds.
use Rattle.std.proofs.Common.{◌≡◌, ◌⊎◌, inl, inr, ℕ, ◌+◌, ◌<◌, ◌≤◌, Bool, true}
use Rattle.std.proofs.Common.{false, cond, List, [], ◌∷◌, ◌++◌, length, All, Option, Some, None}
use Rattle.std.proofs.Common.{Result, Ok, Err, refl, sym, ap, ◌∙◌, subst, arith, slice_index_or, lt-ltb, le-ltb, eq-eqb, ne_eqb}
use Rattle.std.proofs.Common.{Ordering, Less, Equal, Greater}
use Rattle.std.specs.Prelude.{nat_lt, nat_eq}
use Rattle.std.specs.List.{Contains, AllWithin, HoldsAt}
use Rattle.std.specs.List.Sorted.{IsPermutation, IsSorted, IsSearchInRange, IsBinarySearchResult}
use Rattle.std.specs.Ordering.{nat_cmp, is_lt, ordering_then}
use Rattle.std.specs.Cmp.{IsTotalOrder}
use Rattle.std.proofs.lemmas.Bool.{cases_eq, cases_lt}
use Rattle.std.proofs.lemmas.Cmp.{nat_cmp_total, on_total, then_total}
use Rattle.std.proofs.lemmas.List.Elements.{All-push, All-contains, Contains-append_left, Contains-push, Contains-get_or}
use Rattle.std.proofs.lemmas.List.Sorted.{All-permutation, Contains-permutation, ranks_by, searchable_from_sorted, sorted_far}
use Rattle.cilk_machine_agree.specs.spawn.Nodes.{Node, node_at}
use Rattle.cilk_machine_agree.proofs.spawn_laws.Trees.{child_there}
use Rattle.cilk_view.specs.declared.link.Link.{Link}
use Rattle.cilk_view.specs.Ups.{link_by, links_of, link_at}
use Rattle.cilk_view.specs.Kin.{Kin, IsKin, AreKin, by_kin, KinSorted, NextChild, NoChild, with_kin, search_end}
use Rattle.cilk_view.proofs.Ups.{link_there}

pub kin_none : (ns : List Node) → AreKin ns 0 []
kin_none ns = record { each = λ k d h. absurd (omega (arith, h)); all = λ i p h. absurd (omega (arith, h)) }

link_parts : (u : Option ℕ) (o : ℕ) (l : Link) → link_by u o ≡ Some l → (u ≡ Some l.parent) × (o ≡ l.ordinal)
link_parts None o l e = cc
link_parts (Some p) o l e =
    let same : (let m : Link = record { parent = p; ordinal = o } in m) ≡ l = cc in
    (ap (λ (m : Link). Some m.parent) same, ap (λ (m : Link). m.ordinal) same)

link_none : (u : Option ℕ) (o : ℕ) → link_by u o ≡ None → u ≡ None
link_none None o e = refl
link_none (Some p) o e = cc

both_parents : (u : Option ℕ) (p q : ℕ) → u ≡ Some p → u ≡ Some q → p ≡ q
both_parents u p q e f = cc

-- those that are before the end, or at it
before_or_at : (i n : ℕ) → i < n + 1 → (i < n) ⊎ (i ≡ n)
before_or_at i n h =
    elim (cases_lt i n) [
      | inl less ↦ inl less
      | inr more ↦ inr (omega (arith, h, more))
    ]

module _ (ns : List Node) (n : ℕ) (kin : List Kin) (are : AreKin ns n kin) where
  -- one more
  pub kin_more : (links : List (Option Link)) (now : List Kin) (l : Link) → links ≡ links_of ns → link_at links n ≡ Some l
      → now ≡ kin ++ (l.parent, (l.ordinal, n)) ∷ [] → AreKin ns (n + 1) now
  kin_more links now l same is grown =
      let parts = link_parts (node_at ns n).parent (node_at ns n).ordinal l (sym (link_there ns n) ∙ ap (λ ls. link_at ls n) (sym same) ∙ is) in
      let one : Kin = (l.parent, (l.ordinal, n)) in
      record {
        each = subst (All (IsKin ns)) (sym grown) (All-push (IsKin ns) kin one are.each (parts.0, parts.1));
        all = λ i p h e. subst (λ k. Contains k (p, ((node_at ns i).ordinal, i))) (sym grown)
            (elim (before_or_at i n h) [
              | inl less ↦ Contains-append_left kin (one ∷ []) (p, ((node_at ns i).ordinal, i)) (are.all i p less e)
              | inr here ↦ let parent : l.parent ≡ p = both_parents (node_at ns n).parent l.parent p parts.0 (ap (λ k. (node_at ns k).parent) (sym here) ∙ e) in
                  let ordinal : l.ordinal ≡ (node_at ns i).ordinal = sym parts.1 ∙ ap (λ k. (node_at ns k).ordinal) (sym here) in
                  subst (λ k. Contains (kin ++ one ∷ []) k) (λ j. (parent j, (ordinal j, sym here j))) (Contains-push kin one)
            ]);
      }

  -- the root
  pub kin_skip : (links : List (Option Link)) → links ≡ links_of ns → link_at links n ≡ None → AreKin ns (n + 1) kin
  kin_skip links same is =
      let none = link_none (node_at ns n).parent (node_at ns n).ordinal (sym (link_there ns n) ∙ ap (λ ls. link_at ls n) (sym same) ∙ is) in
      record {
        each = are.each;
        all = λ i p h e.
            (elim (before_or_at i n h) [
              | inl less ↦ are.all i p less e
              | inr here ↦ absurd (no_parent (node_at ns n).parent p none (ap (λ k. (node_at ns k).parent) (sym here) ∙ e))
            ]);
      }
    where
      no_parent : (u : Option ℕ) (p : ℕ) → u ≡ None → u ≡ Some p → ⊥
      no_parent u p e f = cc

-- one instance more
pub kin_next : (ns : List Node) (n : ℕ) (kin now : List Kin) (links : List (Option Link)) (l : Option Link) → AreKin ns n kin → links ≡ links_of ns
    → link_at links n ≡ l → now ≡ with_kin l n kin → AreKin ns (n + 1) now
kin_next ns n kin now links None are same is grown = subst (AreKin ns (n + 1)) (sym grown) (kin_skip ns n kin are links same is)
kin_next ns n kin now links (Some l) are same is grown = kin_more ns n kin are links now l same is grown

-- the parent and the ordinal by the link
pub link_parent : (ns : List Node) (links : List (Option Link)) (at : ℕ) (l : Link) → links ≡ links_of ns → Some l ≡ link_at links at
    → ((node_at ns at).parent ≡ Some l.parent) × ((node_at ns at).ordinal ≡ l.ordinal)
link_parent ns links at l same is =
    link_parts (node_at ns at).parent (node_at ns at).ordinal l (sym (link_there ns at) ∙ ap (λ ls. link_at ls at) (sym same) ∙ sym is)

pub link_root : (ns : List Node) (links : List (Option Link)) (at : ℕ) → links ≡ links_of ns → None ≡ link_at links at → (node_at ns at).parent ≡ None
link_root ns links at same is =
    link_none (node_at ns at).parent (node_at ns at).ordinal (sym (link_there ns at) ∙ ap (λ ls. link_at ls at) (sym same) ∙ sym is)

pub kin_sorted : (ns : List Node) (kin now : List Kin) → AreKin ns (length ns) kin → IsPermutation kin now → IsSorted by_kin now → KinSorted ns now
kin_sorted ns kin now are moved sorted = record {
  are = record {
    each = All-permutation (IsKin ns) kin now moved are.each;
    all = λ i p h e. Contains-permutation kin now (p, ((node_at ns i).ordinal, i)) moved (are.all i p h e);
  };
  sorted = sorted;
}

-- ---- what comparisons say

less_bits : (b c : Bool) (s : Ordering) → ordering_then (cond b Less (cond c Equal Greater)) s ≡ Less → (b ≡ true) ⊎ ((c ≡ true) × (s ≡ Less))
less_bits true c s e = inl refl
less_bits false true s e = inr (refl, e)
less_bits false false s e = cc

not_less_bits : (b c : Bool) (s : Ordering) → is_lt (ordering_then (cond b Less (cond c Equal Greater)) s) ≡ false
    → (b ≡ false) × ((c ≡ false) ⊎ (is_lt s ≡ false))
not_less_bits true c s e = cc
not_less_bits false true s e = (refl, inr e)
not_less_bits false false s e = (refl, inl refl)

equal_bits : (b c : Bool) (s : Ordering) → ordering_then (cond b Less (cond c Equal Greater)) s ≡ Equal → (c ≡ true) × (s ≡ Equal)
equal_bits true c s e = cc
equal_bits false true s e = (refl, e)
equal_bits false false s e = cc

pub less_is : (k l : ℕ) → nat_lt k l ≡ true → k < l
less_is k l e =
    elim (cases_lt k l) [
      | inl h ↦ h
      | inr h ↦ absurd (let no : nat_lt k l ≡ false = le-ltb k l h in cc)
    ]

not_less_is : (k l : ℕ) → nat_lt k l ≡ false → l ≤ k
not_less_is k l e =
    elim (cases_lt k l) [
      | inl h ↦ absurd (let yes : nat_lt k l ≡ true = lt-ltb k l h in cc)
      | inr h ↦ h
    ]

same_is : (k l : ℕ) → nat_eq k l ≡ true → k ≡ l
same_is k l e =
    elim (cases_eq k l) [
      | inl h ↦ h
      | inr h ↦ absurd (let no : nat_eq k l ≡ false = ne_eqb k l h in cc)
    ]

not_same_is : (k l : ℕ) → nat_eq k l ≡ false → k ≡ l → ⊥
not_same_is k l e same = let yes : nat_eq k l ≡ true = eq-eqb k l same in cc

less_then : (k l : ℕ) (s : Ordering) → ordering_then (nat_cmp k l) s ≡ Less → (k < l) ⊎ ((k ≡ l) × (s ≡ Less))
less_then k l s e =
    elim (less_bits (nat_lt k l) (nat_eq k l) s e) [
      | inl h ↦ inl (less_is k l h)
      | inr h ↦ inr (same_is k l h.0, h.1)
    ]

not_less_then : (k l : ℕ) (s : Ordering) → is_lt (ordering_then (nat_cmp k l) s) ≡ false → (l < k) ⊎ ((l ≤ k) × (is_lt s ≡ false))
not_less_then k l s e =
    let bits = not_less_bits (nat_lt k l) (nat_eq k l) s e in
    let most = not_less_is k l bits.0 in
    elim bits.1 [
      | inl h ↦ inl (let other = not_same_is k l h in omega (arith, most, other))
      | inr h ↦ inr (most, h)
    ]

-- a child that stands in front of what was searched for
kin_less : (at o c m : ℕ) → by_kin (at, (o, c)) (at, (m, 0)) ≡ Less → o < m
kin_less at o c m e =
    elim (less_then at at (ordering_then (nat_cmp o m) (nat_cmp c 0)) e) [
      | inl h ↦ absurd (omega (arith, h))
      | inr h ↦ elim (less_then o m (nat_cmp c 0) h.1) [
        | inl g ↦ g
        | inr g ↦ absurd (no_less c (nat_lt c 0) refl g.1)
      ]
    ]
  where
    no_less : (c : ℕ) (b : Bool) → nat_lt c 0 ≡ b → nat_cmp c 0 ≡ Less → ⊥
    no_less c true e f = let h = less_is c 0 e in omega (arith, h)
    no_less c false e f = by_same (nat_eq c 0) (ap (λ b. cond b Less (cond (nat_eq c 0) Equal Greater)) (sym e) ∙ f)
      where
        by_same : (b : Bool) → cond b Equal Greater ≡ Less → ⊥
        by_same true g = cc
        by_same false g = cc

-- one that does not stand in front of another
kin_not_less : (x y : Kin) → is_lt (by_kin x y) ≡ false → (y.0 < x.0) ⊎ ((y.0 ≤ x.0) × (y.1.0 ≤ x.1.0))
kin_not_less x y e =
    elim (not_less_then x.0 y.0 (ordering_then (nat_cmp x.1.0 y.1.0) (nat_cmp x.1.1 y.1.1)) e) [
      | inl h ↦ inl h
      | inr h ↦ elim (not_less_then x.1.0 y.1.0 (nat_cmp x.1.1 y.1.1) h.1) [
        | inl g ↦ inr (h.0, (omega (arith, g)))
        | inr g ↦ inr (h.0, g.0)
      ]
    ]

kin_equal : (x y : Kin) → by_kin x y ≡ Equal → (x.0 ≡ y.0) × (x.1.0 ≡ y.1.0)
kin_equal x y e =
    let first = equal_bits (nat_lt x.0 y.0) (nat_eq x.0 y.0) (ordering_then (nat_cmp x.1.0 y.1.0) (nat_cmp x.1.1 y.1.1)) e in
    let second = equal_bits (nat_lt x.1.0 y.1.0) (nat_eq x.1.0 y.1.0) (nat_cmp x.1.1 y.1.1) first.1 in
    (same_is x.0 y.0 first.0, same_is x.1.0 y.1.0 second.0)

kin_total : IsTotalOrder by_kin
kin_total =
    then_total (on_total (λ (x : Kin). x.0) nat_cmp_total)
    (then_total (on_total (λ (x : Kin). x.1.0) nat_cmp_total) (on_total (λ (x : Kin). x.1.1) nat_cmp_total))

-- ---- the search

-- the place of what was searched for, or that between what is less and what is not
abbrev pub Found : List Kin → Kin → ℕ → Type 0
Found kin x place =
    ((place < length kin) × HoldsAt (λ y. by_kin y x ≡ Equal) kin place)
    ⊎ (AllWithin (λ y. by_kin y x ≡ Less) kin 0 place × AllWithin (λ y. by_kin y x ≡ Greater) kin place (length kin))

pub found_by : (kin : List Kin) (x : Kin) (r : Result ℕ ℕ) → IsSorted by_kin kin → IsSearchInRange r (length kin) → IsBinarySearchResult (λ y. by_kin y x) kin r
    → Found kin x (search_end r)
found_by kin x (Ok i) sorted within is = inl (within, is)
found_by kin x (Err i) sorted within is = inr (is (searchable_from_sorted kin_total (λ (y : Kin). y) kin x sorted))

module _ (ns : List Node) (kin : List Kin) (order : KinSorted ns kin) (at after place : ℕ) (found : Found kin (at, (after + 1, 0)) place) where
  -- a child of this instance stands at some place
  pub record Stands (j : ℕ) : Type 0 where
    k : ℕ
    within : k < length kin
    is : slice_index_or kin k (at, ((node_at ns j).ordinal, j)) ≡ (at, ((node_at ns j).ordinal, j))

  stands : (j : ℕ) → (node_at ns j).parent ≡ Some at → Stands j
  stands j e =
      let c = order.are.all j at (child_there ns j at e) e in
      record { k = c.0; within = c.1; is = c.2 }

  -- what stands at a later place is no less
  no_less : (i k : ℕ) (d : Kin) → i ≤ k → k < length kin → is_lt (by_kin (slice_index_or kin k d) (slice_index_or kin i d)) ≡ false
  no_less i k d low high = sorted_far (λ x y. is_lt (by_kin x y)) (ranks_by kin_total (λ (y : Kin). y)) kin order.sorted i k d low high

  module _ (e : Kin) (there : place < length kin) (is : (d : Kin) → e ≡ slice_index_or kin place d) where
    own : IsKin ns e
    own = subst (IsKin ns) (sym (is e)) (All-contains (IsKin ns) kin (slice_index_or kin place e) order.are.each (Contains-get_or kin place e there))

    -- against any at a later place
    against : (j : ℕ) (s : Stands j) → place ≤ s.k → is_lt (by_kin (at, ((node_at ns j).ordinal, j)) e) ≡ false
    against j s low =
        let one : Kin = (at, ((node_at ns j).ordinal, j)) in
        subst (λ (x : Kin). is_lt (by_kin x e) ≡ false) s.is
        (subst (λ (y : Kin). is_lt (by_kin (slice_index_or kin s.k one) y) ≡ false) (sym (is one)) (no_less place s.k one low s.within))

    least_at : e.0 ≡ at → (j : ℕ) (s : Stands j) → place ≤ s.k → e.1.0 ≤ (node_at ns j).ordinal
    least_at same j s low =
        elim (kin_not_less (at, ((node_at ns j).ordinal, j)) e (against j s low)) [
          | inl h ↦ absurd (omega (arith, h, same))
          | inr h ↦ h.1
        ]

    not_before : (e.0 ≡ at) → Found kin (at, (after + 1, 0)) place → after + 1 ≤ e.1.0
    not_before same (inl f) = let h = kin_equal e (at, (after + 1, 0)) (ap (λ (y : Kin). by_kin y (at, (after + 1, 0))) (is e) ∙ f.1 e) in omega (arith, h.1)
    not_before same (inr f) =
        let greater : by_kin e (at, (after + 1, 0)) ≡ Greater = ap (λ (y : Kin). by_kin y (at, (after + 1, 0))) (is e) ∙ f.1 place e (omega arith) there in
        elim (kin_not_less e (at, (after + 1, 0)) (ap is_lt greater)) [
          | inl h ↦ absurd (omega (arith, h, same))
          | inr h ↦ h.1
        ]

    in_front : (j : ℕ) (s : Stands j) → AllWithin (λ y. by_kin y (at, (after + 1, 0)) ≡ Less) kin 0 place → s.k < place → (node_at ns j).ordinal ≤ after
    in_front j s all low =
        let one : Kin = (at, ((node_at ns j).ordinal, j)) in
        let less : by_kin one (at, (after + 1, 0)) ≡ Less = ap (λ (y : Kin). by_kin y (at, (after + 1, 0))) (sym s.is) ∙ all s.k one (omega arith) low in
        let h = kin_less at (node_at ns j).ordinal j (after + 1) less in
        omega (arith, h)

    least : e.0 ≡ at → Found kin (at, (after + 1, 0)) place → (j : ℕ) (s : Stands j) → after < (node_at ns j).ordinal → e.1.0 ≤ (node_at ns j).ordinal
    least same (inl f) j s more =
        let h = kin_equal e (at, (after + 1, 0)) (ap (λ (y : Kin). by_kin y (at, (after + 1, 0))) (is e) ∙ f.1 e) in omega (arith, h.1, more)
    least same (inr f) j s more =
        elim (cases_lt s.k place) [
          | inl low ↦ absurd (let h = in_front j s f.0 low in omega (arith, h, more))
          | inr low ↦ least_at same j s low
        ]

    pub child_found : e.0 ≡ at → NextChild ns at after e.1.1
    child_found same =
        let o = own in
        record {
          parent = o.0 ∙ ap (λ k. Some k) same;
          later = let h = not_before same found in omega (arith, h, o.1);
          least = λ j parent more. let h = least same found j (stands j parent) more in omega (arith, h, o.1);
        }

    none_behind : (e.0 ≡ at → ⊥) → Found kin (at, (after + 1, 0)) place → (j : ℕ) (s : Stands j) → (node_at ns j).ordinal ≤ after
    none_behind other (inl f) j s =
        let h = kin_equal e (at, (after + 1, 0)) (ap (λ (y : Kin). by_kin y (at, (after + 1, 0))) (is e) ∙ f.1 e) in absurd (other h.0)
    none_behind other (inr f) j s =
        let greater : by_kin e (at, (after + 1, 0)) ≡ Greater = ap (λ (y : Kin). by_kin y (at, (after + 1, 0))) (is e) ∙ f.1 place e (omega arith) there in
        let above : at < e.0 =
        (elim (kin_not_less e (at, (after + 1, 0)) (ap is_lt greater)) [
          | inl h ↦ h
          | inr h ↦ let low = h.0 in omega (arith, low, other)
        ]) in
        elim (cases_lt s.k place) [
          | inl low ↦ in_front j s f.0 low
          | inr low ↦ absurd (elim (kin_not_less (at, ((node_at ns j).ordinal, j)) e (against j s low)) [
            | inl h ↦ omega (arith, h, above)
            | inr h ↦ let first = h.0 in omega (arith, first, above)
          ])
        ]

    pub other_found : (e.0 ≡ at → ⊥) → NoChild ns at after
    other_found other j parent = none_behind other found j (stands j parent)

  -- behind all
  pub none_found : length kin ≤ place → NoChild ns at after
  none_found past j parent = by found
    where
      by : Found kin (at, (after + 1, 0)) place → (node_at ns j).ordinal ≤ after
      by (inl f) = absurd (let h = f.0 in omega (arith, h, past))
      by (inr f) =
          let s = stands j parent in
          let one : Kin = (at, ((node_at ns j).ordinal, j)) in
          let within = s.within in
          let less : by_kin one (at, (after + 1, 0)) ≡ Less = ap (λ (y : Kin). by_kin y (at, (after + 1, 0))) (sym s.is)
          ∙ f.0 s.k one (omega arith) (omega (arith, within, past)) in
          let h = kin_less at (node_at ns j).ordinal j (after + 1) less in
          omega (arith, h)
