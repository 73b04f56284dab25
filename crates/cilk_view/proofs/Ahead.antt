-- Which path comes next, as the walk from one instance to the next finds it: down to the first child, or else up until there is a later one.
use Rattle.std.proofs.Common.{◌≡◌, ◌⊎◌, inl, inr, ℕ, ◌<◌, ◌≤◌, Bool, true, false, ◌&&◌, ◌||◌, ◌==◌, List, [], ◌∷◌, ◌++◌, length, Some, None}
use Rattle.std.proofs.Common.{refl, sym, ap, ◌∙◌, subst, arith, lt-ltb, le-ltb, eq-eqb, ne_eqb}
use Rattle.std.specs.Prelude.{nat_lt}
use Rattle.std.proofs.lemmas.Bool.{cases_eq}
use Rattle.cilk_machine_agree.specs.model.Path.{Path}
use Rattle.cilk_machine_agree.specs.model.ViewTrees.{is_before}
use Rattle.cilk_machine_agree.specs.spawn.Nodes.{Node, node_at, path_at, IsTree}
use Rattle.cilk_machine_agree.proofs.spawn_laws.Trees.{path_root, path_child, child_there}
use Rattle.cilk_machine_agree.proofs.spawn_laws.Children.{parent_in}
use Rattle.cilk_machine_agree.proofs.spawn_laws.Finds.{step_down}
use Rattle.cilk_view.specs.Kin.{NextChild, NoChild}
use Rattle.cilk_view.specs.Following.{all_paths, beyond, from_here}
use Rattle.cilk_view.proofs.Rising.{later, rising_all, each_all, among_all, filter_none, first_is, all_is}
use Rattle.cilk_view.proofs.Kins.{less_is}

-- r goes on from a with a number greater than k, or parts from a with a greater one
abbrev pub onward : Path → ℕ → Path → Bool
onward [] k [] = false
onward [] k (l ∷ r) = nat_lt k l
onward (m ∷ a) k [] = false
onward (m ∷ a) k (l ∷ r) = nat_lt m l || (m == l && onward a k r)

-- each number with which r goes on from a
abbrev pub GoesOn : Path → Path → (ℕ → Type 0) → Type 0
GoesOn a r P = (l : ℕ) (t : Path) → r ≡ a ++ l ∷ t → P l

goes_on_more : (m l : ℕ) (a r : Path) (P : ℕ → Type 0) → m ≡ l → GoesOn (m ∷ a) (l ∷ r) P → GoesOn a r P
goes_on_more m l a r P same all n t is = all n t (λ i. sym same i ∷ is i)

by_same : (m l : ℕ) (b x y : Bool) → (m ≡ l → x ≡ y) → (b || (m == l && x)) ≡ (b || (m == l && y))
by_same m l b x y h =
    elim (cases_eq m l) [
      | inl e ↦ ap (λ z. b || (m == l && z)) (h e)
      | inr ne ↦ ap (λ z. b || (z && x)) (ne_eqb m l ne) ∙ sym (ap (λ z. b || (z && y)) (ne_eqb m l ne))
    ]

-- at the start, where numbers count from 1
pub starts : (p r : Path) → GoesOn p r (λ l. 0 < l) → is_before p r ≡ onward p 0 r
starts [] [] all = refl
starts [] (l ∷ r) all = sym (lt-ltb 0 l (all l r refl))
starts (k ∷ p) [] all = refl
starts (k ∷ p) (l ∷ r) all = by_same k l (nat_lt k l) (is_before p r) (onward p 0 r) (λ e. starts p r (goes_on_more k l p r (λ n. 0 < n) e all))

none_behind : (k j l : ℕ) (r : Path) → GoesOn (k ∷ []) (l ∷ r) (λ n. n ≤ j) → k ≡ l → onward [] j r ≡ false
none_behind k j l [] all same = refl
none_behind k j l (m ∷ t) all same = le-ltb j m (all m t (λ i. sym same i ∷ m ∷ t))

-- from an instance without a later child up to its parent
pub climbs : (u : Path) (k j : ℕ) (r : Path) → GoesOn (u ++ k ∷ []) r (λ l. l ≤ j) → onward (u ++ k ∷ []) j r ≡ onward u k r
climbs [] k j [] all = refl
climbs [] k j (l ∷ r) all =
    by_same k l (nat_lt k l) (onward [] j r) false (none_behind k j l r all) ∙ or_nothing (nat_lt k l) (k == l)
  where
    or_nothing : (b c : Bool) → (b || (c && false)) ≡ b
    or_nothing true c = refl
    or_nothing false true = refl
    or_nothing false false = refl
climbs (m ∷ u) k j [] all = refl
climbs (m ∷ u) k j (l ∷ r) all =
    by_same m l (nat_lt m l) (onward (u ++ k ∷ []) j r) (onward u k r) (λ e. climbs u k j r (goes_on_more m l (u ++ k ∷ []) r (λ n. n ≤ j) e all))

own_first : (m : ℕ) (b : Bool) → (nat_lt m m || (m == m && b)) ≡ b
own_first m b = ap (λ z. z || (m == m && b)) (le-ltb m m (omega arith)) ∙ ap (λ z. z && b) (eq-eqb m m refl)

-- a child is ahead where its ordinal is greater
pub child_ahead : (a : Path) (k c : ℕ) → onward a k (a ++ c ∷ []) ≡ nat_lt k c
child_ahead [] k c = refl
child_ahead (m ∷ a) k c = own_first m (onward a k (a ++ c ∷ [])) ∙ child_ahead a k c

either_true : (b c d : Bool) → (b || (c && d)) ≡ true → (b ≡ true) ⊎ ((c ≡ true) × (d ≡ true))
either_true true c d e = inl refl
either_true false true d e = inr (refl, e)
either_true false false d e = cc

first_less : (m l : ℕ) (b : Bool) → nat_lt m l ≡ true → (nat_lt m l || (m == l && b)) ≡ true
first_less m l b e = ap (λ z. z || (m == l && b)) e

same_from_test : (k l : ℕ) → (k == l) ≡ true → k ≡ l
same_from_test k l e =
    elim (cases_eq k l) [
      | inl h ↦ h
      | inr h ↦ absurd (let no : (k == l) ≡ false = ne_eqb k l h in cc)
    ]

-- the first number behind k decides
one_step : (c l : ℕ) (r : Path) → c ≤ l → (l ∷ r ≡ c ∷ []) ⊎ (is_before (c ∷ []) (l ∷ r) ≡ true)
one_step c l r low = by_order (cases_eq c l) r
  where
    by_order : (c ≡ l) ⊎ (c ≡ l → ⊥) → (r : Path) → (l ∷ r ≡ c ∷ []) ⊎ (is_before (c ∷ []) (l ∷ r) ≡ true)
    by_order (inl same) [] = inl (λ i. sym same i ∷ [])
    by_order (inl same) (m ∷ t) = inr (subst (λ z. is_before (c ∷ []) (z ∷ m ∷ t) ≡ true) same (own_first c true))
    by_order (inr other) r = inr (first_less c l (is_before [] r) (lt-ltb c l (omega (arith, low, other))))

-- what is ahead is the first child behind k, or behind that
pub least_ahead : (a : Path) (k c : ℕ) (r : Path) → GoesOn a r (λ l. k < l → c ≤ l) → onward a k r ≡ true
    → (r ≡ a ++ c ∷ []) ⊎ (is_before (a ++ c ∷ []) r ≡ true)
least_ahead [] k c [] all e = cc
least_ahead [] k c (l ∷ r) all e = one_step c l r (all l r refl (less_is k l e))
least_ahead (m ∷ a) k c [] all e = cc
least_ahead (m ∷ a) k c (l ∷ r) all e =
    elim (either_true (nat_lt m l) (m == l) (onward a k r) e) [
      | inl less ↦ inr (first_less m l (is_before (a ++ c ∷ []) r) less)
      | inr both ↦ let same = same_from_test m l both.0 in
          elim (least_ahead a k c r (goes_on_more m l a r (λ n. k < n → c ≤ n) same all) both.1) [
            | inl is ↦ inl (λ i. sym same i ∷ is i)
            | inr back ↦ inr (subst (λ z. is_before (m ∷ a ++ c ∷ []) (z ∷ r) ≡ true) same (own_first m (is_before (a ++ c ∷ []) r) ∙ back))
          ]
    ]

-- ---- the walk

-- what is behind the path of an instance is ahead of where the walk from it is
abbrev pub Walks : List Node → ℕ → ℕ → ℕ → Type 0
Walks ns id at after = (j : ℕ) → j < length ns → is_before (path_at ns id) (path_at ns j) ≡ onward (path_at ns at) after (path_at ns j)

module _ (ns : List Node) (t : IsTree ns) where
  -- where a path goes on from that of an instance, there is a child
  goes_on_child : (i j : ℕ) (P : ℕ → Type 0) → i < length ns → j < length ns → ((c : ℕ) → (node_at ns c).parent ≡ Some i → P (node_at ns c).ordinal)
      → GoesOn (path_at ns i) (path_at ns j) P
  goes_on_child i j P there also holds l rest is =
      let d = step_down ns t i l there (λ k. k < length ns) (λ k p e _. parent_in ns k p t e) j rest also is in
      subst P d.ordinal (holds d.child d.parent)

  pub walk_starts : (id : ℕ) → id < length ns → Walks ns id id 0
  walk_starts id there j also =
      starts (path_at ns id) (path_at ns j) (goes_on_child id j (λ l. 0 < l) there also (λ c e. let low = (t.numbered c id e).0 in omega (arith, low)))

  pub walk_climbs : (id at after p : ℕ) → at < length ns → (node_at ns at).parent ≡ Some p → NoChild ns at after → Walks ns id at after
      → Walks ns id p (node_at ns at).ordinal
  walk_climbs id at after p there e none walks j also =
      let is = path_child ns t at p e in
      walks j also ∙ ap (λ q. onward q after (path_at ns j)) is
      ∙ climbs (path_at ns p) (node_at ns at).ordinal after (path_at ns j)
      (subst (λ (q : Path). GoesOn q (path_at ns j) (λ l. l ≤ after)) is (goes_on_child at j (λ l. l ≤ after) there also none))

  module _ (id : ℕ) (here : id < length ns) (at after : ℕ) (there : at < length ns) (walks : Walks ns id at after) where
    pub walk_finds : (c : ℕ) → NextChild ns at after c → from_here ns (Some c) ≡ beyond (path_at ns id) (all_paths ns)
    walk_finds c next =
        let inside = child_there ns c at next.parent in
        let is = path_child ns t c at next.parent in
        let o = (node_at ns c).ordinal in
        sym (first_is (is_before (path_at ns id)) (path_at ns c) (all_paths ns) (rising_all ns t)
        (record {
          passes = walks c inside ∙ ap (onward (path_at ns at) after) is ∙ child_ahead (path_at ns at) after o ∙ lt-ltb after o next.later;
          next = each_all ns (λ r. is_before (path_at ns id) r ≡ true → (r ≡ path_at ns c) ⊎ (is_before (path_at ns c) r ≡ true))
              (λ j also e. subst (λ (q : Path). (path_at ns j ≡ q) ⊎ (is_before q (path_at ns j) ≡ true)) (sym is)
              (least_ahead (path_at ns at) after o (path_at ns j)
              (goes_on_child at j (λ l. after < l → o ≤ l) there also (λ k parent. next.least k parent)) (sym (walks j also) ∙ e)));
          goes_on = λ r e. later (path_at ns id) (path_at ns c) r
              (walks c inside ∙ ap (onward (path_at ns at) after) is ∙ child_ahead (path_at ns at) after o ∙ lt-ltb after o next.later) e;
        })
        (among_all ns c inside))

    -- at the root, and no later child
    pub walk_ends : (node_at ns at).parent ≡ None → NoChild ns at after → [] ≡ beyond (path_at ns id) (all_paths ns)
    walk_ends e none =
        sym (filter_none (is_before (path_at ns id)) (all_paths ns)
        (each_all ns (λ r. is_before (path_at ns id) r ≡ false)
        (λ j also. walks j also ∙ ap (λ q. onward q after (path_at ns j)) (path_root ns at e)
        ∙ over (path_at ns j) (subst (λ (q : Path). GoesOn q (path_at ns j) (λ l. l ≤ after)) (path_root ns at e)
        (goes_on_child at j (λ l. l ≤ after) there also none)))))
      where
        over : (r : Path) → GoesOn [] r (λ l. l ≤ after) → onward [] after r ≡ false
        over [] all = refl
        over (l ∷ r) all = le-ltb after l (all l r refl)

  at_root : (r : Path) → (r ≡ []) ⊎ (is_before [] r ≡ true)
  at_root [] = inl refl
  at_root (l ∷ r) = inr refl

  -- from the root on stand all
  pub from_root : (i : ℕ) → i < length ns → (node_at ns i).parent ≡ None → from_here ns (Some i) ≡ all_paths ns
  from_root i there e =
      sym (all_is (path_at ns i) (all_paths ns) (rising_all ns t)
      (each_all ns (λ r. (r ≡ path_at ns i) ⊎ (is_before (path_at ns i) r ≡ true))
      (λ j _. subst (λ (q : Path). (path_at ns j ≡ q) ⊎ (is_before q (path_at ns j) ≡ true)) (sym (path_root ns i e)) (at_root (path_at ns j))))
      (among_all ns i there))
