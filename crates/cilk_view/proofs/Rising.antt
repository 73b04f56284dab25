-- Paths that are apart stand in their order each before all behind it, and what comes behind one of them is told by the next.
use Rattle.std.proofs.Common.{◌≡◌, ◌⊎◌, inl, inr, ℕ, zero, suc, ◌+◌, ◌<◌, Bool, true, false, cond, List, [], ◌∷◌, map, length, refl, sym, ap, ◌∙◌, subst, arith}
use Rattle.std.proofs.Common.{if◌then◌else◌}
use Rattle.std.specs.Prelude.{⊤}
use Rattle.std.proofs.lemmas.Bool.{cases_eq}
use Rattle.std.specs.List.{filter, range_with_len}
use Rattle.cilk_machine_agree.specs.model.Path.{Path}
use Rattle.cilk_machine_agree.specs.model.ViewTrees.{is_before, placed, in_order}
use Rattle.cilk_machine_agree.specs.spawn.Nodes.{Node, path_at, IsTree}
use Rattle.cilk_machine_agree.proofs.spawn_laws.Trees.{names}
use Rattle.cilk_view.specs.Following.{all_paths, beyond}
use Rattle.cilk_view.proofs.Orders.{before, before_is, order, one_path, itself}

-- this holds of each
abbrev pub Each : (Path → Type 0) → List Path → Type 0
Each P [] = ⊤
Each P (x ∷ xs) = P x × Each P xs

each_more : (P Q : Path → Type 0) (xs : List Path) → ((x : Path) → P x → Q x) → Each P xs → Each Q xs
each_more P Q [] so all = tt
each_more P Q (x ∷ xs) so all = (so x all.0, each_more P Q xs so all.1)

each_placed_by : (P : Path → Type 0) (p q : Path) (qs ps : List Path) (b : Bool) → P p → Each P (q ∷ qs) → Each P ps → Each P (if b then p ∷ q ∷ qs else q ∷ ps)
each_placed_by P p q qs ps true one all later = (one, all)
each_placed_by P p q qs ps false one all later = (all.0, later)

each_placed : (P : Path → Type 0) (p : Path) (qs : List Path) → P p → Each P qs → Each P (placed p qs)
each_placed P p [] one all = (one, tt)
each_placed P p (q ∷ qs) one all = each_placed_by P p q qs (placed p qs) (is_before p q) one all (each_placed P p qs one all.1)

pub each_in_order : (P : Path → Type 0) (ps : List Path) → Each P ps → Each P (in_order ps)
each_in_order P [] all = tt
each_in_order P (p ∷ ps) all = each_placed P p (in_order ps) all.0 (each_in_order P ps all.1)

-- ---- the order

-- a fact of two tests that cannot be otherwise
by_test : (b : Bool) → (b ≡ false → ⊥) → b ≡ true
by_test true h = refl
by_test false h = absurd (h refl)

never : (b : Bool) → b ≡ true → b ≡ false → ⊥
never true e f = cc
never false e f = cc

later_by : (p q r : Path) → before p q ≡ true → before q r ≡ true → before p r ≡ true
later_by p q r first second =
    by_test (before p r) (λ none. never (before p q) first (order.chain p r q none (order.one_way q r second)))

-- what is before another is before all behind that
pub later : (p q r : Path) → is_before p q ≡ true → is_before q r ≡ true → is_before p r ≡ true
later p q r first second = before_is p r ∙ later_by p q r (sym (before_is p q) ∙ first) (sym (before_is q r) ∙ second)

pub not_itself : (p : Path) → is_before p p ≡ false
not_itself p = before_is p p ∙ itself p

not_back : (p q : Path) → is_before p q ≡ true → is_before q p ≡ false
not_back p q e = before_is q p ∙ order.one_way p q (sym (before_is p q) ∙ e)

-- one of two paths that are apart is before the other
other_way : (p q : Path) → (p ≡ q → ⊥) → is_before p q ≡ false → is_before q p ≡ true
other_way p q apart none =
    by_test (is_before q p) (λ (back : is_before q p ≡ false). apart (one_path p q (sym (before_is p q) ∙ none) (sym (before_is q p) ∙ back)))

-- ---- a list whose paths rise

abbrev pub Rising : List Path → Type 0
Rising [] = ⊤
Rising (x ∷ xs) = Each (λ y. is_before x y ≡ true) xs × Rising xs

abbrev pub Apart : List Path → Type 0
Apart [] = ⊤
Apart (x ∷ xs) = Each (λ y. x ≡ y → ⊥) xs × Apart xs

rising_placed_at : (p q : Path) (qs ps : List Path) (b : Bool) → is_before p q ≡ b → (p ≡ q → ⊥) → Rising (q ∷ qs)
    → Each (λ y. is_before q y ≡ true) ps ⊎ (is_before q p ≡ false) → Rising ps → Rising (if b then p ∷ q ∷ qs else q ∷ ps)
rising_placed_at p q qs ps true e apart up all later_up =
    ((e, each_more (λ y. is_before q y ≡ true) (λ y. is_before p y ≡ true) qs (λ y. later p q y e) up.0), up)
rising_placed_at p q qs ps false e apart up (inl all) later_up = (all, later_up)
rising_placed_at p q qs ps false e apart up (inr none) later_up = absurd (never (is_before q p) (other_way p q apart e) none)

rising_rest : (p q : Path) (qs : List Path) (b : Bool) → is_before q p ≡ b → Each (λ y. is_before q y ≡ true) qs
    → Each (λ y. is_before q y ≡ true) (placed p qs) ⊎ (is_before q p ≡ false)
rising_rest p q qs true e all = inl (each_placed (λ y. is_before q y ≡ true) p qs e all)
rising_rest p q qs false e all = inr e

rising_placed : (p : Path) (qs : List Path) → Each (λ y. p ≡ y → ⊥) qs → Rising qs → Rising (placed p qs)
rising_placed p [] apart up = (tt, tt)
rising_placed p (q ∷ qs) apart up =
    rising_placed_at p q qs (placed p qs) (is_before p q) refl apart.0 up (rising_rest p q qs (is_before q p) refl up.0) (rising_placed p qs apart.1 up.1)

pub rising_in_order : (ps : List Path) → Apart ps → Rising (in_order ps)
rising_in_order [] apart = tt
rising_in_order (p ∷ ps) apart =
    rising_placed p (in_order ps) (each_in_order (λ y. p ≡ y → ⊥) ps apart.0) (rising_in_order ps apart.1)

-- ---- all instances ever made

each_made : (ns : List Node) (P : Path → Type 0) (a n : ℕ) → ((j : ℕ) → a + n ≡ length ns → j < length ns → a < suc j → P (path_at ns j)) → a + n ≡ length ns
    → Each P (map (path_at ns) (range_with_len a n))
each_made ns P a zero holds all = tt
each_made ns P a (suc n) holds all = (
  holds a all (omega (arith, all)) (omega arith),
  each_made ns P (a + 1) n (λ j _ there behind. holds j all there (omega (arith, behind))) (omega (arith, all)),
)

apart_made : (ns : List Node) → IsTree ns → (a n : ℕ) → a + n ≡ length ns → Apart (map (path_at ns) (range_with_len a n))
apart_made ns t a zero all = tt
apart_made ns t a (suc n) all = (
  each_made ns (λ y. path_at ns a ≡ y → ⊥) (a + 1) n
      (λ j _ there behind same. let one : a ≡ j = names ns t a j (omega (arith, all)) there same in omega (arith, one, behind)) (omega (arith, all)),
  apart_made ns t (a + 1) n (omega (arith, all)),
)

pub rising_all : (ns : List Node) → IsTree ns → Rising (all_paths ns)
rising_all ns t = rising_in_order (map (path_at ns) (range_with_len 0 (length ns))) (apart_made ns t 0 (length ns) (omega arith))

-- what holds of the path of each instance holds of each path
pub each_all : (ns : List Node) (P : Path → Type 0) → ((j : ℕ) → j < length ns → P (path_at ns j)) → Each P (all_paths ns)
each_all ns P holds =
    each_in_order P (map (path_at ns) (range_with_len 0 (length ns))) (each_made ns P 0 (length ns) (λ j _ there _. holds j there) (omega arith))

-- ---- what comes behind

filter_same_by : (b c : Bool) (x : Path) (xs ys : List Path) → b ≡ c → xs ≡ ys → cond b (x ∷ xs) xs ≡ cond c (x ∷ ys) ys
filter_same_by b c x xs ys e f = (λ i. cond (e i) (x ∷ f i) (f i))

filter_same : (b c : Path → Bool) (xs : List Path) → Each (λ x. b x ≡ c x) xs → filter b xs ≡ filter c xs
filter_same b c [] same = refl
filter_same b c (x ∷ xs) same = filter_same_by (b x) (c x) x (filter b xs) (filter c xs) same.0 (filter_same b c xs same.1)

pub filter_none : (b : Path → Bool) (xs : List Path) → Each (λ x. b x ≡ false) xs → filter b xs ≡ []
filter_none b [] none = refl
filter_none b (x ∷ xs) none = ap (λ c. cond c (x ∷ filter b xs) (filter b xs)) none.0 ∙ filter_none b xs none.1

filter_all : (xs : List Path) → filter (λ _. true) xs ≡ xs
filter_all [] = refl
filter_all (x ∷ xs) = ap (λ ys. x ∷ ys) (filter_all xs)

-- q is among these
abbrev pub Among : Path → List Path → Type 0
Among q [] = ⊥
Among q (x ∷ xs) = (x ≡ q) ⊎ Among q xs

-- q is the first of those that pass b
pub record IsFirst (b : Path → Bool) (q : Path) (paths : List Path) : Type 0 where
  pub passes : b q ≡ true
  pub next : Each (λ r. b r ≡ true → (r ≡ q) ⊎ (is_before q r ≡ true)) paths
  pub goes_on : (r : Path) → is_before q r ≡ true → b r ≡ true

module _ (b : Path → Bool) (q : Path) where
  -- behind q both tests say the same
  agree : (xs : List Path) → Each (λ y. is_before q y ≡ true) xs → ((r : Path) → is_before q r ≡ true → b r ≡ true) → Each (λ r. b r ≡ is_before q r) xs
  agree xs up goes_on = each_more (λ y. is_before q y ≡ true) (λ r. b r ≡ is_before q r) xs (λ r there. goes_on r there ∙ sym there) up

  first_by : (x : Path) (xs : List Path) (c : Bool) → b x ≡ c → Rising (x ∷ xs) → IsFirst b q (x ∷ xs) → (x ≡ q) ⊎ Among q xs
      → (Among q xs → filter b xs ≡ q ∷ beyond q xs) → cond c (x ∷ filter b xs) (filter b xs) ≡ q ∷ cond (is_before q x) (x ∷ beyond q xs) (beyond q xs)
  first_by x xs c e up first (inl same) rest =
      let passes : c ≡ true = sym e ∙ ap b same ∙ first.passes in
      let behind_q : Each (λ y. is_before q y ≡ true) xs = subst (λ z. Each (λ y. is_before z y ≡ true) xs) same up.0 in
      ap (λ d. cond d (x ∷ filter b xs) (filter b xs)) passes
      ∙ (λ i. same i ∷ filter_same b (is_before q) xs (agree xs behind_q first.goes_on) i)
      ∙ sym (ap (λ d. q ∷ cond d (x ∷ beyond q xs) (beyond q xs)) (ap (is_before q) same ∙ not_itself q))
  first_by x xs true e up first (inr among) rest = absurd (at (first.next.0 e))
    where
      above : (ys : List Path) → Each (λ y. is_before x y ≡ true) ys → Among q ys → is_before x q ≡ true
      above [] all a = absurd a
      above (y ∷ ys) all (inl is) = ap (is_before x) (sym is) ∙ all.0
      above (y ∷ ys) all (inr a) = above ys all.1 a

      at : (x ≡ q) ⊎ (is_before q x ≡ true) → ⊥
      at (inl is) = never (is_before x q) (above xs up.0 among) (ap (is_before x) (sym is) ∙ not_itself x)
      at (inr back) = never (is_before x q) (above xs up.0 among) (not_back q x back)
  first_by x xs false e up first (inr among) rest =
      rest among ∙ sym (ap (λ d. q ∷ cond d (x ∷ beyond q xs) (beyond q xs)) (no (is_before q x) refl))
    where
      no : (d : Bool) → is_before q x ≡ d → is_before q x ≡ false
      no true f = absurd (never (b x) (first.goes_on x f) e)
      no false f = f

  pub first_is : (xs : List Path) → Rising xs → IsFirst b q xs → Among q xs → filter b xs ≡ q ∷ beyond q xs
  first_is [] up first among = absurd among
  first_is (x ∷ xs) up first among =
      first_by x xs (b x) refl up first among
      (λ a. first_is xs up.1 (record { passes = first.passes; next = first.next.1; goes_on = first.goes_on }) a)

-- all of them, from the first one on
pub all_is : (q : Path) (xs : List Path) → Rising xs → Each (λ r. (r ≡ q) ⊎ (is_before q r ≡ true)) xs → Among q xs → xs ≡ q ∷ beyond q xs
all_is q xs up next among =
    sym (filter_all xs)
    ∙ first_is (λ _. true) q xs up
    (record {
      passes = refl;
      next = each_more (λ r. (r ≡ q) ⊎ (is_before q r ≡ true)) (λ r. true ≡ true → (r ≡ q) ⊎ (is_before q r ≡ true)) xs (λ r h _. h) next;
      goes_on = λ r _. refl;
    }) among

-- the path of an instance is among them
among_placed_by : (q p r : Path) (rs ps : List Path) (b : Bool) → Among q (p ∷ r ∷ rs) → (Among q (p ∷ rs) → Among q ps)
    → Among q (if b then p ∷ r ∷ rs else r ∷ ps)
among_placed_by q p r rs ps true a later = a
among_placed_by q p r rs ps false (inl is) later = inr (later (inl is))
among_placed_by q p r rs ps false (inr (inl is)) later = inl is
among_placed_by q p r rs ps false (inr (inr a)) later = inr (later (inr a))

among_placed : (q p : Path) (rs : List Path) → Among q (p ∷ rs) → Among q (placed p rs)
among_placed q p [] a = a
among_placed q p (r ∷ rs) a = among_placed_by q p r rs (placed p rs) (is_before p r) a (among_placed q p rs)

among_in_order : (q : Path) (ps : List Path) → Among q ps → Among q (in_order ps)
among_in_order q [] a = a
among_in_order q (p ∷ ps) (inl is) = among_placed q p (in_order ps) (inl is)
among_in_order q (p ∷ ps) (inr a) = among_placed q p (in_order ps) (inr (among_in_order q ps a))

among_first : (ns : List Node) (i a n : ℕ) → (a ≡ i) ⊎ (a ≡ i → ⊥) → ((a ≡ i → ⊥) → Among (path_at ns i) (map (path_at ns) (range_with_len (a + 1) n)))
    → Among (path_at ns i) (map (path_at ns) (range_with_len a (suc n)))
among_first ns i a n (inl is) later = inl (ap (path_at ns) is)
among_first ns i a n (inr other) later = inr (later other)

among_made : (ns : List Node) (i a n : ℕ) → i < a + n → a < suc i → Among (path_at ns i) (map (path_at ns) (range_with_len a n))
among_made ns i a zero below from = absurd (omega (arith, below, from))
among_made ns i a (suc n) below from =
    among_first ns i a n (cases_eq a i) (λ other. among_made ns i (a + 1) n (omega (arith, below)) (omega (arith, from, other)))

pub among_all : (ns : List Node) (i : ℕ) → i < length ns → Among (path_at ns i) (all_paths ns)
among_all ns i there =
    among_in_order (path_at ns i) (map (path_at ns) (range_with_len 0 (length ns))) (among_made ns i 0 (length ns) (omega (arith, there)) (omega arith))
