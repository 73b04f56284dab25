-- Two elements of a list exchanged: what stands where then, and that another element may be changed before or after.
use Rattle.std.proofs.Common.{◌≡◌, ◌≢◌, ◌<◌, ◌⊎◌, inl, inr, ℕ, suc, ◌-◌, Bool, true, false, ◌==◌, List, [], ◌∷◌, length, refl, sym, ap, subst, ◌∙◌}
use Rattle.std.proofs.Common.{if◌then◌else◌, arith, slice_index_or, slice_set, swap, get_or-set_same, get_or-set_other, length-set, ext_get_or}
use Rattle.std.proofs.lemmas.Bool.{cases_eq, eqb-true, eqb-false}
use Rattle.std.proofs.lemmas.List.{get_or_default}
use Rattle.cilk_machine_agree.specs.explore.Names.{exchanged}

pub one_less : (k : ℕ) → suc k - 1 ≡ k
one_less k = omega arith

-- where it stands then is one of these
pub data ThenAt (i j k : ℕ) : ℕ → Type 0 where
  first : k ≡ i → ThenAt i j k j
  second : k ≢ i → k ≡ j → ThenAt i j k i
  neither : k ≢ i → k ≢ j → ThenAt i j k k

place_by : (i j k : ℕ) (a b : Bool) → (k == i) ≡ a → (k == j) ≡ b → ThenAt i j k (if a then j else (if b then i else k))
place_by i j k true b e f = first (eqb-true k i e)
place_by i j k false true e f = second (eqb-false k i e) (eqb-true k j f)
place_by i j k false false e f = neither (eqb-false k i e) (eqb-false k j f)

pub place_now : (i j k : ℕ) → ThenAt i j k (exchanged (i, j) k)
place_now i j k = place_by i j k (k == i) (k == j) refl refl

in_range : (n i j k r : ℕ) → ThenAt i j k r → i < n → j < n → k < n → r < n
in_range n i j k r (first e) p q h = q
in_range n i j k r (second ne e) p q h = p
in_range n i j k r (neither a b) p q h = h

pub exchanged_within : (n i j k : ℕ) → i < n → j < n → k < n → exchanged (i, j) k < n
exchanged_within n i j k p q h = in_range n i j k (exchanged (i, j) k) (place_now i j k) p q h

twice_by : (i j k r t : ℕ) → ThenAt i j k r → ThenAt i j r t → t ≡ k
twice_by i j k r t (first e) (first f) = f ∙ sym e
twice_by i j k r t (first e) (second ne f) = sym e
twice_by i j k r t (first e) (neither a b) = absurd (b refl)
twice_by i j k r t (second ne e) (first f) = sym e
twice_by i j k r t (second ne e) (second nf f) = absurd (nf refl)
twice_by i j k r t (second ne e) (neither a b) = absurd (a refl)
twice_by i j k r t (neither a b) (first f) = absurd (a f)
twice_by i j k r t (neither a b) (second nf f) = absurd (b f)
twice_by i j k r t (neither a b) (neither c d) = refl

-- exchanged twice it is where it was
pub exchanged_twice : (i j k : ℕ) → exchanged (i, j) (exchanged (i, j) k) ≡ k
exchanged_twice i j k = twice_by i j k _ _ (place_now i j k) (place_now i j (exchanged (i, j) k))

module _ {X : Type 0} where
  pub swap_reads : (xs : List X) (i j : ℕ) (d : X) → i < length xs → j < length xs
      → swap xs i j ≡ slice_set (slice_set xs i (slice_index_or xs j d)) j (slice_index_or xs i d)
  swap_reads [] i j d p q = absurd (omega (arith, p))
  swap_reads (x ∷ xs) i j d p q =
      ap (λ y. slice_set (slice_set (x ∷ xs) i y) j (slice_index_or (x ∷ xs) i x)) (get_or_default (x ∷ xs) j x d q)
      ∙ ap (λ y. slice_set (slice_set (x ∷ xs) i (slice_index_or (x ∷ xs) j d)) j y) (get_or_default (x ∷ xs) i x d p)

  pub swap_long : (xs : List X) (i j : ℕ) → length (swap xs i j) ≡ length xs
  swap_long [] i j = refl
  swap_long (x ∷ xs) i j = length-set _ j _ ∙ length-set (x ∷ xs) i _

  same_there : (xs : List X) (i j : ℕ) (d : X) → j < length xs
      → slice_index_or (slice_set (slice_set xs i (slice_index_or xs j d)) j (slice_index_or xs i d)) j d ≡ slice_index_or xs i d
  same_there xs i j d q =
      get_or-set_same (slice_set xs i (slice_index_or xs j d)) j (slice_index_or xs i d) d
      (subst (λ m. j < m) (sym (length-set xs i (slice_index_or xs j d))) q)

  there_by : (xs : List X) (i j k r : ℕ) (d : X) → i < length xs → j < length xs → ThenAt i j k r
      → slice_index_or (slice_set (slice_set xs i (slice_index_or xs j d)) j (slice_index_or xs i d)) k d ≡ slice_index_or xs r d
  there_by xs i j k r d p q (first e) = elim (cases_eq k j) [
    | inl f ↦
        ap (λ m. slice_index_or (slice_set (slice_set xs i (slice_index_or xs j d)) j (slice_index_or xs i d)) m d) f
        ∙ same_there xs i j d q
        ∙ ap (λ m. slice_index_or xs m d) (sym e ∙ f)
    | inr ne ↦
        get_or-set_other (slice_set xs i (slice_index_or xs j d)) j k (slice_index_or xs i d) d ne
        ∙ ap (λ m. slice_index_or (slice_set xs i (slice_index_or xs j d)) m d) e
        ∙ get_or-set_same xs i (slice_index_or xs j d) d p
  ]
  there_by xs i j k r d p q (second ne e) =
      ap (λ m. slice_index_or (slice_set (slice_set xs i (slice_index_or xs j d)) j (slice_index_or xs i d)) m d) e
      ∙ same_there xs i j d q
  there_by xs i j k r d p q (neither a b) =
      get_or-set_other (slice_set xs i (slice_index_or xs j d)) j k (slice_index_or xs i d) d b ∙ get_or-set_other xs i k (slice_index_or xs j d) d a

  pub swap_there : (xs : List X) (i j k : ℕ) (d : X) → i < length xs → j < length xs
      → slice_index_or (swap xs i j) k d ≡ slice_index_or xs (exchanged (i, j) k) d
  swap_there xs i j k d p q = ap (λ ys. slice_index_or ys k d) (swap_reads xs i j d p q) ∙ there_by xs i j k _ d p q (place_now i j k)

  module _ (xs : List X) (i j k : ℕ) (y : X) (p : i < length xs) (q : j < length xs) (h : k < length xs) where
    set_there : (m : ℕ) → (m ≡ exchanged (i, j) k) ⊎ (m ≢ exchanged (i, j) k)
        → slice_index_or (slice_set xs k y) (exchanged (i, j) m) y ≡ slice_index_or (slice_set (swap xs i j) (exchanged (i, j) k) y) m y
    set_there m (inl e) =
        let back : exchanged (i, j) m ≡ k = ap (λ l. exchanged (i, j) l) e ∙ exchanged_twice i j k in
        let within = exchanged_within (length xs) i j k p q h in
        let long = swap_long xs i j in
        ap (λ l. slice_index_or (slice_set xs k y) l y) back ∙ get_or-set_same xs k y y h
        ∙ sym (get_or-set_same (swap xs i j) (exchanged (i, j) k) y y (omega arith))
        ∙ ap (λ l. slice_index_or (slice_set (swap xs i j) (exchanged (i, j) k) y) l y) (sym e)
    set_there m (inr ne) =
        let other : exchanged (i, j) m ≢ k = λ e. ne (sym (exchanged_twice i j m) ∙ ap (λ l. exchanged (i, j) l) e) in
        get_or-set_other xs k (exchanged (i, j) m) y y other ∙ sym (swap_there xs i j m y p q)
        ∙ sym (get_or-set_other (swap xs i j) (exchanged (i, j) k) m y y ne)

    -- an element is changed, and then two are exchanged; or the other way round
    pub swap_set : swap (slice_set xs k y) i j ≡ slice_set (swap xs i j) (exchanged (i, j) k) y
    swap_set =
        let size = length-set xs k y in
        ext_get_or y (swap (slice_set xs k y) i j) (slice_set (swap xs i j) (exchanged (i, j) k) y)
        (swap_long (slice_set xs k y) i j ∙ size ∙ sym (length-set (swap xs i j) (exchanged (i, j) k) y ∙ swap_long xs i j))
        (λ m lt. swap_there (slice_set xs k y) i j m y (omega arith) (omega arith) ∙ set_there m (cases_eq m (exchanged (i, j) k)))
