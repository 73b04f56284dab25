-- Marks by links, while more logs are marked.
use Rattle.std.proofs.Common.{◌≡◌, ◌<◌, ◌≤◌, ◌+◌, inl, inr, ℕ, zero, suc, Bool, true, false, List, [], ◌∷◌, length, Some}
use Rattle.std.proofs.Common.{refl, sym, ap, ◌∙◌, subst, arith}
use Rattle.std.proofs.Common.{slice_get, get_or, set, get_or-set_other}
use Rattle.std.proofs.lemmas.Bool.{cases_eq, cases_lt}
use Rattle.std.proofs.lemmas.Option.{slice_get_within}
use Rattle.cilk_explore.specs.Marking.{Reaches, at_once, along, mark_of, MayBeMarked, Stays, StaysAt, AreSound, AreWholeFrom, unmarked}

-- one mark more
pub unmarked-set : (marks : List Bool) (k : ℕ) → mark_of marks k ≡ false → k < length marks → unmarked (set marks k true) < unmarked marks
unmarked-set [] k none lt = absurd (omega (arith, lt))
unmarked-set (true ∷ marks) zero none lt = cc
unmarked-set (false ∷ marks) zero none lt = omega arith
unmarked-set (true ∷ marks) (suc k) none lt = unmarked-set marks k none (omega (arith, lt))
unmarked-set (false ∷ marks) (suc k) none lt = let less = unmarked-set marks k none (omega (arith, lt)) in omega (arith, less)

pub sound-set : (links : List (List ℕ)) (marks : List Bool) (k : ℕ) (own : List ℕ) → AreSound links marks → slice_get links k ≡ Some own
    → MayBeMarked own marks → AreSound links (set marks k true)
sound-set links marks k own sound there may j marked = elim (cases_eq j k) [
  | inl same ↦ subst (Reaches links) (sym same) (elim may [
    | inl none ↦ at_once k (there ∙ ap Some none)
    | inr one ↦ along k one.0 one.1 own there one.2 (sound one.1 one.3)
  ])
  | inr other ↦ sound j (sym (get_or-set_other marks k j true false other) ∙ marked)
]

-- one number more from which on all stay
pub whole-more : (links : List (List ℕ)) (marks : List Bool) (k next : ℕ) → next ≡ k + 1 → AreWholeFrom next links marks → StaysAt k links marks
    → AreWholeFrom k links marks
whole-more links marks k next is whole stays j le = elim (cases_lt k j) [
  | inl lt ↦ whole j (omega arith)
  | inr ge ↦ let same : k ≡ j = omega arith in subst (λ (i : ℕ). StaysAt i links marks) same stays
]

-- none behind the last
pub whole-none : (links : List (List ℕ)) (marks : List Bool) (from : ℕ) → length links ≤ from → AreWholeFrom from links marks
whole-none links marks from far k le none own there = let inside = slice_get_within links k own there in absurd (omega arith)

-- a link that is read
pub link-read : (own : List ℕ) (i : ℕ) → i < length own → slice_get own i ≡ Some (get_or own i 0)
link-read [] i lt = absurd (omega (arith, lt))
link-read (x ∷ own) zero lt = refl
link-read (x ∷ own) (suc i) lt = link-read own i (omega (arith, lt))

pub none-more : (own : List ℕ) (marks : List Bool) (i : ℕ) → i < length own → mark_of marks (get_or own i 0) ≡ false
    → ((place to : ℕ) → place < i → slice_get own place ≡ Some to → mark_of marks to ≡ false)
    → (place to : ℕ) → place < i + 1 → slice_get own place ≡ Some to → mark_of marks to ≡ false
none-more own marks i within none before place to lt there = elim (cases_lt place i) [
  | inl less ↦ before place to less there
  | inr ge ↦
      let same : i ≡ place = omega arith in
      let both : Some (get_or own i 0) ≡ Some to = sym (link-read own i within) ∙ ap (slice_get own) same ∙ there in
      let one : get_or own i 0 ≡ to = cc in
      ap (mark_of marks) (sym one) ∙ none
]

pub stays-at : (links : List (List ℕ)) (marks : List Bool) (k : ℕ) (own : List ℕ) → slice_get links k ≡ Some own → Stays own marks → StaysAt k links marks
stays-at links marks k own there stays none other here =
    let both : Some own ≡ Some other = sym there ∙ here in
    let same : own ≡ other = cc in
    subst (λ (xs : List ℕ). Stays xs marks) same stays

-- where a log was tried there are no more without a mark
pub most-on : (did : Bool) (marks now : List Bool) (most : ℕ) → (did ≡ true → unmarked now < unmarked marks) → (did ≡ false → now ≡ marks)
    → unmarked marks ≤ most → unmarked now ≤ most
most-on true marks now most fewer same before = let less = fewer refl in omega (arith, before, less)
most-on false marks now most fewer same before = let size = ap unmarked (same refl) in omega (arith, before, size)
