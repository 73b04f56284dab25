-- One choice more is counted.
use Rattle.std.proofs.Common.{◌≡◌, ◌≢◌, ℕ, ◌+◌, ◌<◌, ◌≤◌, ◌==◌, List, [], ◌∷◌, ◌++◌, length, slice_index, slice_set, refl, sym, subst, ◌∙◌, ap}
use Rattle.std.proofs.Common.{zero-add, arith, length-set, get_or-set_same, get_or-set_other, Bool, true, false, if◌then◌else◌, cond, ◌⊎◌, inl, inr}
use Rattle.std.proofs.lemmas.List.Sums.{sum_by-append, count_by-le-length}
use Rattle.std.proofs.lemmas.Bool.Decides.{nat_tests}
use Rattle.cilk_run.specs.choices.declared.choice.Choice.{Choice}
use Rattle.cilk_run.specs.Histories.{turns_of, IsCounted}

turns_of-more : (w : ℕ) (h : List Choice) (c : Choice) → turns_of w (h ++ c ∷ []) ≡ turns_of w h + (if c.worker == w then 1 else 0)
turns_of-more w h c =
    sum_by-append (λ (x : Choice). cond (x.worker == w) 1 0) h (c ∷ [])
    ∙ ap (λ k. turns_of w h + k) (zero-add (cond (c.worker == w) 1 0))

turns_of-same : (w : ℕ) (h : List Choice) (c : Choice) → c.worker ≡ w → turns_of w (h ++ c ∷ []) ≡ turns_of w h + 1
turns_of-same w h c same = grind (arith, nat_tests, turns_of-more w h c)

turns_of-other : (w : ℕ) (h : List Choice) (c : Choice) → c.worker ≢ w → turns_of w (h ++ c ∷ []) ≡ turns_of w h
turns_of-other w h c other = grind (arith, nat_tests, turns_of-more w h c)

pub turns_of-fits : (w : ℕ) (h : List Choice) → turns_of w h ≤ length h
turns_of-fits w h = count_by-le-length (λ (x : Choice). x.worker == w) h

-- place i is that of worker i + 1
at_place : (n : ℕ) (ts : List ℕ) (h : List Choice) (c : Choice) (i k : ℕ)
    → length ts ≡ n → ((w : ℕ) → w < n → slice_index ts w ≡ turns_of (w + 1) h) → i < n → c.worker ≡ i + 1 → k ≡ slice_index ts i + 1
    → (w : ℕ) → w < n → (i ≡ w) ⊎ (i ≢ w) → slice_index (slice_set ts i k) w ≡ turns_of (w + 1) (h ++ c ∷ [])
at_place n ts h c i k entries each within by is w inside (inl same) =
    let there : i < length ts = omega arith in
    subst (λ (v : ℕ). slice_index (slice_set ts i k) v ≡ turns_of (v + 1) (h ++ c ∷ [])) same
    (get_or-set_same ts i k 0 there ∙ is ∙ ap (λ v. v + 1) (each i within) ∙ sym (turns_of-same (i + 1) h c by))
at_place n ts h c i k entries each within by is w inside (inr other) =
    let apart : w ≢ i = λ e. other (sym e) in
    let away : c.worker ≢ w + 1 = λ e. other (omega (arith, by, e)) in
    get_or-set_other ts i w k 0 apart ∙ each w inside ∙ sym (turns_of-other (w + 1) h c away)

decided : (a b : ℕ) (t : Bool) → (a == b) ≡ t → (a ≡ b) ⊎ (a ≢ b)
decided a b true h = inl (grind (arith, nat_tests))
decided a b false h = inr (λ e. grind (arith, nat_tests))

equal_or_not : (a b : ℕ) → (a ≡ b) ⊎ (a ≢ b)
equal_or_not a b = decided a b (a == b) refl

pub counted-more : (n : ℕ) (ts : List ℕ) (h : List Choice) (c : Choice) (i k : ℕ)
    → IsCounted n ts h → i < n → c.worker ≡ i + 1 → k ≡ slice_index ts i + 1
    → IsCounted n (slice_set ts i k) (h ++ c ∷ [])
counted-more n ts h c i k counted within by is = record {
  entries = length-set ts i k ∙ counted.entries;
  each = λ w inside. at_place n ts h c i k counted.entries counted.each within by is w inside (equal_or_not i w);
}
