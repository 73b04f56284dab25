-- Texts that spell ordinals, one behind the other.
use Rattle.std.proofs.Common.{◌≡◌, ℕ, suc, ◌<◌, List, [], ◌∷◌, ◌++◌, length, get_or, take, drop, Option, Some, None, option_map, refl, sym, ap, ◌∙◌}
use Rattle.std.proofs.Common.{take-append-drop, drop-cons}
use Rattle.cilk_debug_console.specs.Asking.{with_ordinal, ordinal_in, ordinals_in}

both : Option (List ℕ) → Option (List ℕ) → Option (List ℕ)
both None b = None
both (Some a) b = option_map (λ ns. a ++ ns) b

with_both : (o : Option ℕ) (a b : Option (List ℕ)) → with_ordinal o (both a b) ≡ both (with_ordinal o a) b
unfolding both
with_both None a b = refl
with_both (Some n) None b = refl
with_both (Some n) (Some a) None = refl
with_both (Some n) (Some a) (Some b) = refl

none_before : (b : Option (List ℕ)) → b ≡ both (Some []) b
unfolding both
none_before None = refl
none_before (Some b) = refl

ordinals_append : (xs ys : List (List ℕ)) → ordinals_in (xs ++ ys) ≡ both (ordinals_in xs) (ordinals_in ys)
ordinals_append [] ys = none_before (ordinals_in ys)
ordinals_append (x ∷ xs) ys = ap (with_ordinal (ordinal_in x)) (ordinals_append xs ys) ∙ with_both (ordinal_in x) (ordinals_in xs) (ordinals_in ys)

pub one_more : (texts : List (List ℕ)) (text ns : List ℕ) (n : ℕ) → ordinals_in texts ≡ Some ns → Some n ≡ ordinal_in text
    → ordinals_in (texts ++ text ∷ []) ≡ Some (ns ++ n ∷ [])
unfolding both
one_more texts text ns n before is = ordinals_append texts (text ∷ []) ∙ rw (before, ← is) refl

both_none : (a : Option (List ℕ)) → None ≡ both a None
unfolding both
both_none None = refl
both_none (Some a) = refl

pub none_there : (all : List (List ℕ)) (i : ℕ) (text : List ℕ) → (i < length all) × (text ≡ get_or all i text) → None ≡ ordinal_in text → None ≡ ordinals_in all
none_there all i text at is =
    let cut : drop i all ≡ text ∷ drop (suc i) all = drop-cons all i text at.0 ∙ ap (λ t. t ∷ drop (suc i) all) (sym at.1) in
    let rest : None ≡ ordinals_in (drop i all) = rw (cut, ← is) refl in
    both_none (ordinals_in (take i all)) ∙ ap (both (ordinals_in (take i all))) rest ∙ sym (ordinals_append (take i all) (drop i all))
    ∙ ap ordinals_in (take-append-drop i all)
