-- The locks of an instance, one after another.
use Rattle.std.proofs.Common.{◌≡◌, ℕ, zero, suc, ◌+◌, List, [], ◌∷◌, ◌++◌, map, take, drop, get_or, refl, ap, ◌∙◌, slice_set, arith}
use Rattle.cilk_machine_plan.specs.agree.declared.lock.Lock.{Lock}

step : (f : Lock → Lock) (old : List Lock) (i : ℕ) (d : Lock)
    → slice_set (map f (take i old) ++ drop i old) i (f (get_or (map f (take i old) ++ drop i old) i d)) ≡ map f (take (suc i) old) ++ drop (suc i) old
step f [] zero d = refl
step f [] (suc i) d = refl
step f (x ∷ old) zero d = refl
step f (x ∷ old) (suc i) d = λ j. f x ∷ step f old i d j

pub one-more : (f : Lock → Lock) (now old : List Lock) (i : ℕ) (r d : Lock) → now ≡ map f (take i old) ++ drop i old → r ≡ f (get_or now i d)
    → slice_set now i r ≡ map f (take (i + 1) old) ++ drop (i + 1) old
one-more f now old i r d so_far is =
    let next : suc i ≡ i + 1 = omega arith in
    (λ j. slice_set (so_far j) i ((is ∙ ap (λ xs. f (get_or xs i d)) so_far) j)) ∙ step f old i d ∙ ap (λ k. map f (take k old) ++ drop k old) next
