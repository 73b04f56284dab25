-- What holds where a call does not fail.
use Rattle.std.proofs.Common.{◌≡◌, ◌∙◌, ap, Option, Some, Result, Ok, Err}
use Rattle.std.specs.Prelude.{IfOk, OnOk, IsOkAnd}
use Rattle.std.proofs.lemmas.Result.{IfOk-weaker, on_ok_weaker}

-- where a call may fail
pub ok_same : {A E X : Type 0} (r : Result A E) (xs ys zs : X) → OnOk r (xs ≡ ys) → ys ≡ zs → OnOk r (xs ≡ zs)
ok_same r xs ys zs h e = on_ok_weaker r (λ (k : xs ≡ ys). k ∙ e) h

-- what was made, where it is put under `Some`
pub one_same : {A E : Type 0} (r : Result A E) (s : Result (Option A) E) (x : A) (o : Option A) → IfOk r (λ a. a ≡ x)
    → IfOk s (λ one. IsOkAnd r (λ a. one ≡ Some a)) → Some x ≡ o → IfOk s (λ one. one ≡ o)
one_same (Ok a) s x o h k e = IfOk-weaker s (λ one. one ≡ Some a) (λ one. one ≡ o) (λ one m. m ∙ ap Some h ∙ e) k
one_same (Err d) s x o h k e = IfOk-weaker s (λ one. ⊥) (λ one. one ≡ o) (λ one m. absurd m) k
