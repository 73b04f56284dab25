-- A text that is handed on.
use Rattle.std.proofs.Common.{◌≡◌, ◌++◌, ℕ, List, [], ap, ◌∙◌, subst, Option, Some, None, Result, Ok, Err, IfOk}

-- a text that began with nothing
pub from_empty : (front text whole : List ℕ) → whole ≡ front ++ text → front ≡ [] → whole ≡ text
from_empty front text whole is empty = is ∙ ap (λ xs. xs ++ text) empty

pub told_is : {A E F : Type 0} (from : Result A E) (now : Result A F) (P Q : A → Type 0) → IfOk now (λ t. from ≡ Ok t) → IfOk from P
    → ((t : A) → P t → Q t) → IfOk now Q
told_is from (Ok t) P Q is holds then = then t (subst (λ r. IfOk r P) is holds)
told_is from (Err e) P Q is holds then = tt

-- what is there is not missing
pub not_both : {A : Type 0} (o : Option A) (x : A) → o ≡ Some x → o ≡ None → ⊥
not_both None x there gone = cc
not_both (Some y) x there gone = cc
