-- What was written, part after part.
use Rattle.std.proofs.Common.{◌≡◌, ℕ, List, Result, OnOk, String, string_bytes, subst}

-- a text that is written in other parts
pub regrouped : {E Z : Type 0} (r : Result (Unit {0}) E) (new : String Z) (bytes text : List ℕ) → OnOk r (string_bytes new ≡ bytes)
    → bytes ≡ text → OnOk r (string_bytes new ≡ text)
regrouped r new bytes text written same = subst (λ (t : List ℕ). OnOk r (string_bytes new ≡ t)) same written
