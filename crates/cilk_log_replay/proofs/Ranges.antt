-- What is looked for, up and down.
use Rattle.std.proofs.Common.{◌≡◌, ◌<◌, ℕ, suc, ◌+◌, ◌-◌, Bool, false, Some, ap, ◌∙◌, arith, if◌then◌else◌}
use Rattle.std.specs.List.{find, range_with_len}

by_head : (f : ℕ → Bool) (a n : ℕ) (b : Bool) → f a ≡ b → find f (range_with_len a (suc n)) ≡ (if b then Some a else find f (range_with_len (a + 1) n))
by_head f a n b e = ap (λ (c : Bool). if c then Some a else find f (range_with_len (a + 1) n)) e

left_of : (a n : ℕ) → a < n → n - a ≡ suc (n - (a + 1))
left_of a n within = omega arith

-- up from a to below n
pub passes : (f : ℕ → Bool) (a n : ℕ) → f a ≡ false → a < n → find f (range_with_len a (n - a)) ≡ find f (range_with_len (a + 1) (n - (a + 1)))
passes f a n e within =
    ap (λ k. find f (range_with_len a k)) (left_of a n within) ∙ by_head f a (n - (a + 1)) false e
