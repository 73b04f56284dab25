-- What is left above a procedure's own body.
use Rattle.std.proofs.Common.{◌≡◌, ◌<◌, ◌≤◌, ℕ, zero, suc, Option, None, refl, arith}
use Rattle.cilk_races.specs.Motions.{inlet_left}

pub left-few : (n : ℕ) (o : Option ℕ) → n < 2 → inlet_left n o ≡ None
left-few zero o h = refl
left-few (suc zero) o h = refl
left-few (suc (suc n)) o h = absurd (omega arith)

pub left-more : (n : ℕ) (o : Option ℕ) → 2 ≤ n → inlet_left n o ≡ o
left-more zero o h = absurd (omega arith)
left-more (suc zero) o h = absurd (omega arith)
left-more (suc (suc n)) o h = refl
