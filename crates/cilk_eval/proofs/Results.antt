-- What the operators that divide and shift give, where they give something.
use Rattle.std.proofs.Common.{◌≡◌, ◌≢◌, ℕ, ◌^◌, ℤ, pos, ◌*ℤ◌, int_div, int_rem, Bool, true, false, ◌&&◌, if◌then◌else◌, Ok, Err, refl, sym, ap, subst, ◌∙◌}
use Rattle.std.specs.Prelude.{int_le}
use Rattle.std.specs.Int.{int_div_euclid}
use Rattle.std.proofs.lemmas.Nat.{pow_pos}
use Rattle.cilk_frame.specs.syntax.declared.operator.BinOp.TheVariants.{Divide, Remainder, ShiftLeft, ShiftRight}
use Rattle.cilk_frame.specs.model.declared.trap.Trap.{Trap}
use Rattle.cilk_frame.specs.model.declared.trap.Trap.TheVariants.{Overflow, ZeroDivide, Shift}
use Rattle.cilk_frame.specs.labelled.Arithmetic.{fits, exact, is_zero, is_count, binary_result}
use Rattle.cilk_eval.specs.Rounding.{Truncates, RoundsDown}
use Rattle.cilk_eval.proofs.Rounding.{int_div-truncates, int_div_euclid-rounds_down}

ok_is : (b : Bool) (z q : ℤ) (trap : Trap) → (if b then Ok z else Err trap) ≡ Ok q → z ≡ q
ok_is true z q trap h = cc
ok_is false z q trap h = cc

not_zero : (b : ℤ) → is_zero b ≡ false → b ≢ pos 0
not_zero b h e = let both : false ≡ true = sym h ∙ ap is_zero e in cc

divided_by : (a b q : ℤ) (zero : Bool) → is_zero b ≡ zero → (if zero then Err ZeroDivide else exact (int_div a b)) ≡ Ok q → (r : ℤ) × Truncates a b q r
divided_by a b q true is h = cc
divided_by a b q false is h =
    (int_rem a b, subst (λ x. Truncates a b x (int_rem a b)) (ok_is (fits (int_div a b)) (int_div a b) q Overflow h) (int_div-truncates a b (not_zero b is)))

pub division_truncates : (a b q : ℤ) → binary_result Divide a b ≡ Ok q → (r : ℤ) × Truncates a b q r
division_truncates a b q h = divided_by a b q (is_zero b) refl h

left_by : (a b r : ℤ) (zero : Bool) → is_zero b ≡ zero
    → (if zero then Err ZeroDivide else (if fits (int_div a b) then Ok (int_rem a b) else Err Overflow)) ≡ Ok r → (q : ℤ) × Truncates a b q r
left_by a b r true is h = cc
left_by a b r false is h =
    (int_div a b, subst (λ x. Truncates a b (int_div a b) x) (ok_is (fits (int_div a b)) (int_rem a b) r Overflow h) (int_div-truncates a b (not_zero b is)))

pub remainder_is_left : (a b r : ℤ) → binary_result Remainder a b ≡ Ok r → (q : ℤ) × Truncates a b q r
remainder_is_left a b r h = left_by a b r (is_zero b) refl h

raised_by : (a z product : ℤ) (b : Bool) → (if b then exact product else Err Shift) ≡ Ok z → z ≡ product
raised_by a z product true h = sym (ok_is (fits product) product z Overflow h)
raised_by a z product false h = cc

pub shift_multiplies : (a : ℤ) (k : ℕ) (z : ℤ) → binary_result ShiftLeft a (pos k) ≡ Ok z → z ≡ a *ℤ pos (2 ^ k)
shift_multiplies a k z h = raised_by a z (a *ℤ pos (2 ^ k)) (is_count (pos k) && int_le (pos 0) a) h

pub shift_rounds_down : (a : ℤ) (k : ℕ) (q : ℤ) → binary_result ShiftRight a (pos k) ≡ Ok q → RoundsDown a (2 ^ k) q
shift_rounds_down a k q h =
    subst (RoundsDown a (2 ^ k)) (ok_is (is_count (pos k)) (int_div_euclid a (pos (2 ^ k))) q Shift h) (int_div_euclid-rounds_down a (2 ^ k) (pow_pos k))
