-- The slot of a variable of a table.
use Rattle.std.proofs.Common.{◌≡◌, ℕ, zero, suc, ◌<◌, ◌≤◌, ◌⊎◌, inl, inr, true, false, nat_lt, List, [], ◌∷◌, length}
use Rattle.std.proofs.Common.{sym, ap, refl, arith}
use Rattle.std.specs.Prelude.{slice_index_or}
use Rattle.std.proofs.lemmas.Bool.{lt-ltb, le-ltb, cases_lt}
use Rattle.cilk_load_nodes.specs.Slots.{nowhere}
use Rattle.cilk_load_nodes.specs.declared.var.Var.{Var}
use Rattle.cilk_load.specs.Pass.{var_slot}

pub slot-there : (vars : List Var) (n : ℕ) (v : Var) → v ≡ slice_index_or vars n v → true ≡ nat_lt n (length vars) → v.slot ≡ var_slot vars n
slot-there [] n v e h = let past : nat_lt n 0 ≡ false = le-ltb n 0 (omega arith) in cc
slot-there (x ∷ vars) zero v e h = ap (λ (y : Var). y.slot) e
slot-there (x ∷ vars) (suc n) v e h = slot-there vars n v e (by_test (cases_lt n (length vars)))
  where
    by_test : (n < length vars) ⊎ (length vars ≤ n) → true ≡ nat_lt n (length vars)
    by_test (inl k) = sym (lt-ltb n (length vars) k)
    by_test (inr k) = let past : nat_lt (suc n) (suc (length vars)) ≡ false = le-ltb (suc n) (suc (length vars)) (omega (arith, k)) in cc

pub slot-past : (vars : List Var) (n : ℕ) → false ≡ nat_lt n (length vars) → nowhere ≡ var_slot vars n
slot-past [] n h = refl
slot-past (x ∷ vars) zero h = let there : nat_lt 0 (suc (length vars)) ≡ true = lt-ltb 0 (suc (length vars)) (omega arith) in cc
slot-past (x ∷ vars) (suc n) h = slot-past vars n (by_test (cases_lt n (length vars)))
  where
    by_test : (n < length vars) ⊎ (length vars ≤ n) → false ≡ nat_lt n (length vars)
    by_test (inl k) = let there : nat_lt (suc n) (suc (length vars)) ≡ true = lt-ltb (suc n) (suc (length vars)) (omega (arith, k)) in cc
    by_test (inr k) = sym (le-ltb n (length vars) k)
