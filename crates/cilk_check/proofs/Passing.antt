-- The declaration that passes a limit of cells.
use Rattle.std.proofs.Common.{◌≡◌, ℕ, ◌-◌, ◌<◌, ◌≤◌, Bool, true, false, cond, nat_le, List, [], ◌∷◌, ◌++◌, inl, inr, refl, ap, arith}
use Rattle.std.proofs.lemmas.Bool.Decides.{nat_tests}
use Rattle.cilk_check_scopes.specs.declared.fault.CheckFault.{CheckFault}
use Rattle.cilk_check_scopes.specs.declared.fault.CheckFault.TheVariants.{Limit}
use Rattle.cilk_check_scopes.specs.Scopes.{Declared}
use Rattle.cilk_check_scopes.proofs.Elements.{Has}
use Rattle.cilk_check_scopes.specs.Cells.{cells_of}
use Rattle.cilk_check_scopes.specs.Forms.{Passes}
use Rattle.cilk_check.specs.FormFinds.{passing}

-- one of the declarations passes what is left, and its fault is this
pub record PassedAt (left : ℕ) (ds : List Declared) (f : CheckFault) : Type 0 where
  pub before : List Declared
  pub at : Declared
  pub after : List Declared
  pub order : ds ≡ before ++ at ∷ after
  pub passes : Passes left before at
  pub is : Limit at.name.place ≡ f

one_more : (left : ℕ) (d : Declared) (ds : List Declared) (f : CheckFault) → cells_of d.kind ≤ left → PassedAt (left - cells_of d.kind) ds f
    → PassedAt left (d ∷ ds) f
one_more left d ds f h p = record {
  before = d ∷ p.before;
  at = p.at;
  after = p.after;
  order = ap (λ xs. d ∷ xs) {y = p.before ++ p.at ∷ p.after} p.order;
  passes = record { within = omega (arith, p.passes.within); past = omega (arith, p.passes.past) };
  is = p.is;
}

passing_cases : (left : ℕ) (d : Declared) (ds : List Declared) (f : CheckFault) (b : Bool) → nat_le (cells_of d.kind) left ≡ b
    → (Has (passing (left - cells_of d.kind) ds) f → PassedAt (left - cells_of d.kind) ds f)
    → Has (cond b (passing (left - cells_of d.kind) ds) (Limit d.name.place ∷ [])) f → PassedAt left (d ∷ ds) f
passing_cases left d ds f true e rest h = one_more left d ds f (grind (arith, nat_tests, e)) (rest h)
passing_cases left d ds f false e rest (inl is) =
    let past : left < cells_of d.kind = grind (arith, nat_tests, e) in
    record { before = []; at = d; after = ds; order = refl; passes = record { within = omega arith; past = omega (arith, past) }; is = is }
passing_cases left d ds f false e rest (inr h) = absurd h

pub passing_found : (left : ℕ) (ds : List Declared) (f : CheckFault) → Has (passing left ds) f → PassedAt left ds f
passing_found left [] f h = absurd h
passing_found left (d ∷ ds) f h =
    passing_cases left d ds f (nat_le (cells_of d.kind) left) refl (passing_found (left - cells_of d.kind) ds f) h

there : (b : Bool) (fs gs : List CheckFault) (f : CheckFault) → b ≡ true → Has fs f → Has (cond b fs gs) f
there true fs gs f e h = h
there false fs gs f e h = cc

there_not : (b : Bool) (fs gs : List CheckFault) (f : CheckFault) → b ≡ false → Has gs f → Has (cond b fs gs) f
there_not true fs gs f e h = cc
there_not false fs gs f e h = h

pub passing_has : (left : ℕ) (before : List Declared) (d : Declared) (after : List Declared) → Passes left before d
    → Has (passing left (before ++ d ∷ after)) (Limit d.name.place)
passing_has left [] d after p =
    there_not (nat_le (cells_of d.kind) left) _ _ _ (grind (arith, nat_tests, p.past)) (inl refl)
passing_has left (x ∷ before) d after p =
    there (nat_le (cells_of x.kind) left) _ _ _ (grind (arith, nat_tests, p.within))
    (passing_has (left - cells_of x.kind) before d after
    (record { within = omega (arith, p.within); past = omega (arith, p.within, p.past) }))
