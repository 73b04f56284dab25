-- The declarations that stand before one.
use Rattle.std.proofs.Common.{List, [], ◌∷◌, inl, inr, ap}
use Rattle.cilk_check_scopes.specs.Scopes.{Declared}
use Rattle.cilk_check_scopes.specs.Declarations.{Declaring, declaring}
use Rattle.cilk_check_scopes.proofs.Elements.{Has}

-- each of some declarations is declared behind others
pub declared_behind : (before ds : List Declared) (d : Declared) → Has ds d → (e : List Declared)
    × Has (declaring before ds) (record { before = e; declared = d })
declared_behind before [] d h = absurd h
declared_behind before (x ∷ ds) d (inl e) = (before, inl (λ i. record { before = before; declared = e i }))
declared_behind before (x ∷ ds) d (inr h) = let k = declared_behind (x ∷ before) ds d h in (k.0, inr k.1)

pub is_declared : (before ds : List Declared) (x : Declaring) → Has (declaring before ds) x → Has ds x.declared
is_declared before [] x h = absurd h
is_declared before (d ∷ ds) x (inl e) = inl (ap (λ y. y.declared) e)
is_declared before (d ∷ ds) x (inr h) = inr (is_declared (d ∷ before) ds x h)
