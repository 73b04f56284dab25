-- The first among the faults of uses.
use Rattle.std.proofs.Common.{◌≡◌, ℕ, ◌+◌, ◌<◌, List, [], ◌∷◌, ◌++◌, length, get_or, drop, Option, sym}
use Rattle.std.specs.List.{flat_map}
use Rattle.cilk_check_scopes.specs.declared.fault.CheckFault.{CheckFault}
use Rattle.cilk_check_scopes.specs.First.{first_among}
use Rattle.cilk_check_scopes.specs.Scopes.{Scopes}
use Rattle.cilk_check_scopes.proofs.Firsts.{first_among-append, first_among-flat_map}
use Rattle.cilk_check_scopes.proofs.Steps.{flat_map_more}
use Rattle.cilk_check_scopes.specs.syntax.Tree.{Word}
use Rattle.cilk_check_scopes.specs.syntax.Tree as tree
use Rattle.cilk_check_scopes.specs.declared.role.Role.{Role}
use Rattle.cilk_check_scopes.specs.Uses.{Use, use_as}
use Rattle.cilk_check.specs.NameFinds.{name_faults, use_faults, expr_faults, exprs_faults}

pub uses-append : (found : Option CheckFault) (xs ys : List Use)
    → first_among found (flat_map use_faults (xs ++ ys)) ≡ first_among (first_among found (flat_map use_faults xs)) (flat_map use_faults ys)
uses-append found xs ys = first_among-flat_map use_faults found xs ys

pub exprs-append : (found : Option CheckFault) (s : Scopes) (xs ys : List tree.Expr)
    → first_among found (exprs_faults s (xs ++ ys)) ≡ first_among (first_among found (exprs_faults s xs)) (exprs_faults s ys)
exprs-append found s xs ys = first_among-flat_map (expr_faults s) found xs ys

pub exprs_more : (found : Option CheckFault) (s : Scopes) (es : List tree.Expr) (i : ℕ) (e : tree.Expr) → i < length es → e ≡ get_or es i e
    → first_among found (exprs_faults s (drop i es)) ≡ first_among (first_among found (expr_faults s e)) (exprs_faults s (drop (i + 1) es))
exprs_more found s es i e h at = flat_map_more (expr_faults s) found es i e h at

-- a use alone
pub one_use : (found : Option CheckFault) (s : Scopes) (name : Word) (role : Role)
    → first_among found (name_faults s name role) ≡ first_among found (flat_map use_faults (use_as s name role ∷ []))
unfolding use_faults
one_use found s name role = sym (first_among-append found (name_faults s name role) [])

pub ruleset uses = (first_among-append, uses-append, exprs-append, exprs_more)
