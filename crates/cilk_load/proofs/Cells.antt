-- Variables one list behind the other.
use Rattle.std.proofs.Common.{◌≡◌, ℕ, ◌+◌, List, [], ◌∷◌, ◌++◌, Result}
use Rattle.std.proofs.Common.{sym, ap, ◌∙◌, arith, append_assoc}
use Rattle.std.specs.Prelude.{IfOk}
use Rattle.std.proofs.lemmas.Result.{IfOk-weaker}
use Rattle.cilk_load_nodes.specs.declared.area.Area.{Area}
use Rattle.cilk_load_nodes.specs.labelled.Labelled.{Variable}
use Rattle.cilk_load_nodes.specs.Slots.{size_of, cells_of}
use Rattle.cilk_load_nodes.specs.declared.var.Var.{Var}
use Rattle.cilk_load_nodes.specs.Bodies.{var_at, vars_from}

pub cells_of-append : (vs ws : List Variable) → cells_of (vs ++ ws) ≡ cells_of vs + cells_of ws
cells_of-append [] ws = omega arith
cells_of-append (v ∷ vs) ws = omega (arith, cells_of-append vs ws)

pub vars_from-append : (area : Area) (at : ℕ) (vs ws : List Variable)
    → vars_from area at (vs ++ ws) ≡ vars_from area at vs ++ vars_from area (at + cells_of vs) ws
vars_from-append area at [] ws = ap (λ k. vars_from area k ws) (none-more at)
  where
    none-more : (n : ℕ) → n ≡ n + 0
    none-more n = omega arith
vars_from-append area at (v ∷ vs) ws =
    ap (λ rest. var_at area at v ∷ rest)
    (vars_from-append area (at + size_of v) vs ws
    ∙ ap (λ k. vars_from area (at + size_of v) vs ++ vars_from area k ws) (regroup at (size_of v) (cells_of vs)))
  where
    regroup : (a b c : ℕ) → a + b + c ≡ a + (b + c)
    regroup a b c = omega arith

-- one stretch of variables behind another
pub joined : (area : Area) (at cells : ℕ) (before middle after : List Var) (vs ws : List Variable) → middle ≡ before ++ vars_from area at vs
    → cells ≡ at + cells_of vs → after ≡ middle ++ vars_from area cells ws → after ≡ before ++ vars_from area at (vs ++ ws)
joined area at cells before middle after vs ws e f g =
    g
    ∙ (λ i. e i ++ vars_from area (f i) ws)
    ∙ append_assoc before (vars_from area at vs) (vars_from area (at + cells_of vs) ws)
    ∙ ap (λ rest. before ++ rest) (sym (vars_from-append area at vs ws))

-- the place behind one stretch of variables and another
pub ok_behind : {E : Type 0} (r : Result ℕ E) (at cells : ℕ) (vs ws all : List Variable) → IfOk r (λ after. after ≡ cells + cells_of ws)
    → cells ≡ at + cells_of vs → vs ++ ws ≡ all → IfOk r (λ after. after ≡ at + cells_of all)
ok_behind r at cells vs ws all h e f =
    IfOk-weaker r (λ after. after ≡ cells + cells_of ws) (λ after. after ≡ at + cells_of all)
    (λ (after : ℕ) (k : after ≡ cells + cells_of ws). omega (arith, k, e, ap cells_of f, cells_of-append vs ws)) h
