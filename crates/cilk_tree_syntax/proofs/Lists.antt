-- A block's statements and what it declares, and the lists that hold them.
use Rattle.std.proofs.Common.{◌≡◌, List, [], ◌∷◌, map, refl, ap, sym, ◌∙◌}
use Rattle.cilk_tree_syntax.specs.Tree.{Stmt, Stmts, none, also, Local, Locals, no_locals, and_local, stmts_of, locals_of}
use Rattle.cilk_tree_syntax.specs.Bare.{bare_stmt, bare_stmts, bare_local, bare_locals}

abbrev pub list_of : Stmts → List Stmt
list_of none = []
list_of (also first others) = first ∷ list_of others

pub list_of-stmts_of : (xs : List Stmt) → list_of (stmts_of xs) ≡ xs
list_of-stmts_of [] = refl
list_of-stmts_of (x ∷ xs) = ap (λ ys. x ∷ ys) (list_of-stmts_of xs)

pub bare_stmts-stmts_of : (xs : List Stmt) → bare_stmts (stmts_of xs) ≡ stmts_of (map bare_stmt xs)
bare_stmts-stmts_of [] = refl
bare_stmts-stmts_of (x ∷ xs) = ap (λ ss. also (bare_stmt x) ss) (bare_stmts-stmts_of xs)

-- the statements of two lists are the same, places aside, where the lists are
pub bare_stmts_same : (xs ys : List Stmt) → map bare_stmt xs ≡ map bare_stmt ys → bare_stmts (stmts_of xs) ≡ bare_stmts (stmts_of ys)
bare_stmts_same xs ys e = bare_stmts-stmts_of xs ∙ ap stmts_of e ∙ sym (bare_stmts-stmts_of ys)

pub bare_stmts_injective : (xs ys : List Stmt) → bare_stmts (stmts_of xs) ≡ bare_stmts (stmts_of ys) → map bare_stmt xs ≡ map bare_stmt ys
bare_stmts_injective xs ys e =
    sym (list_of-stmts_of (map bare_stmt xs)) ∙ ap list_of (sym (bare_stmts-stmts_of xs) ∙ e ∙ bare_stmts-stmts_of ys) ∙ list_of-stmts_of (map bare_stmt ys)

abbrev pub list_of_locals : Locals → List Local
list_of_locals no_locals = []
list_of_locals (and_local first others) = first ∷ list_of_locals others

pub list_of-locals_of : (xs : List Local) → list_of_locals (locals_of xs) ≡ xs
list_of-locals_of [] = refl
list_of-locals_of (x ∷ xs) = ap (λ ys. x ∷ ys) (list_of-locals_of xs)

pub bare_locals-locals_of : (xs : List Local) → bare_locals (locals_of xs) ≡ locals_of (map bare_local xs)
bare_locals-locals_of [] = refl
bare_locals-locals_of (x ∷ xs) = ap (λ ls. and_local (bare_local x) ls) (bare_locals-locals_of xs)

-- and so what they declare
pub bare_locals_same : (xs ys : List Local) → map bare_local xs ≡ map bare_local ys → bare_locals (locals_of xs) ≡ bare_locals (locals_of ys)
bare_locals_same xs ys e = bare_locals-locals_of xs ∙ ap locals_of e ∙ sym (bare_locals-locals_of ys)

pub bare_locals_injective : (xs ys : List Local) → bare_locals (locals_of xs) ≡ bare_locals (locals_of ys) → map bare_local xs ≡ map bare_local ys
bare_locals_injective xs ys e =
    sym (list_of-locals_of (map bare_local xs)) ∙ ap list_of_locals (sym (bare_locals-locals_of xs) ∙ e ∙ bare_locals-locals_of ys)
    ∙ list_of-locals_of (map bare_local ys)

pub ruleset lists = (bare_stmts_same, bare_stmts_injective, bare_locals_same, bare_locals_injective)
