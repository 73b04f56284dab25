-- The statements of a block, and those of a `switch` behind their labels, as lists.
use Rattle.std.proofs.Common.{◌≡◌, List, [], ◌∷◌, ◌++◌, map, refl, sym, ap, ◌∙◌, append_assoc}
use Rattle.std.proofs.lemmas.List.{append-nil}
use Rattle.cilk_check.specs.lexeme.Lexeme.{Lexeme}
use Rattle.cilk_check.specs.syntax.Tree as tree
use Rattle.cilk_check.specs.syntax.Tree.{stmts_of}
use Rattle.cilk_check.specs.syntax.Bare.{bare_stmt, bare_stmts}
use Rattle.cilk_parse_grammar.specs.Forms.{joined}
use Rattle.cilk_parse_grammar.proofs.KeepsStmts.{map_joined}
use Rattle.cilk_laws.specs.Plain.{PlainStmts}
use Rattle.cilk_laws.specs.ExprLexemes.{each}
use Rattle.cilk_laws.specs.StmtLexemes.{stmt_lexemes, stmts_lexemes}

pub bare_stmts_of : (ss : List tree.Stmt) → stmts_of (map bare_stmt ss) ≡ bare_stmts (stmts_of ss)
bare_stmts_of [] = refl
bare_stmts_of (s ∷ ss) = ap (tree.also (bare_stmt s)) (bare_stmts_of ss)

-- the lexemes of statements in order
abbrev pub group_lexemes : List tree.Stmt → List Lexeme
group_lexemes ss = stmts_lexemes (stmts_of ss)

pub labelled_lexemes : (xs : List tree.Stmt) (s : tree.Stmt) → each stmt_lexemes xs ++ stmt_lexemes s ≡ group_lexemes (xs ++ s ∷ [])
labelled_lexemes [] s = sym (append-nil (stmt_lexemes s))
labelled_lexemes (x ∷ xs) s =
    append_assoc (stmt_lexemes x) (each stmt_lexemes xs) (stmt_lexemes s) ∙ ap (λ ls. stmt_lexemes x ++ ls) (labelled_lexemes xs s)

pub plain_append : (ss ts : List tree.Stmt) → PlainStmts (stmts_of (ss ++ ts)) → PlainStmts (stmts_of ss) × PlainStmts (stmts_of ts)
plain_append [] ts pl = (tt, pl)
plain_append (s ∷ ss) ts pl = let p = plain_append ss ts pl.1 in ((pl.0, p.0), p.1)

group_append : (ss ts : List tree.Stmt) → group_lexemes ss ++ group_lexemes ts ≡ group_lexemes (ss ++ ts)
group_append [] ts = refl
group_append (s ∷ ss) ts = append_assoc (stmt_lexemes s) (group_lexemes ss) (group_lexemes ts) ∙ ap (λ ls. stmt_lexemes s ++ ls) (group_append ss ts)

pub each_group : (sss : List (List tree.Stmt)) → each group_lexemes sss ≡ group_lexemes (joined sss)
each_group [] = refl
each_group (ss ∷ sss) = ap (λ ls. group_lexemes ss ++ ls) (each_group sss) ∙ group_append ss (joined sss)

pub bare_groups : (sss : List (List tree.Stmt)) → stmts_of (joined (map (map bare_stmt) sss)) ≡ bare_stmts (stmts_of (joined sss))
bare_groups sss = ap stmts_of (sym (map_joined bare_stmt sss)) ∙ bare_stmts_of (joined sss)
