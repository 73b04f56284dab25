-- The texts of assignments and calls write their lexemes.
use Rattle.std.proofs.Common.{◌≡◌, ℕ, List, [], ◌∷◌, ◌++◌, Option, Some, None, refl, ap, sym, subst, ◌∙◌, append_assoc, codes}
use Rattle.std.proofs.lemmas.List.{append-nil}
use Rattle.cilk_check.specs.lexeme.declared.mark.Mark.{Mark}
use Rattle.cilk_check.specs.lexeme.declared.mark.Mark.TheVariants as sign
use Rattle.cilk_check.specs.lexeme.Lexeme.{Lexeme, name, mark}
use Rattle.cilk_check.specs.lexeme.Spelling.{IsName, mark_spelling}
use Rattle.cilk_parse.proofs.lex_laws.Made.{Stops}
use Rattle.cilk_check.specs.syntax.declared.adjustment.Adjustment.TheVariants as by
use Rattle.cilk_check.specs.syntax.declared.operator.BinOp.{BinOp}
use Rattle.cilk_check.specs.syntax.OperatorMark.{mark_of}
use Rattle.cilk_check.specs.syntax.Tree as tree
use Rattle.cilk_tree.specs.syntax.MoveText.{next_exprs_text, exprs_text, call_text, index_text, place_text, op_text, target_text, move_text}
use Rattle.cilk_laws.specs.StmtLexemes.{next_exprs_lexemes, exprs_lexemes, call_lexemes, index_lexemes, assign_mark, into_lexemes, move_lexemes}
use Rattle.cilk_laws.specs.CanWrite.{CanWriteExprs, CanWriteValue, CanAssign, CanWritePlace, CanWriteTarget, CanWriteMove}
use Rattle.cilk_laws.proofs.Exprs.{expr_writes}
use Rattle.cilk_laws.proofs.Spaced.{space_writes, mark_space, parentheses_write, brackets_write}
use Rattle.cilk_laws.proofs.Writes.{Ends, Writes, WritesAlone, weaken, nothing_writes, same_writes, alone_then, both_alone, ended_then}
use Rattle.cilk_laws.proofs.Writes.{ended_alone, mark_writes, name_writes, name_then}

-- ---- expressions, a comma between two

next_ends : (es : List tree.Expr) → Ends (next_exprs_text es)
next_ends [] = tt
next_ends (e ∷ es) = refl

pub next_exprs_write : (es : List tree.Expr) → CanWriteExprs es → Writes (next_exprs_text es) (next_exprs_lexemes es)
next_exprs_write [] h = weaken nothing_writes
next_exprs_write (e ∷ es) h = alone_then (mark_space sign.Comma) (ended_then (expr_writes e h.0) (next_ends es) (next_exprs_write es h.1))

exprs_write : (es : List tree.Expr) → CanWriteExprs es → Writes (exprs_text es) (exprs_lexemes es)
exprs_write [] h = weaken nothing_writes
exprs_write (e ∷ es) h = ended_then (expr_writes e h.0) (next_ends es) (next_exprs_write es h.1)

pub call_writes : (callee : tree.Word) (arguments : List tree.Expr) → IsName callee.text → CanWriteExprs arguments
    → WritesAlone (call_text callee arguments) (call_lexemes callee arguments)
call_writes callee arguments n h = ended_alone (name_writes n) (λ rest. refl) (parentheses_write (exprs_write arguments h))

-- ---- what is written to

index_ends : (index : Option tree.Expr) → Ends (index_text index)
index_ends None = tt
index_ends (Some e) = refl

index_writes : (index : Option tree.Expr) → CanWriteValue index → Writes (index_text index) (index_lexemes index)
index_writes None h = weaken nothing_writes
index_writes (Some e) h = weaken (brackets_write (expr_writes e h))

place_writes : (p : tree.Place) → CanWritePlace p → Writes (place_text p) (name p.name.text ∷ index_lexemes p.index)
place_writes p h = ended_then (name_writes h.0) (index_ends p.index) (index_writes p.index h.1)

-- the operator and its `=`, a space behind
op_writes : (o : Option BinOp) → CanAssign o → WritesAlone (op_text o ++ codes "= ") (mark (assign_mark o) ∷ [])
op_writes None h = mark_space sign.Assign
op_writes (Some o) h =
    let joined : mark_spelling (assign_mark (Some o)) ++ codes " " ≡ mark_of o ++ codes "= " = ap (λ (s : List ℕ). s ++ codes " ") (sym h)
    ∙ append_assoc (mark_of o) (codes "=") (codes " ") in
    subst (λ (s : List ℕ). WritesAlone s (mark (assign_mark (Some o)) ∷ [])) joined (mark_space (assign_mark (Some o)))

-- what is written to, and the text behind it
target_writes : (t : tree.Target) → CanWriteTarget t
    → WritesAlone (target_text t) ((name t.place.name.text ∷ index_lexemes t.place.index) ++ mark (assign_mark t.op) ∷ [])
target_writes t h = ended_alone (place_writes t.place h.0) (λ rest. refl) (both_alone space_writes (op_writes t.op h.1))

into_same : (t : tree.Target) (ls : List Lexeme)
    → ((name t.place.name.text ∷ index_lexemes t.place.index) ++ mark (assign_mark t.op) ∷ []) ++ ls ≡ into_lexemes t ls
into_same t ls = append_assoc (name t.place.name.text ∷ index_lexemes t.place.index) (mark (assign_mark t.op) ∷ []) ls

pub into_writes : {text : List ℕ} {ls : List Lexeme} (t : tree.Target) → CanWriteTarget t → Writes text ls → Writes (target_text t ++ text) (into_lexemes t ls)
into_writes {ls = ls} t h w = same_writes (into_same t ls) (alone_then (target_writes t h) w)

-- a place and a mark directly behind it
adjustment_writes : (p : tree.Place) (k : Mark) → CanWritePlace p → ((rest : List ℕ) → Stops (mark_spelling k ++ rest))
    → Writes (place_text p ++ mark_spelling k) (name p.name.text ∷ (index_lexemes p.index ++ mark k ∷ []))
adjustment_writes p k h stops = at p.index h.1
  where
    at : (index : Option tree.Expr) → CanWriteValue index
        → Writes ((p.name.text ++ index_text index) ++ mark_spelling k) (name p.name.text ∷ (index_lexemes index ++ mark k ∷ []))
    at None v = rw (append-nil p.name.text) (name_then h.0 stops (mark_writes k))
    at (Some e) v = alone_then (ended_alone (name_writes h.0) (λ rest. refl) (brackets_write (expr_writes e v))) (mark_writes k)

pub move_writes : (m : tree.Move) → CanWriteMove m → Writes (move_text m) (move_lexemes m)
move_writes (tree.assign target value) h = into_writes target h.0 (expr_writes value h.1)
move_writes (tree.adjust place by.Increment) h = adjustment_writes place sign.Increment h (λ rest. refl)
move_writes (tree.adjust place by.Decrement) h = adjustment_writes place sign.Decrement h (λ rest. refl)
move_writes (tree.call None callee arguments) h = weaken (call_writes callee arguments h.1 h.2)
move_writes (tree.call (Some target) callee arguments) h = into_writes target h.0 (weaken (call_writes callee arguments h.1 h.2))
