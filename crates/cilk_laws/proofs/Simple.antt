-- The texts of statements and declarations that stand on one line write their lexemes.
use Rattle.std.proofs.Common.{ℕ, suc, ℤ, pos, negsuc, unsigned_abs, ◌≤◌, List, [], ◌∷◌, ◌++◌, decimal, Option, Some, None, refl, sym, ap, append_assoc, codes}
use Rattle.std.specs.Fmt.{signed_decimal}
use Rattle.std.proofs.lemmas.List.{append-nil}
use Rattle.cilk_check.specs.lexeme.declared.keyword.Keyword.TheVariants as key
use Rattle.cilk_check.specs.lexeme.declared.mark.Mark.TheVariants as sign
use Rattle.cilk_check.specs.lexeme.Lexeme.{Lexeme, word, name, mark, literal}
use Rattle.cilk_parse.specs.Sight.{named, word_in, all_words}
use Rattle.cilk_check.specs.lexeme.Spelling.{IsName, int_max}
use Rattle.cilk_parse.proofs.lex_laws.Decimals.{decimal_number}
use Rattle.cilk_parse.proofs.lex_laws.Longest.{no_mark_on, number_begins}
use Rattle.cilk_check.specs.syntax.declared.lock_action.LockAction.{LockAction}
use Rattle.cilk_check.specs.syntax.declared.lock_action.LockAction.TheVariants as locks
use Rattle.cilk_check.specs.syntax.LockWord.{lock_word}
use Rattle.cilk_check.specs.syntax.Tree as tree
use Rattle.cilk_tree.specs.syntax.MoveText.{call_text, spawn_text, print_text, locking_text, return_text, shape_text, decl_text}
use Rattle.cilk_tree.specs.syntax.StmtLines.{part_text, next_names_text, names_text, label_text}
use Rattle.cilk_laws.specs.ExprLexemes.{in_parentheses}
use Rattle.cilk_laws.specs.StmtLexemes.{next_exprs_lexemes, child_lexemes, spawn_lexemes, part_lexemes, value_lexemes, shape_lexemes}
use Rattle.cilk_laws.specs.StmtLexemes.{decl_lexemes, next_names_lexemes, names_lexemes, integer_lexemes, label_lexemes}
use Rattle.cilk_laws.specs.CanWrite.{CanWriteExprs, CanWriteValue, CanWriteStmt, CanWritePart, CanWriteTaker, CanWriteShape, CanWriteWords}
use Rattle.cilk_laws.specs.CanWrite.{CanWriteInteger}
use Rattle.cilk_laws.proofs.Exprs.{expr_writes}
use Rattle.cilk_laws.proofs.Literals.{literal_writes}
use Rattle.cilk_laws.proofs.Moves.{next_exprs_write, call_writes, into_writes, move_writes}
use Rattle.cilk_laws.proofs.Spaced.{word_space, mark_space, spaced_mark, parentheses_write, brackets_write}
use Rattle.cilk_laws.proofs.Writes.{Ends, Writes, WritesAlone, weaken, nothing_writes, same_alone, alone_then, both_alone, ended_then}
use Rattle.cilk_laws.proofs.Writes.{ended_alone, sure_mark, mark_then, word_writes, name_writes, number_writes, fixed_name}

pub part_writes : (p : Option tree.Move) → CanWritePart p → Writes (part_text p) (part_lexemes p)
part_writes None h = weaken nothing_writes
part_writes (Some m) h = move_writes m h

-- ---- spawns

-- the child, and what stands behind its call
child_writes : {t : List ℕ} {ls : List Lexeme} (callee : tree.Word) (arguments : List tree.Expr) → IsName callee.text → CanWriteExprs arguments
    → WritesAlone t ls → WritesAlone (codes "spawn " ++ (call_text callee arguments ++ t)) (child_lexemes callee arguments ++ ls)
child_writes callee arguments n h w = both_alone (word_space key.Spawn) (both_alone (call_writes callee arguments n h) w)

pub spawn_writes : (taker : tree.Taker) (callee : tree.Word) (arguments : List tree.Expr) → CanWriteTaker taker → IsName callee.text → CanWriteExprs arguments
    → Writes (spawn_text taker callee arguments) (spawn_lexemes taker (child_lexemes callee arguments))
spawn_writes taker callee arguments k n h = at taker k
  where
    alone : WritesAlone (codes "spawn " ++ (call_text callee arguments ++ [])) (child_lexemes callee arguments)
    alone = same_alone (append-nil (child_lexemes callee arguments)) (child_writes callee arguments n h nothing_writes)

    at : (t : tree.Taker) → CanWriteTaker t → Writes (spawn_text t callee arguments) (spawn_lexemes t (child_lexemes callee arguments))
    at tree.nothing g = weaken alone
    at (tree.into target) g = into_writes target g (weaken alone)
    at (tree.through inlet others) g =
        let end = ended_alone (next_exprs_write others g.1) (λ rest. refl) (sure_mark sign.CloseParenthesis refl) in
        let inside = child_writes callee arguments n h end in
        let opened = ended_alone (name_writes g.0) (λ rest. refl) (sure_mark sign.OpenParenthesis refl) in
        let grouped = ap (λ (l : List Lexeme). name inlet.text ∷ mark sign.OpenParenthesis ∷ l)
        (sym (append_assoc (child_lexemes callee arguments) (next_exprs_lexemes others) (mark sign.CloseParenthesis ∷ []))) in
        weaken (same_alone grouped (both_alone opened inside))

-- ---- `printf` and the calls of locks

printf_writes : Writes (codes "printf") (name (codes "printf") ∷ [])
unfolding named word_in all_words
printf_writes = fixed_name (codes "printf") refl refl

pub print_writes : (format : tree.Literal) (arguments : List tree.Expr) → CanWriteStmt (tree.print format arguments)
    → Writes (print_text format arguments) (name (codes "printf") ∷ in_parentheses (literal format.bytes ∷ next_exprs_lexemes arguments))
print_writes format arguments h =
    let end = ended_alone (next_exprs_write arguments h.1) (λ rest. refl) (sure_mark sign.CloseParenthesis refl) in
    let inside = both_alone (sure_mark sign.OpenParenthesis refl) (both_alone (literal_writes format h.0) end) in
    weaken (ended_alone printf_writes (λ rest. refl) inside)

lock_writes : (action : LockAction) → Writes (lock_word action) (name (lock_word action) ∷ [])
unfolding named word_in all_words
lock_writes locks.Init = fixed_name (codes "Cilk_lock_init") refl refl
lock_writes locks.Lock = fixed_name (codes "Cilk_lock") refl refl
lock_writes locks.Unlock = fixed_name (codes "Cilk_unlock") refl refl

pub locking_writes : (action : LockAction) (x : tree.Word) → IsName x.text
    → Writes (locking_text action x) (name (lock_word action) ∷ in_parentheses (name x.text ∷ []))
locking_writes action x n = weaken (ended_alone (lock_writes action) (λ rest. refl) (parentheses_write (name_writes n)))

-- ---- `return`

pub return_writes : (value : Option tree.Expr) → CanWriteValue value → Writes (return_text value) (word key.Return ∷ value_lexemes value)
return_writes None h = word_writes key.Return
return_writes (Some e) h = alone_then (word_space key.Return) (expr_writes e h)

-- ---- declarations

shape_ends : (s : tree.Shape) → Ends (shape_text s)
shape_ends (tree.variable None) = tt
shape_ends (tree.variable (Some e)) = refl
shape_ends (tree.array n) = refl

shape_writes : (s : tree.Shape) → CanWriteShape s → Writes (shape_text s) (shape_lexemes s)
shape_writes (tree.variable None) h = weaken nothing_writes
shape_writes (tree.variable (Some e)) h = alone_then (spaced_mark sign.Assign) (expr_writes e h)
shape_writes (tree.array n) h = weaken (brackets_write (number_writes (decimal_number n h)))

pub decl_writes : (d : tree.Decl) → IsName d.name.text → CanWriteShape d.shape → Writes (decl_text d) (word key.Int ∷ decl_lexemes d)
decl_writes d n h = alone_then (word_space key.Int) (ended_then (name_writes n) (shape_ends d.shape) (shape_writes d.shape h))

-- ---- parameters

next_names_end : (xs : List tree.Word) → Ends (next_names_text xs)
next_names_end [] = tt
next_names_end (x ∷ xs) = refl

next_names_write : (xs : List tree.Word) → CanWriteWords xs → Writes (next_names_text xs) (next_names_lexemes xs)
next_names_write [] h = weaken nothing_writes
next_names_write (x ∷ xs) h =
    alone_then (both_alone (mark_space sign.Comma) (word_space key.Int)) (ended_then (name_writes h.0) (next_names_end xs) (next_names_write xs h.1))

pub names_write : (xs : List tree.Word) → CanWriteWords xs → Writes (names_text xs) (names_lexemes xs)
names_write [] h = word_writes key.Void
names_write (x ∷ xs) h = alone_then (word_space key.Int) (ended_then (name_writes h.0) (next_names_end xs) (next_names_write xs h.1))

-- ---- labels

-- a minus stands directly before the digits
pub integer_writes : (n : ℤ) → unsigned_abs n ≤ int_max → Writes (signed_decimal n) (integer_lexemes n)
integer_writes (pos n) h = number_writes (decimal_number n h)
integer_writes (negsuc n) h =
    let digits = decimal_number (suc n) h in
    mark_then sign.Minus (λ rest. no_mark_on (decimal (suc n)) rest (number_begins digits)) (number_writes digits)

pub label_writes : (v : Option ℤ) → CanWriteInteger v → WritesAlone (label_text v ++ codes ":") (label_lexemes v)
label_writes None h = ended_alone (word_writes key.Default) (λ rest. refl) (sure_mark sign.Colon refl)
label_writes (Some z) h = both_alone (word_space key.Case) (ended_alone (integer_writes z h) (λ rest. refl) (sure_mark sign.Colon refl))
