-- The lines of statements and blocks write their lexemes.
use Rattle.std.proofs.Common.{◌≡◌, ℕ, Bool, true, false, List, [], ◌∷◌, ◌++◌, Option, refl, codes, append_assoc, ap}
use Rattle.cilk_check.specs.lexeme.declared.keyword.Keyword.{Keyword}
use Rattle.cilk_check.specs.lexeme.declared.keyword.Keyword.TheVariants as key
use Rattle.cilk_check.specs.lexeme.declared.mark.Mark.TheVariants as sign
use Rattle.cilk_check.specs.lexeme.Lexeme.{Lexeme, word, name, mark}
use Rattle.cilk_check.specs.lexeme.Spelling.{spelling, IsName}
use Rattle.cilk_check.specs.syntax.Tree as tree
use Rattle.cilk_tree.specs.syntax.StmtLines.{test_line, until_line, for_line, inlet_line, stmt_lines, stmts_lines, local_lines, locals_lines, block_lines}
use Rattle.cilk_tree.specs.syntax.StmtLines.{is_label, set_in, cases_lines, switch_lines}
use Rattle.cilk_laws.specs.ExprLexemes.{in_parentheses, expr_lexemes}
use Rattle.cilk_laws.specs.StmtLexemes.{ended, part_lexemes, names_lexemes, stmt_lexemes, stmts_lexemes, local_lexemes, locals_lexemes, block_lexemes}
use Rattle.cilk_laws.specs.CanWrite.{CanWriteExpr, CanWritePart, CanWriteWords, CanWriteStmt, CanWriteStmts, CanWriteLocal, CanWriteLocals}
use Rattle.cilk_laws.specs.CanWrite.{CanWriteBlock}
use Rattle.cilk_laws.proofs.Exprs.{expr_writes}
use Rattle.cilk_laws.proofs.Lines.{LinesWrite, no_lines, first_line, same_lines, one_line, ended_line, more_lines, deeper_lines, closed_lines}
use Rattle.cilk_laws.proofs.Moves.{move_writes}
use Rattle.cilk_laws.proofs.Simple.{part_writes, spawn_writes, print_writes, locking_writes, return_writes, decl_writes, names_write}
use Rattle.cilk_laws.proofs.Simple.{label_writes}
use Rattle.cilk_laws.proofs.Spaced.{space_writes, word_space, mark_space, then_brace}
use Rattle.cilk_laws.proofs.Writes.{WritesAlone, weaken, nothing_writes, same_alone, both_alone, ended_alone, sure_mark, word_writes, name_writes}

-- the lexemes between the braces of a block
abbrev pub inner : tree.Block → List Lexeme
inner (tree.block xs ss) = locals_lexemes xs ++ stmts_lexemes ss

-- ---- the lines that open bodies

abbrev pub to_brace : List Lexeme → List Lexeme
to_brace ls = ls ++ mark sign.CloseParenthesis ∷ mark sign.OpenBrace ∷ []

test_writes : (k : Keyword) (e : tree.Expr) → CanWriteExpr e
    → WritesAlone (test_line (spelling k) e) (word k ∷ mark sign.OpenParenthesis ∷ to_brace (expr_lexemes e))
test_writes k e h =
    ended_alone (word_writes k) (λ rest. refl)
    (both_alone space_writes (both_alone (sure_mark sign.OpenParenthesis refl) (ended_alone (expr_writes e h) (λ rest. refl) then_brace)))

for_writes : (first : Option tree.Move) (e : tree.Expr) (advance : Option tree.Move) → CanWritePart first → CanWriteExpr e → CanWritePart advance
    → WritesAlone (for_line first e advance)
    (word key.For ∷ mark sign.OpenParenthesis ∷ (part_lexemes first ++ mark sign.Semicolon
    ∷ (expr_lexemes e ++ mark sign.Semicolon ∷ to_brace (part_lexemes advance))))
for_writes first e advance h i j =
    let last = both_alone (mark_space sign.Semicolon) (ended_alone (part_writes advance j) (λ rest. refl) then_brace) in
    let inside = ended_alone (part_writes first h) (λ rest. refl)
    (both_alone (mark_space sign.Semicolon) (ended_alone (expr_writes e i) (λ rest. refl) last)) in
    both_alone (both_alone (word_space key.For) (sure_mark sign.OpenParenthesis refl)) inside

inlet_writes : (x : tree.Word) (xs : List tree.Word) → IsName x.text → CanWriteWords xs
    → WritesAlone (inlet_line x xs) (word key.Inlet ∷ word key.Void ∷ name x.text ∷ mark sign.OpenParenthesis ∷ to_brace (names_lexemes xs))
inlet_writes x xs n h =
    let inside = both_alone (sure_mark sign.OpenParenthesis refl) (ended_alone (names_write xs h) (λ rest. refl) then_brace) in
    both_alone (both_alone (word_space key.Inlet) (word_space key.Void)) (ended_alone (name_writes n) (λ rest. refl) inside)

do_writes : WritesAlone (codes "do {") (word key.Do ∷ mark sign.OpenBrace ∷ [])
do_writes = both_alone (word_space key.Do) (sure_mark sign.OpenBrace refl)

else_writes : WritesAlone (codes "} else {") (mark sign.CloseBrace ∷ word key.Else ∷ mark sign.OpenBrace ∷ [])
else_writes = both_alone (sure_mark sign.CloseBrace refl) (both_alone space_writes (both_alone (word_space key.Else) (sure_mark sign.OpenBrace refl)))

until_writes : (e : tree.Expr) → CanWriteExpr e → WritesAlone (until_line e) (mark sign.CloseBrace ∷ word key.While ∷ ended (in_parentheses (expr_lexemes e)))
until_writes e h =
    let end = both_alone (sure_mark sign.CloseParenthesis refl) (sure_mark sign.Semicolon refl) in
    let test = both_alone (both_alone (word_space key.While) (sure_mark sign.OpenParenthesis refl)) (ended_alone (expr_writes e h) (λ rest. refl) end) in
    let grouped : mark sign.CloseBrace ∷ word key.While ∷ mark sign.OpenParenthesis
    ∷ (expr_lexemes e ++ mark sign.CloseParenthesis ∷ mark sign.Semicolon ∷ []) ≡ mark sign.CloseBrace ∷ word key.While
    ∷ ended (in_parentheses (expr_lexemes e)) = simp append_assoc in
    same_alone grouped (both_alone (sure_mark sign.CloseBrace refl) (both_alone space_writes test))

-- ---- the lexemes of lines and of their statement

-- a body behind a parenthesis
pub opened : (ls : List Lexeme) (b : tree.Block)
    → to_brace ls ++ (inner b ++ mark sign.CloseBrace ∷ []) ≡ (ls ++ mark sign.CloseParenthesis ∷ []) ++ block_lexemes b
opened ls (tree.block xs ss) = simp append_assoc

two_bodies : (ls : List Lexeme) (b o : tree.Block)
    → to_brace ls ++ (inner b ++ mark sign.CloseBrace ∷ word key.Else ∷ mark sign.OpenBrace ∷ (inner o ++ mark sign.CloseBrace ∷ []))
    ≡ (ls ++ mark sign.CloseParenthesis ∷ []) ++ (block_lexemes b ++ word key.Else ∷ block_lexemes o)
two_bodies ls (tree.block xs ss) (tree.block ys us) = simp append_assoc

repeated : (b : tree.Block) (ls : List Lexeme) → mark sign.OpenBrace ∷ (inner b ++ mark sign.CloseBrace ∷ ls) ≡ block_lexemes b ++ ls
repeated (tree.block xs ss) ls = simp append_assoc

looped : (fs es ls : List Lexeme) (b : tree.Block)
    → (fs ++ mark sign.Semicolon ∷ (es ++ mark sign.Semicolon ∷ to_brace ls)) ++ (inner b ++ mark sign.CloseBrace ∷ []) ≡ ended fs
    ++ (ended es ++ ((ls ++ mark sign.CloseParenthesis ∷ []) ++ block_lexemes b))
looped fs es ls (tree.block xs ss) = simp append_assoc

-- ---- statements

-- the lines of a label, or of another statement one level in
set_in_lines : (b : Bool) {lines : List (List ℕ)} {ls : List Lexeme} → LinesWrite lines ls → LinesWrite (set_in b lines) ls
set_in_lines true w = w
set_in_lines false w = deeper_lines w

mutual
  pub stmt_writes : (s : tree.Stmt) → CanWriteStmt s → LinesWrite (stmt_lines s) (stmt_lexemes s)
  stmt_writes (tree.move m) h = ended_line (move_writes m h)
  stmt_writes (tree.spawn_at at taker callee arguments) h = ended_line (spawn_writes taker callee arguments h.0 h.1 h.2)
  stmt_writes (tree.print format arguments) h = ended_line (print_writes format arguments h)
  stmt_writes (tree.locking action x) h = ended_line (locking_writes action x h)
  stmt_writes tree.null h = ended_line (weaken nothing_writes)
  stmt_writes (tree.sync_at at) h = ended_line (word_writes key.Sync)
  stmt_writes (tree.abort_at at) h = ended_line (word_writes key.Abort)
  stmt_writes (tree.break_at at) h = ended_line (word_writes key.Break)
  stmt_writes (tree.continue_at at) h = ended_line (word_writes key.Continue)
  stmt_writes (tree.return_at at value) h = ended_line (return_writes value h)
  stmt_writes (tree.when e b) h =
      same_lines (ap (λ (l : List Lexeme). word key.If ∷ mark sign.OpenParenthesis ∷ l) (opened (expr_lexemes e) b))
      (first_line (test_writes key.If e h.0) (closed_lines (block_writes b h.1)))
  stmt_writes (tree.either e b o) h =
      same_lines (ap (λ (l : List Lexeme). word key.If ∷ mark sign.OpenParenthesis ∷ l) (two_bodies (expr_lexemes e) b o))
      (first_line (test_writes key.If e h.0) (more_lines (deeper_lines (block_writes b h.1)) (first_line else_writes (closed_lines (block_writes o h.2)))))
  stmt_writes (tree.while e b) h =
      same_lines (ap (λ (l : List Lexeme). word key.While ∷ mark sign.OpenParenthesis ∷ l) (opened (expr_lexemes e) b))
      (first_line (test_writes key.While e h.0) (closed_lines (block_writes b h.1)))
  stmt_writes (tree.repeat b e) h =
      same_lines (ap (λ (l : List Lexeme). word key.Do ∷ l) (repeated b (word key.While ∷ ended (in_parentheses (expr_lexemes e)))))
      (first_line do_writes (more_lines (deeper_lines (block_writes b h.0)) (one_line (until_writes e h.1))))
  stmt_writes (tree.loop first e advance b) h =
      same_lines
      (ap (λ (l : List Lexeme). word key.For ∷ mark sign.OpenParenthesis ∷ l)
      (looped (part_lexemes first) (expr_lexemes e) (part_lexemes advance) b))
      (first_line (for_writes first e advance h.0 h.1 h.2) (closed_lines (block_writes b h.3)))
  stmt_writes (tree.switch e b) h =
      same_lines (ap (λ (l : List Lexeme). word key.Switch ∷ mark sign.OpenParenthesis ∷ l) (opened (expr_lexemes e) b))
      (first_line (test_writes key.Switch e h.0) (more_lines (switch_writes b h.1) (one_line (sure_mark sign.CloseBrace refl))))
  stmt_writes (tree.labelled l) h = one_line (label_writes l.value h)
  stmt_writes (tree.nested (tree.block xs ss)) h = first_line (sure_mark sign.OpenBrace refl) (closed_lines (block_writes (tree.block xs ss) h))

  pub stmts_write : (ss : tree.Stmts) → CanWriteStmts ss → LinesWrite (stmts_lines ss) (stmts_lexemes ss)
  stmts_write tree.none h = no_lines
  stmts_write (tree.also s ss) h = more_lines (stmt_writes s h.0) (stmts_write ss h.1)

  pub local_writes : (x : tree.Local) → CanWriteLocal x → LinesWrite (local_lines x) (local_lexemes x)
  local_writes (tree.declared d) h = ended_line (decl_writes d h.0 h.1)
  local_writes (tree.inlet_at at x parameters b) h =
      same_lines (ap (λ (l : List Lexeme). word key.Inlet ∷ word key.Void ∷ name x.text ∷ mark sign.OpenParenthesis ∷ l) (opened (names_lexemes parameters) b))
      (first_line (inlet_writes x parameters h.0 h.1) (closed_lines (block_writes b h.2)))

  pub locals_write : (xs : tree.Locals) → CanWriteLocals xs → LinesWrite (locals_lines xs) (locals_lexemes xs)
  locals_write tree.no_locals h = no_lines
  locals_write (tree.and_local x xs) h = more_lines (local_writes x h.0) (locals_write xs h.1)

  -- the lines between the braces
  pub block_writes : (b : tree.Block) → CanWriteBlock b → LinesWrite (block_lines b) (inner b)
  block_writes (tree.block xs ss) h = more_lines (locals_write xs h.0) (stmts_write ss h.1)

  -- the statements in the block of a `switch`
  pub cases_write : (ss : tree.Stmts) → CanWriteStmts ss → LinesWrite (cases_lines ss) (stmts_lexemes ss)
  cases_write tree.none h = no_lines
  cases_write (tree.also s ss) h = more_lines (set_in_lines (is_label s) (stmt_writes s h.0)) (cases_write ss h.1)

  pub switch_writes : (b : tree.Block) → CanWriteBlock b → LinesWrite (switch_lines b) (inner b)
  switch_writes (tree.block xs ss) h = more_lines (deeper_lines (locals_write xs h.0)) (cases_write ss h.1)
