-- A block has as many lines as that of a `switch` as it has as any other.
use Rattle.std.proofs.Common.{◌≡◌, ℕ, ◌+◌, Bool, true, false, List, length, refl, ◌∙◌, sym, length-append}
use Rattle.std.proofs.lemmas.List.{length-map}
use Rattle.cilk_tree_syntax.specs.Tree.{Stmts, none, also, Block, block}
use Rattle.cilk_tree_syntax.specs.Lines.{one_deeper, deeper}
use Rattle.cilk_tree_syntax.specs.StmtLines.{is_label, set_in, stmt_lines, stmts_lines, locals_lines, block_lines, cases_lines, switch_lines}

deeper-length : (lines : List (List ℕ)) → length (deeper lines) ≡ length lines
deeper-length lines = length-map lines one_deeper

set_in-length : (b : Bool) (lines : List (List ℕ)) → length (set_in b lines) ≡ length lines
set_in-length true lines = refl
set_in-length false lines = deeper-length lines

pub cases_lines-length : (ss : Stmts) → length (cases_lines ss) ≡ length (stmts_lines ss)
cases_lines-length none = refl
cases_lines-length (also first others) =
    length-append (set_in (is_label first) (stmt_lines first)) (cases_lines others)
    ∙ (λ i. set_in-length (is_label first) (stmt_lines first) i + cases_lines-length others i)
    ∙ sym (length-append (stmt_lines first) (stmts_lines others))

pub switch_lines-length : (b : Block) → length (switch_lines b) ≡ length (block_lines b)
switch_lines-length (block locals stmts) =
    length-append (deeper (locals_lines locals)) (cases_lines stmts)
    ∙ (λ i. deeper-length (locals_lines locals) i + cases_lines-length stmts i)
    ∙ sym (length-append (locals_lines locals) (stmts_lines stmts))
