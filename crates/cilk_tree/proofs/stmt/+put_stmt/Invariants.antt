use Rattle.std.proofs.Common.{◌≡◌, ◌++◌, ◌+◌, ◌*◌, string_bytes, drop}
use Rattle.cilk_tree_syntax.specs.Tree.{locals_of, stmts_of}
use Rattle.cilk_tree_syntax.specs.StmtSize.{block_size, local_size, stmt_size}
use Rattle.cilk_tree_syntax.specs.Lines.{text_of}
use Rattle.cilk_tree_syntax.specs.StmtLines.{cases_lines, locals_lines, stmts_lines}
use Rattle.cilk_tree.proofs.Sizes.{option_size}
use Rattle.cilk_tree.proofs.stmt.+put_stmt.Given as goal

abbrev pub decreases-put_block : goal.decreases-put_block
decreases-put_block l = 6 * block_size l.block.now

abbrev pub decreases-put_body : goal.decreases-put_body
decreases-put_body l = 6 * block_size l.body.now + 1

abbrev pub decreases-put_else : goal.decreases-put_else
decreases-put_else l = 6 * option_size l.other.now + 2

abbrev pub decreases-put_while : goal.decreases-put_while
decreases-put_while l = 6 * block_size l.body.now + 2

abbrev pub decreases-put_do : goal.decreases-put_do
decreases-put_do l = 6 * block_size l.body.now + 2

abbrev pub decreases-put_cases : goal.decreases-put_cases
decreases-put_cases l = 6 * block_size l.block.now

abbrev pub decreases-put_case : goal.decreases-put_case
decreases-put_case l = 6 * stmt_size l.stmt.now + 5

abbrev pub decreases-put_switch : goal.decreases-put_switch
decreases-put_switch l = 6 * block_size l.body.now + 2

abbrev pub decreases-put_nested : goal.decreases-put_nested
decreases-put_nested l = 6 * block_size l.inside.now + 2

abbrev pub decreases-put_inlet : goal.decreases-put_inlet
decreases-put_inlet l = 6 * block_size l.inlet.now.body + 2

abbrev pub decreases-put_if : goal.decreases-put_if
decreases-put_if l = 6 * (block_size l.body.now + option_size l.other.now) + 3

abbrev pub decreases-put_stmt : goal.decreases-put_stmt
decreases-put_stmt l = 6 * stmt_size l.stmt.now + 4

abbrev pub decreases-put_local : goal.decreases-put_local
decreases-put_local l = 6 * local_size l.local.now + 4

abbrev pub invariant-put_block-loop-local : goal.invariant-put_block-loop-local
invariant-put_block-loop-local l =
    string_bytes l.out ++ text_of (string_bytes l.inner) (locals_lines (locals_of (drop l.local-index l.local-items)))
    ≡ string_bytes l.initial.out ++ text_of (string_bytes l.inner) (locals_lines (locals_of l.local-items))

abbrev pub invariant-put_block-loop-stmt : goal.invariant-put_block-loop-stmt
invariant-put_block-loop-stmt l =
    string_bytes l.out ++ text_of (string_bytes l.inner) (stmts_lines (stmts_of (drop l.stmt-index l.stmt-items)))
    ≡ string_bytes l.initial.out ++ text_of (string_bytes l.inner) (stmts_lines (stmts_of l.stmt-items))

abbrev pub invariant-put_cases-loop-local : goal.invariant-put_cases-loop-local
invariant-put_cases-loop-local l =
    string_bytes l.out ++ text_of (string_bytes l.inner) (locals_lines (locals_of (drop l.local-index l.local-items)))
    ≡ string_bytes l.initial.out ++ text_of (string_bytes l.inner) (locals_lines (locals_of l.local-items))

abbrev pub invariant-put_cases-loop-stmt : goal.invariant-put_cases-loop-stmt
invariant-put_cases-loop-stmt l =
    string_bytes l.out ++ text_of l.indent (cases_lines (stmts_of (drop l.stmt-index l.stmt-items)))
    ≡ string_bytes l.initial.out ++ text_of l.indent (cases_lines (stmts_of l.stmt-items))
