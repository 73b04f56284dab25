use Rattle.std.proofs.Common.{◌≡◌, ◌∷◌, [], ◌++◌, codes, string_bytes, ap, sym, ◌∙◌, append-nil}
use Rattle.std.proofs.lemmas.List.{at_drop_all}
use Rattle.cilk_tree_syntax.specs.Tree.{locals_of, stmts_of}
use Rattle.cilk_tree_syntax.specs.Lines.{closed, deeper, text_of}
use Rattle.cilk_tree_syntax.specs.StmtLines.{block_lines, cases_lines, else_lines, inlet_line, locals_lines, stmts_lines, switch_lines, test_line, until_line}
use Rattle.cilk_tree.proofs.Lines.{case_text, cases_round, if_lines, locals_round, stmts_round, text_of-deeper, three_parts, two_parts}
use Rattle.cilk_tree.proofs.Written.{regrouped}
use Rattle.cilk_tree.proofs.stmt.+put_stmt.Goals as goal

pub put_block-loop-local-preserved : goal.put_block-loop-local-preserved
put_block-loop-local-preserved t c =
    let round = locals_round (string_bytes c.loop-local.out) (string_bytes c.in_ok-inner.inner) c.deref-local-items.result.now
    c.loop-local.local-index c.local-item.result c.loop-local-test.true c.local-item.is in
    rw (c.in_ok-put_local.ensures, c.as_str.ensures.value) (sym round ∙ c.loop-local.invariant)

pub put_block-loop-stmt-preserved : goal.put_block-loop-stmt-preserved
put_block-loop-stmt-preserved t c =
    let round = stmts_round (string_bytes c.loop-stmt.out) (string_bytes c.in_ok-inner.inner) c.deref-stmt-items.result.now c.loop-stmt.stmt-index
    c.stmt-item.result c.loop-stmt-test.true c.stmt-item.is in
    rw (c.in_ok-put_stmt.ensures, c.as_str-in-loop-stmt.ensures.value) (sym round ∙ c.loop-stmt.invariant)

pub put_block-returns : goal.put_block-returns
put_block-returns t c =
    let inner = string_bytes c.in_ok-inner.inner in
    let locals = c.deref-local-items.result.now in
    let stmts = c.deref-stmt-items.result.now in
    let first : string_bytes c.loop-local.out ≡ string_bytes c.args.out.now ++ text_of inner (locals_lines (locals_of locals)) =
    sym (append-nil _)
    ∙
    (rw (at_drop_all (λ ls. text_of inner (locals_lines (locals_of ls))) locals c.loop-local.local-index c.loop-local-test.false) at
    c.loop-local.invariant) in
    let second : string_bytes c.loop-stmt.out ≡ string_bytes c.loop-local.out ++ text_of inner (stmts_lines (stmts_of stmts)) =
    sym (append-nil _)
    ∙
    (rw (at_drop_all (λ ss. text_of inner (stmts_lines (stmts_of ss))) stmts c.loop-stmt.stmt-index c.loop-stmt-test.false) at
    c.loop-stmt.invariant) in
    let lines = locals_lines (locals_of locals) ++ stmts_lines (stmts_of stmts) in
    let longer : inner ≡ c.args.indent.now ++ codes "    " = c.in_ok-inner.ensures in
    let whole : lines
    ≡ block_lines c.args.block.now = rw (c.deref-local-items.ensures.value, c.deref-stmt-items.ensures.value)
    (ap block_lines c.block.view_is) in
    let both : text_of inner lines
    ≡ text_of c.args.indent.now (deeper (block_lines c.args.block.now)) = rw (longer, whole)
    (sym (text_of-deeper c.args.indent.now (block_lines c.args.block.now))) in
    second
    ∙ rw first
    (two_parts (string_bytes c.args.out.now) inner (locals_lines (locals_of locals)) (stmts_lines (stmts_of stmts))
    ∙ ap (λ text. string_bytes c.args.out.now ++ text) both)

pub put_body-returns : goal.put_body-returns
put_body-returns t c =
    regrouped c.put_line.result c.put_line.new.out _ _ c.put_line.ensures
    (rw c.in_ok-put_block.ensures (two_parts (string_bytes c.args.out.now) c.args.indent.now (deeper (block_lines c.args.body.now)) (codes "}" ∷ [])))

pub put_do-returns : goal.put_do-returns
put_do-returns t c =
    regrouped c.put_until_line.result c.put_until_line.new.out _ _ c.put_until_line.ensures
    (rw (c.in_ok-put_block.ensures, c.in_ok-put_line.ensures)
    (three_parts (string_bytes c.args.out.now) c.args.indent.now (codes "do {" ∷ []) (deeper (block_lines c.args.body.now))
    (until_line c.args.test.now ∷ [])))

pub put_if-returns : goal.put_if-returns
put_if-returns t c =
    regrouped c.put_else.result c.put_else.new.out _ _ c.put_else.ensures
    (rw (c.in_ok-put_block.ensures, c.in_ok-put_test_line.ensures, if_lines)
    (three_parts (string_bytes c.args.out.now) c.args.indent.now (test_line (codes "if") c.args.test.now ∷ [])
    (deeper (block_lines c.args.body.now)) (else_lines c.args.other.now)))

pub put_inlet-returns : goal.put_inlet-returns
put_inlet-returns t c =
    let inlet = c.args.inlet.now in
    regrouped c.put_body.result c.put_body.new.out _ _ c.put_body.ensures
    (rw (c.in_ok-put_inlet_line.ensures, c.deref.ensures.value)
    (two_parts (string_bytes c.args.out.now) c.args.indent.now (inlet_line inlet.name inlet.parameters.items ∷ [])
    (closed (block_lines inlet.body))))

pub put_switch-returns : goal.put_switch-returns
put_switch-returns t c =
    regrouped c.put_line.result c.put_line.new.out _ _ c.put_line.ensures
    (rw (c.in_ok-put_cases.ensures, c.in_ok-put_test_line.ensures)
    (three_parts (string_bytes c.args.out.now) c.args.indent.now (test_line (codes "switch") c.args.test.now ∷ [])
    (switch_lines c.args.body.now) (codes "}" ∷ [])))

pub put_cases-loop-local-preserved : goal.put_cases-loop-local-preserved
put_cases-loop-local-preserved t c =
    let round = locals_round (string_bytes c.loop-local.out) (string_bytes c.in_ok-inner.inner) c.deref-local-items.result.now
    c.loop-local.local-index c.local-item.result c.loop-local-test.true c.local-item.is in
    rw (c.in_ok-put_local.ensures, c.as_str.ensures.value) (sym round ∙ c.loop-local.invariant)

pub put_cases-loop-stmt-preserved : goal.put_cases-loop-stmt-preserved
put_cases-loop-stmt-preserved t c =
    let round = cases_round (string_bytes c.loop-stmt.out) c.args.indent.now c.deref-stmt-items.result.now c.loop-stmt.stmt-index
    c.stmt-item.result c.loop-stmt-test.true c.stmt-item.is in
    let longer : string_bytes c.in_ok-inner.inner ≡ c.args.indent.now ++ codes "    " = c.in_ok-inner.ensures in
    rw (c.in_ok-put_case.ensures, c.as_str-in-loop-stmt.ensures.value, case_text c.args.indent.now (string_bytes c.in_ok-inner.inner) _ _ longer)
    (sym round ∙ c.loop-stmt.invariant)

pub put_cases-returns : goal.put_cases-returns
put_cases-returns t c =
    let inner = string_bytes c.in_ok-inner.inner in
    let locals = c.deref-local-items.result.now in
    let stmts = c.deref-stmt-items.result.now in
    let first : string_bytes c.loop-local.out ≡ string_bytes c.args.out.now ++ text_of inner (locals_lines (locals_of locals)) =
    sym (append-nil _)
    ∙
    (rw (at_drop_all (λ ls. text_of inner (locals_lines (locals_of ls))) locals c.loop-local.local-index c.loop-local-test.false) at
    c.loop-local.invariant) in
    let second : string_bytes c.loop-stmt.out ≡ string_bytes c.loop-local.out ++ text_of c.args.indent.now (cases_lines (stmts_of stmts)) =
    sym (append-nil _)
    ∙
    (rw (at_drop_all (λ ss. text_of c.args.indent.now (cases_lines (stmts_of ss))) stmts c.loop-stmt.stmt-index c.loop-stmt-test.false) at
    c.loop-stmt.invariant) in
    let longer : inner ≡ c.args.indent.now ++ codes "    " = c.in_ok-inner.ensures in
    let whole : deeper (locals_lines (locals_of locals)) ++ cases_lines (stmts_of stmts)
    ≡ switch_lines c.args.block.now = rw (c.deref-local-items.ensures.value, c.deref-stmt-items.ensures.value)
    (ap switch_lines c.block.view_is) in
    let declared : text_of inner (locals_lines (locals_of locals))
    ≡ text_of c.args.indent.now (deeper (locals_lines (locals_of locals))) = rw longer
    (sym (text_of-deeper c.args.indent.now (locals_lines (locals_of locals)))) in
    second
    ∙ rw (first, declared)
    (two_parts (string_bytes c.args.out.now) c.args.indent.now (deeper (locals_lines (locals_of locals))) (cases_lines (stmts_of stmts))
    ∙ ap (λ lines. string_bytes c.args.out.now ++ text_of c.args.indent.now lines) whole)
