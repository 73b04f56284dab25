use Rattle.std.proofs.Common.{◌≡◌, ◌+◌, Some, arith, sym, ap, ◌∙◌, length}
use Rattle.std.proofs.lemmas.Result.{err_from_is_err_and}
use Rattle.cilk_parse_grammar.proofs.Loop.{none_from, operand_fails, operand_read, infix_low, ends_here, stops_here, full_here, choice_here}
use Rattle.cilk_parse_grammar.proofs.Loop.{operator_fails, operator_goes, subscript_open}
use Rattle.cilk_tree_syntax.specs.lexeme.declared.mark.Mark.TheVariants.{OpenBracket}
use Rattle.cilk_parse_grammar.specs.Classes.{a_mark}
use Rattle.cilk_parse_grammar.specs.declared.operator.Infix.{Infix}
use Rattle.cilk_parse_grammar.specs.declared.operator.Infix.TheVariants.{Two, Choice}
use Rattle.cilk_parse_grammar.specs.Front.{ParserState, infix_at}
use Rattle.cilk_parse_grammar.proofs.Steps.{left_of, operand_shorter, colon_shorter}
use Rattle.cilk_parse_grammar.proofs.Tools.{infix_shorter, name_shorter, class_some}
use Rattle.cilk_parse_grammar.proofs.reading.+expr.Goals as goal

pub expr-returns-in_err-left : goal.expr-returns-in_err-left
expr-returns-in_err-left t c =
    let p = err_from_is_err_and c.from_residual.result c.from_residual.ensures.1 in
    rw (p.1, p.2) (operand_fails _ _ _ c.args.lowest _ _ c.in_err-left.ensures)

pub expr-each-init : goal.expr-each-init
expr-each-init t c = record { same = operand_read _ _ _ _ _ _ _ _ c.in_ok-left.ensures; shorter = operand_shorter _ _ _ _ _ c.in_ok-left.ensures }

pub expr-returns-then-level-lowest : goal.expr-returns-then-level-lowest
expr-returns-then-level-lowest t c =
    stops_here _ _ _ _ _ _ _ c.each.invariant.same c.in-Some.level c.in-Some.next (sym c.in-Some.ensures) (omega (arith, c.if-level-lowest.true))

pub expr-returns-then-operators-ge-OPERATOR_LIMIT : goal.expr-returns-then-operators-ge-OPERATOR_LIMIT
expr-returns-then-operators-ge-OPERATOR_LIMIT t c =
    rw c.too_deep.ensures
    (full_here _ _ _ _ _ _ _ c.each.invariant.same c.in-Some.level c.in-Some.next (sym c.in-Some.ensures)
    (omega (arith, c.if-level-lowest.false)) (omega (arith, c.if-operators-ge-OPERATOR_LIMIT.true, c.operators.ensures)))

pub expr-overflow_add-level : goal.expr-overflow_add-level
expr-overflow_add-level t c = let low = infix_low c.each.cursor.pieces c.in-Some.level c.in-Some.next (sym c.in-Some.ensures) in omega (arith, low)

pub expr-expr-requires : goal.expr-expr-requires
expr-expr-requires t c =
    let low = infix_low c.each.cursor.pieces c.in-Some.level c.in-Some.next (sym c.in-Some.ensures) in
    let less = infix_shorter c.each.cursor.pieces c.in-Some.level c.in-Some.next (sym c.in-Some.ensures) in
    (omega (arith, ap (λ (s : ParserState). length s.pieces) c.take_operator.ensures, less, c.each.invariant.shorter), omega (arith, low))

pub expr-returns-in_err-right : goal.expr-returns-in_err-right
expr-returns-in_err-right t c =
    let p = err_from_is_err_and c.from_residual-in_err-right.result c.from_residual-in_err-right.ensures.1 in
    let at : infix_at c.each.cursor.pieces ≡ Some (c.in-Some.level, Two c.in-Two.operator) = sym c.in-Some.ensures
    ∙ ap (λ (w : Infix). Some (c.in-Some.level, w)) c.in-Two.is in
    rw (p.1, p.2)
    (operator_fails _ _ _ _ _ _ _ c.each.invariant.same c.in-Some.level _ c.in-Two.operator _ _ at (omega (arith, c.if-level-lowest.false))
    (omega (arith, c.if-operators-ge-OPERATOR_LIMIT.false, c.operators.ensures)) (omega arith) (omega arith)
    (rw c.take_operator.ensures at c.in_err-right.ensures))

pub expr-each-smaller : goal.expr-each-smaller
expr-each-smaller t c =
    let r = rw c.take_operator.ensures at c.in_ok-right.ensures in
    omega (arith, left_of _ _ _ _ _ _ r, infix_shorter c.each.cursor.pieces c.in-Some.level c.in-Some.next (sym c.in-Some.ensures))

pub expr-each-preserved : goal.expr-each-preserved
expr-each-preserved t c =
    let r = rw c.take_operator.ensures at c.in_ok-right.ensures in
    let at : infix_at c.each.cursor.pieces ≡ Some (c.in-Some.level, Two c.in-Two.operator) = sym c.in-Some.ensures
    ∙ ap (λ (w : Infix). Some (c.in-Some.level, w)) c.in-Two.is in
    record {
      same =
          rw c.in_ok-left-2.ensures
          (operator_goes _ _ _ _ _ _ _ c.each.invariant.same c.in-Some.level _ c.in-Two.operator _ _ _ _ at
          (omega (arith, c.if-level-lowest.false))
          (omega (arith, c.if-operators-ge-OPERATOR_LIMIT.false, c.operators.ensures)) (omega arith) (omega arith) r);
      shorter =
          omega (
            arith,
            left_of _ _ _ _ _ _ r,
            infix_shorter c.each.cursor.pieces c.in-Some.level c.in-Some.next (sym c.in-Some.ensures),
            c.each.invariant.shorter,
          );
    }

pub expr-returns : goal.expr-returns
expr-returns t c = ends_here _ _ _ _ _ _ _ c.each.invariant.same (none_from _ (λ x e. c.in_default.not-Some x (c.infix.ensures ∙ e)))

pub choice-expr-requires-2 : goal.choice-expr-requires-2
choice-expr-requires-2 t c = (
  omega (arith, left_of _ _ _ _ _ _ c.in_ok-first.ensures, colon_shorter c.expr.new.cursor.pieces _ c.in_ok-mark.ensures.gives),
  omega
      arith,
)

pub expr-returns-in_default-next : goal.expr-returns-in_default-next
expr-returns-in_default-next t c =
    let at : infix_at c.each.cursor.pieces ≡ Some (c.in-Some.level, Choice) = sym c.in-Some.ensures
    ∙ ap (λ (w : Infix). Some (c.in-Some.level, w)) c.in_default-next.is in
    rw
    (← choice_here _ _ _ _ _ _ _ c.each.invariant.same c.in-Some.level (c.each.cursor.operators + 1) at
    (omega (arith, c.if-level-lowest.false)) (omega (arith, c.if-operators-ge-OPERATOR_LIMIT.false, c.operators.ensures)) (omega arith))
    (rw c.take_operator.ensures at c.choice.ensures)

pub named-subscripted-requires : goal.named-subscripted-requires
named-subscripted-requires t c = (
  omega (arith, name_shorter _ _ c.in_ok-name.ensures.gives),
  class_some (a_mark OpenBracket) c.name.new.self.pieces
      (sym c.is_mark.ensures ∙ c.if-is_mark.true),
)

pub subscripted-returns-in_err-mark : goal.subscripted-returns-in_err-mark
subscripted-returns-in_err-mark t c =
    let p = err_from_is_err_and c.from_residual-in_err-mark.result c.from_residual-in_err-mark.ensures.1 in
    let r = rw c.take_operator.ensures at c.in_ok-index.ensures in
    rw (p.1, p.2)
    (subscript_open _ _ _ _ _ _ _ _ c.expr.new.cursor.pieces _ (omega (arith, c.if-operators-ge-OPERATOR_LIMIT.false, c.operators.ensures))
    (omega arith) r c.in_err-mark.ensures.gives)
