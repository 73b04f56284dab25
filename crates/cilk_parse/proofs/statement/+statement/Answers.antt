use Rattle.std.proofs.Common.{[], ◌∷◌, ◌++◌, sym, refl, ap, ◌∙◌, arith}
use Rattle.std.proofs.lemmas.Result.{err_from_is_err_and}
use Rattle.cilk_parse_grammar.proofs.Loops.{onto_nothing}
use Rattle.cilk_parse_grammar.specs.Forms.{statement}
use Rattle.cilk_parse_grammar.specs.Grammar.{labelled, local}
use Rattle.cilk_parse_grammar.specs.Spelling.{read_at}
use Rattle.cilk_parse.proofs.Joined.{joined_last, unbraced_is, statement_is}
use Rattle.cilk_parse.proofs.Loops.{one_shorter, loop_ends, loop_fails, loop_goes}
use Rattle.cilk_parse.proofs.statement.+statement.Goals as goal

pub unbraced-returns : goal.unbraced-returns
unbraced-returns t c =
    rw (unbraced_is c.args.depth _ (omega (arith, c.if-depth-eq0.false)) (sym c.begins_unbraced.ensures ∙ c.if-not-begins_unbraced.false))
    c.no_block.ensures

pub statement-returns : goal.statement-returns
statement-returns t c =
    rw
    (statement_is c.args.depth _ (omega (arith, c.if-depth-eq0.false)) (sym c.begins_statement.ensures ∙ c.if-not-begins_statement.false)
    (sym c.is_mark.ensures ∙ c.if-is_mark.false)) c.no_block.ensures

pub statements-each-init : goal.statements-each-init
statements-each-init t c = rw c.new-stmts.ensures.items (onto_nothing _)

pub statements-returns-in_err-next : goal.statements-returns-in_err-next
unfolding read_at
statements-returns-in_err-next t c =
    let p = err_from_is_err_and c.from_residual.result c.from_residual.ensures.1 in
    rw (p.1, p.2) (loop_fails c.args.depth statement refl _ _ _ _ (sym c.begins_statement.ensures ∙ c.each-test.true) c.each.invariant c.in_err-next.ensures)

pub statements-each-smaller : goal.statements-each-smaller
unfolding read_at
statements-each-smaller t c = one_shorter c.args.depth statement refl _ _ c.in_ok-next.ensures

pub statements-each-preserved : goal.statements-each-preserved
unfolding read_at
statements-each-preserved t c =
    rw c.in_ok-push.ensures.items
    (loop_goes c.args.depth statement refl _ _ _ _ _ (sym c.begins_statement.ensures ∙ c.each-test.true) c.each.invariant
    c.in_ok-next.ensures)

pub statements-returns : goal.statements-returns
statements-returns t c = loop_ends c.args.depth statement refl _ _ _ (sym c.begins_statement.ensures ∙ c.each-test.false) c.each.invariant

pub locals-each-init : goal.locals-each-init
locals-each-init t c = ([], sym c.new-locals.ensures.items, onto_nothing _)

pub locals-returns-in_err-next : goal.locals-returns-in_err-next
locals-returns-in_err-next t c =
    let p = err_from_is_err_and c.from_residual.result c.from_residual.ensures.1 in
    rw (p.1, p.2)
    (loop_fails c.args.depth local refl c.each.invariant.0 _ _ _ (sym c.begins_local.ensures ∙ c.each-test.true) c.each.invariant.2
    c.in_err-next.ensures)

pub locals-each-smaller : goal.locals-each-smaller
locals-each-smaller t c = one_shorter c.args.depth local refl _ _ c.in_ok-next.ensures

pub locals-each-preserved : goal.locals-each-preserved
locals-each-preserved t c = (
  c.each.invariant.0 ++ c.in_ok-next.next.items ∷ [],
  joined_last c.each.invariant.0 c.in_ok-next.next.items ∙ ap (λ l. l ++ c.in_ok-next.next.items) c.each.invariant.1 ∙ sym c.in_ok-append.ensures.items,
  loop_goes c.args.depth local refl c.each.invariant.0 _ _ _ _ (sym c.begins_local.ensures ∙ c.each-test.true) c.each.invariant.2 c.in_ok-next.ensures,
)

pub locals-returns : goal.locals-returns
locals-returns t c = record {
  parts = c.each.invariant.0;
  reads = loop_ends c.args.depth local refl c.each.invariant.0 _ _ (sym c.begins_local.ensures ∙ c.each-test.false) c.each.invariant.2;
  together = c.each.invariant.1;
}

pub all_labelled-each-init : goal.all_labelled-each-init
all_labelled-each-init t c = ([], sym c.new-stmts.ensures.items, onto_nothing _)

pub all_labelled-returns-in_err-next : goal.all_labelled-returns-in_err-next
all_labelled-returns-in_err-next t c =
    let p = err_from_is_err_and c.from_residual.result c.from_residual.ensures.1 in
    rw (p.1, p.2)
    (loop_fails c.args.depth labelled refl c.each.invariant.0 _ _ _ (sym c.begins_labelled.ensures ∙ c.each-test.true) c.each.invariant.2
    c.in_err-next.ensures)

pub all_labelled-each-smaller : goal.all_labelled-each-smaller
all_labelled-each-smaller t c = one_shorter c.args.depth labelled refl _ _ c.in_ok-next.ensures

pub all_labelled-each-preserved : goal.all_labelled-each-preserved
all_labelled-each-preserved t c = (
  c.each.invariant.0 ++ c.in_ok-next.next.items ∷ [],
  joined_last c.each.invariant.0 c.in_ok-next.next.items ∙ ap (λ l. l ++ c.in_ok-next.next.items) c.each.invariant.1 ∙ sym c.in_ok-append.ensures.items,
  loop_goes c.args.depth labelled refl c.each.invariant.0 _ _ _ _ (sym c.begins_labelled.ensures ∙ c.each-test.true) c.each.invariant.2 c.in_ok-next.ensures,
)

pub all_labelled-returns : goal.all_labelled-returns
all_labelled-returns t c = record {
  parts = c.each.invariant.0;
  reads = loop_ends c.args.depth labelled refl c.each.invariant.0 _ _ (sym c.begins_labelled.ensures ∙ c.each-test.false) c.each.invariant.2;
  together = c.each.invariant.1;
}
