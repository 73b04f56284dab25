use Rattle.std.proofs.Common.{sym, refl, ◌∙◌}
use Rattle.std.proofs.lemmas.Result.{err_from_is_err_and}
use Rattle.cilk_parse_grammar.proofs.Loops.{onto_nothing}
use Rattle.cilk_parse_grammar.specs.Grammar.{label}
use Rattle.cilk_parse.proofs.Loops.{one_shorter, loop_ends, loop_fails, loop_goes}
use Rattle.cilk_parse.proofs.label.labels.Goals as goal

pub each-init : goal.each-init
each-init c = rw c.new-stmts.ensures.items (onto_nothing _)

pub returns-in_err-next : goal.returns-in_err-next
returns-in_err-next c =
    let p = err_from_is_err_and c.from_residual.result c.from_residual.ensures.1 in
    rw (p.1, p.2) (loop_fails 0 label refl _ _ _ _ (sym c.begins_label.ensures ∙ c.each-test.true) c.each.invariant c.in_err-next.ensures)

pub each-smaller : goal.each-smaller
each-smaller c = one_shorter 0 label refl _ _ c.in_ok-next.ensures

pub each-preserved : goal.each-preserved
each-preserved c =
    rw c.in_ok-push.ensures.items
    (loop_goes 0 label refl _ _ _ _ _ (sym c.begins_label.ensures ∙ c.each-test.true) c.each.invariant c.in_ok-next.ensures)

pub returns : goal.returns
returns c = loop_ends 0 label refl _ _ _ (sym c.begins_label.ensures ∙ c.each-test.false) c.each.invariant
