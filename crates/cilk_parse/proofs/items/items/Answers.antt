use Rattle.std.proofs.Common.{[], ◌∷◌, ◌++◌, sym, refl, ap, ◌∙◌}
use Rattle.std.proofs.lemmas.Result.{err_from_is_err_and}
use Rattle.cilk_parse_grammar.proofs.Loops.{onto_nothing}
use Rattle.cilk_parse_grammar.specs.Grammar.{item}
use Rattle.cilk_parse_grammar.specs.Spelling.{nesting_limit}
use Rattle.cilk_parse.proofs.Joined.{joined_last}
use Rattle.cilk_parse.proofs.Loops.{one_shorter, loop_ends, loop_fails, loop_goes}
use Rattle.cilk_parse.proofs.items.items.Goals as goal

pub each-init : goal.each-init
each-init c = ([], sym c.new-items.ensures.items, onto_nothing _)

pub returns-in_err-next : goal.returns-in_err-next
returns-in_err-next c =
    let p = err_from_is_err_and c.from_residual.result c.from_residual.ensures.1 in
    let begins = sym c.begins_item.ensures ∙ c.each-test.true in
    rw (p.1, p.2) (loop_fails nesting_limit item refl c.each.invariant.0 _ _ _ begins c.each.invariant.2 c.in_err-next.ensures)

pub each-smaller : goal.each-smaller
each-smaller c = one_shorter nesting_limit item refl _ _ c.in_ok-next.ensures

pub each-preserved : goal.each-preserved
each-preserved c = (
  c.each.invariant.0 ++ c.in_ok-next.next.items ∷ [],
  joined_last c.each.invariant.0 c.in_ok-next.next.items ∙ ap (λ l. l ++ c.in_ok-next.next.items) c.each.invariant.1 ∙ sym c.in_ok-append.ensures.items,
  loop_goes nesting_limit item refl c.each.invariant.0 _ _ _ _ (sym c.begins_item.ensures ∙ c.each-test.true) c.each.invariant.2 c.in_ok-next.ensures,
)

pub returns : goal.returns
returns c = record {
  parts = c.each.invariant.0;
  reads = loop_ends nesting_limit item refl c.each.invariant.0 _ _ (sym c.begins_item.ensures ∙ c.each-test.false) c.each.invariant.2;
  together = c.each.invariant.1;
}
