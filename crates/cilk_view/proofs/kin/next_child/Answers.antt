use Rattle.std.proofs.Common.{◌+◌, ◌∙◌, sym, subst}
use Rattle.cilk_view.specs.Kin.{NextChild}
use Rattle.cilk_view.proofs.Kins.{Found, found_by, child_found, other_found, none_found}
use Rattle.cilk_view.proofs.kin.next_child.Goals as goal

pub returns-in-None-clause-none : goal.returns-in-None-clause-none
returns-in-None-clause-none c = λ _ ns order.
    none_found ns c.args.kin.now order c.args.at c.args.after c.search_end-place.result
    (subst (λ n. Found c.args.kin.now (n, (c.args.after + 1, 0)) c.search_end-place.result) c.number.ensures
    (subst (Found c.args.kin.now (c.number.result, (c.args.after + 1, 0))) (sym c.search_end-place.ensures)
    (found_by c.args.kin.now (c.number.result, (c.args.after + 1, 0)) c.binary_search.result order.sorted c.binary_search.ensures.bound
    c.binary_search.ensures.position))) c.in-None.ensures.lookup.3

pub returns-then-one-number-clause-some : goal.returns-then-one-number-clause-some
returns-then-one-number-clause-some c = λ ns order.
    let there = c.in-Some.ensures.lookup.3 in
    subst (NextChild ns c.args.at c.args.after) (sym c.new.ensures)
    (child_found ns c.args.kin.now order c.args.at c.args.after c.search_end-place.result
    (subst (λ n. Found c.args.kin.now (n, (c.args.after + 1, 0)) c.search_end-place.result) c.number.ensures
    (subst (Found c.args.kin.now (c.number.result, (c.args.after + 1, 0))) (sym c.search_end-place.ensures)
    (found_by c.args.kin.now (c.number.result, (c.args.after + 1, 0)) c.binary_search.result order.sorted c.binary_search.ensures.bound
    c.binary_search.ensures.position))) c.in-Some.one.now there.0 there.1 (c.if-one-number.true ∙ c.number-in-Some.ensures))

pub returns-else-one-number-clause-none : goal.returns-else-one-number-clause-none
returns-else-one-number-clause-none c = λ _ ns order.
    let there = c.in-Some.ensures.lookup.3 in
    other_found ns c.args.kin.now order c.args.at c.args.after c.search_end-place.result
    (subst (λ n. Found c.args.kin.now (n, (c.args.after + 1, 0)) c.search_end-place.result) c.number.ensures
    (subst (Found c.args.kin.now (c.number.result, (c.args.after + 1, 0))) (sym c.search_end-place.ensures)
    (found_by c.args.kin.now (c.number.result, (c.args.after + 1, 0)) c.binary_search.result order.sorted c.binary_search.ensures.bound
    c.binary_search.ensures.position))) c.in-Some.one.now there.0 there.1 (λ same. c.if-one-number.false (same ∙ sym c.number-in-Some.ensures))
