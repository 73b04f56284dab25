use Rattle.std.proofs.Common.{inl, sym, ap, ◌∙◌, arith}
use Rattle.std.proofs.lemmas.List.{length-take-le}
use Rattle.std.proofs.lemmas.Result.{err_from_is_err_and}
use Rattle.std.proofs.lemmas.Bool.Decides.{nat_tests}
use Rattle.cilk_lex.proofs.Unique.{one_reading, never_both, one_fault}
use Rattle.cilk_lex.proofs.Loop.{found_there, fault_there, found_cut, takes_some, behind, all_read}
use Rattle.cilk_lex.proofs.Refusals.{refused, another_fault}
use Rattle.cilk_lex.proofs.reading.tokens.Goals as goal
use Rattle.cilk_lex.proofs.reading.tokens.Goals.{in-Some+in_ok-push, in_default}

pub returns-in_err-front-clause-too_long : goal.returns-in_err-front-clause-too_long
returns-in_err-front-clause-too_long c =
    let p = err_from_is_err_and c.from_residual.result c.from_residual.ensures.1 in
    let f = fault_there c.loop-rest.fresh c.loop-rest.start c.loop-rest.rest.now _ c.in_err-front.ensures in
    rw (p.1, p.2) (another_fault c.args.text.now _ c.if-text-gt-TEXT_LIMIT.false (c.loop-rest.invariant.1.faulty _ f))

pub returns-in_err-front-clause-refused : goal.returns-in_err-front-clause-refused
returns-in_err-front-clause-refused c =
    let p = err_from_is_err_and c.from_residual.result c.from_residual.ensures.1 in
    let f = fault_there c.loop-rest.fresh c.loop-rest.start c.loop-rest.rest.now _ c.in_err-front.ensures in
    rw (p.1, p.2) (refused c.args.text.now _ c.if-text-gt-TEXT_LIMIT.false (c.loop-rest.invariant.1.faulty _ f))

pub returns-in_err-front-clause-every_text : goal.returns-in_err-front-clause-every_text
returns-in_err-front-clause-every_text c = λ l ps h.
    let f = fault_there c.loop-rest.fresh c.loop-rest.start c.loop-rest.rest.now _ c.in_err-front.ensures in
    absurd (never_both h (c.loop-rest.invariant.1.faulty _ f))

pub returns-in_err-front-clause-every_fault : goal.returns-in_err-front-clause-every_fault
returns-in_err-front-clause-every_fault c = λ l f h.
    let p = err_from_is_err_and c.from_residual.result c.from_residual.ensures.1 in
    let g = fault_there c.loop-rest.fresh c.loop-rest.start c.loop-rest.rest.now _ c.in_err-front.ensures in
    rw (p.1, p.2) (inl (one_fault (c.loop-rest.invariant.1.faulty _ g) h))

pub overflow_cast-end : goal.overflow_cast-end
overflow_cast-end c =
    let i = found_there c.loop-rest.fresh c.loop-rest.start c.loop-rest.rest.now c.in_ok-front.front c.in_ok-front.ensures in
    omega (arith, i.in_text, c.loop-rest.invariant.1.place, c.if-text-gt-TEXT_LIMIT.false)

pub overflow_add-end : goal.overflow_add-end
overflow_add-end c =
    let i = found_there c.loop-rest.fresh c.loop-rest.start c.loop-rest.rest.now c.in_ok-front.front c.in_ok-front.ensures in
    omega (arith, i.in_text, c.loop-rest.invariant.1.place, c.if-text-gt-TEXT_LIMIT.false)

pub slice_bounds-fresh_behind-end : goal.slice_bounds-fresh_behind-end
slice_bounds-fresh_behind-end c =
    let i = found_there c.loop-rest.fresh c.loop-rest.start c.loop-rest.rest.now c.in_ok-front.front c.in_ok-front.ensures in
    rw c.as_bytes.ensures.value (sym (length-take-le c.in_ok-front.front.end c.loop-rest.rest.now i.in_text))

pub range_from-rest-requires : goal.range_from-rest-requires
range_from-rest-requires c = λ positive.
    found_cut c.loop-rest.fresh c.loop-rest.rest.now c.in_ok-front.front c.loop-rest.invariant.0
    (found_there c.loop-rest.fresh c.loop-rest.start c.loop-rest.rest.now c.in_ok-front.front c.in_ok-front.ensures)

pub loop-rest-smaller : goal.loop-rest-smaller
loop-rest-smaller c =
    let i = found_there c.loop-rest.fresh c.loop-rest.start c.loop-rest.rest.now c.in_ok-front.front c.in_ok-front.ensures in
    omega (arith, takes_some c.loop-rest.fresh c.loop-rest.rest.now c.in_ok-front.front i, c.range_from-rest.ensures.len)

pub loop-rest-preserved : goal.loop-rest-preserved
loop-rest-preserved c =
    let t = c.loop-rest in
    let i = found_there t.fresh t.start t.rest.now c.in_ok-front.front c.in_ok-front.ensures in
    let r = c.range_from-rest in
    let b = rw c.as_bytes.ensures.value at c.fresh_behind-fresh.ensures in
    let after = behind c.args.text.now t.rest.now r.result.now t.found.items c.match-front.found.items t.fresh c.fresh_behind-fresh.result
    t.start c.in_ok-front.front t.invariant.1 i r.ensures.value b in (
      r.utf8,
      elim c.match-front.branch [
        | in-Some+in_ok-push w ↦ after.token w.in-Some.kind c.utf8.text t.invariant.0 w.in-Some.is (ap (λ v. v.items) w.found-is ∙ w.in_ok-push.ensures.items)
        | in_default w ↦ after.blank w.in_default.is (ap (λ v. v.items) w.found-is)
      ],
    )

pub returns-clause-tokens : goal.returns-clause-tokens
returns-clause-tokens c =
    all_read c.args.text.now c.loop-rest.rest.now c.loop-rest.found.items c.loop-rest.fresh c.loop-rest.start c.loop-rest.invariant.1
    (grind (arith, nat_tests))

pub returns-clause-every_text : goal.returns-clause-every_text
returns-clause-every_text c =
    λ l ps h. one_reading
    (all_read c.args.text.now c.loop-rest.rest.now c.loop-rest.found.items c.loop-rest.fresh c.loop-rest.start c.loop-rest.invariant.1
    (grind (arith, nat_tests))) h

pub returns-clause-every_fault : goal.returns-clause-every_fault
returns-clause-every_fault c =
    λ l f h. never_both
    (all_read c.args.text.now c.loop-rest.rest.now c.loop-rest.found.items c.loop-rest.fresh c.loop-rest.start c.loop-rest.invariant.1
    (grind (arith, nat_tests))) h
