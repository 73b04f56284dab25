use Rattle.std.proofs.Common.{◌<◌, ◌-◌, Some, length, refl, sym, ap, ◌∙◌, map, arith, option_map}
use Rattle.std.proofs.lemmas.Option.{slice_get_read}
use Rattle.cilk_run.specs.choices.Words.{choice_of}
use Rattle.cilk_program_runs.specs.Outcomes.{without_end, before_by}
use Rattle.cilk_program_runs.proofs.Among.{is-within, at-first, at-endless, at-last, count-some}
use Rattle.cilk_program_runs.proofs.outcome.outcome_at.Goals as goal

pub index-requires : goal.index-requires
index-requires c =
    let e = c.args.exploration.now in
    let is = c.requires.before in
    let within = is-within e c.args.k (omega (arith, is, c.if-k-before.true)) in
    omega (arith, within, e.told.ok.0)

pub returns-then-k-before : goal.returns-then-k-before
returns-then-k-before c =
    let e = c.args.exploration.now in
    let is = c.requires.before in
    let less : c.args.k < before_by e = omega (arith, is, c.if-k-before.true) in
    at-first e c.args.k c.index.result.now
    (slice_get_read e.told.items (length e.told.items) c.args.k c.index.result.now refl (is-within e c.args.k less) c.index.ensures) less

pub index-requires-else-k-before-2 : goal.index-requires-else-k-before-2
index-requires-else-k-before-2 c =
    let e = c.args.exploration.now in
    let all = count-some e (map choice_of c.in-Some.log.items) (ap (option_map (λ log. map choice_of log.items)) c.in-Some.is) in
    omega (arith, all, c.requires.there, c.if-k-before.false, c.if-k-before-2.false, e.told.ok.0)

pub returns-then-k-before-2 : goal.returns-then-k-before-2
returns-then-k-before-2 c =
    at-endless c.args.exploration.now (map choice_of c.in-Some.log.items) (ap (option_map (λ log. map choice_of log.items)) c.in-Some.is) c.args.k
    (c.if-k-before-2.true ∙ c.requires.before)
    ∙ ap (λ xs. Some (without_end (map choice_of xs))) (sym c.as_slice.ensures.value)

pub returns-else-k-before-2 : goal.returns-else-k-before-2
returns-else-k-before-2 c =
    let e = c.args.exploration.now in
    let j = c.args.k - 1 in
    let some = ap (option_map (λ log. map choice_of log.items)) c.in-Some.is in
    let all = count-some e (map choice_of c.in-Some.log.items) some in
    let is = c.requires.before in
    let within : j < length e.told.items = omega (arith, all, c.requires.there, c.if-k-before.false, c.if-k-before-2.false) in
    at-last e (map choice_of c.in-Some.log.items) some c.args.k j c.index-else-k-before-2.result.now
    (omega (arith, c.if-k-before.false, c.if-k-before-2.false))
    (slice_get_read e.told.items (length e.told.items) j c.index-else-k-before-2.result.now refl within c.index-else-k-before-2.ensures)
    (omega (arith, is, c.if-k-before.false, c.if-k-before-2.false))
