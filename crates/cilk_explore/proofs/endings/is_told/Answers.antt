use Rattle.std.proofs.Common.{length, map, arith, refl, below_more}
use Rattle.std.proofs.lemmas.List.{length-map}
use Rattle.std.proofs.lemmas.Option.{slice_get_read, slice_get_within}
use Rattle.cilk_explore.specs.Telling.{ending_by, told_by}
use Rattle.cilk_explore.proofs.Ends.{among-at, not-at}
use Rattle.cilk_explore.proofs.endings.is_told.Goals as goal

pub returns-then-has_ending-clause-there : goal.returns-then-has_ending-clause-there
returns-then-has_ending-clause-there c = λ e.
    among-at c.args.told.now (ending_by c.args.end.now c.args.output.now) c.loop-k.k c.index-told-k.result
    (slice_get_read c.args.told.now (length c.args.told.now) c.loop-k.k c.index-told-k.result refl (omega arith) c.index-told-k.is)
    (c.has_ending.ensures.0 c.if-has_ending.true)

pub loop-k-preserved : goal.loop-k-preserved
loop-k-preserved c =
    below_more _ _ c.loop-k.invariant
    (not-at c.args.told.now (ending_by c.args.end.now c.args.output.now) c.loop-k.k c.index-told-k.result
    (slice_get_read c.args.told.now (length c.args.told.now) c.loop-k.k c.index-told-k.result refl (omega arith) c.index-told-k.is)
    (λ same. let is = c.has_ending.ensures.1 same in cc))

pub returns-clause-none : goal.returns-clause-none
returns-clause-none c = λ e j one h.
    let within = slice_get_within (map told_by c.args.told.now) j one h in
    c.loop-k.invariant j (omega (arith, within, length-map c.args.told.now told_by)) one h
