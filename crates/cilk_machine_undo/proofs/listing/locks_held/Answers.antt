use Rattle.std.proofs.Common.{ℕ, Bool, ap, ◌∙◌}
use Rattle.std.specs.Prelude.{slice_index_or}
use Rattle.std.proofs.lemmas.List.{get_or_default}
use Rattle.cilk_machine_plan.specs.agree.declared.lock.Lock.TheVariants.{Unset}
use Rattle.cilk_machine_plan.specs.agree.Locks.{is_held_by}
use Rattle.cilk_machine_undo.proofs.Listed.{one-more}
use Rattle.cilk_machine_undo.proofs.listing.locks_held.Goals as goal

pub loop-i-preserved : goal.loop-i-preserved
loop-i-preserved c =
    let p : ℕ → Bool = λ j. is_held_by c.args.id (slice_index_or c.args.locks.now j Unset) in
    one-more p c.loop-i.i c.holds-held_by_it.result c.loop-i.held.items c.push_if.new.xs.items c.loop-i.invariant
    (c.holds-held_by_it.ensures ∙ ap (is_held_by c.args.id)
    (c.index-locks-i.is ∙ get_or_default c.args.locks.now c.loop-i.i c.index-locks-i.result Unset c.loop-i-test.true))
    c.in_ok-push_if.ensures
