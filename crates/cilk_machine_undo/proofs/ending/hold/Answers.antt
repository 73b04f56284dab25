use Rattle.std.proofs.Common.{take, ap, sym, ◌∙◌, slice_set}
use Rattle.std.specs.Prelude.{slice_index_or}
use Rattle.std.proofs.lemmas.List.{take_more}
use Rattle.cilk_machine_plan.specs.agree.declared.lock.Lock.TheVariants.{Held}
use Rattle.cilk_machine_undo.specs.Writes.{all_set}
use Rattle.cilk_machine_undo.proofs.Back.{all_set_more}
use Rattle.cilk_machine_undo.proofs.ending.hold.Goals as goal

pub loop-lock-preserved : goal.loop-lock-preserved
loop-lock-preserved c =
    let locks = c.args.locks.now.items in
    let held = c.args.held.now in
    let i = c.loop-lock.lock-index in
    let lock = slice_index_or held i 0 in
    c.set_lock.ensures ∙ (λ j. slice_set (c.loop-lock.invariant j) lock (Held c.args.id)) ∙ sym (all_set_more locks (take i held) lock (Held c.args.id))
    ∙ ap (λ ks. all_set locks ks (Held c.args.id)) (sym (take_more held i 0 c.loop-lock-test.true))
