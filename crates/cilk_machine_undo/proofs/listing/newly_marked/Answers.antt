use Rattle.std.proofs.Common.{◌++◌, ◌∷◌, [], cond, ap, ◌∙◌}
use Rattle.cilk_machine_undo.specs.Records.{is_new}
use Rattle.cilk_machine_undo.proofs.Listed.{one-more}
use Rattle.cilk_machine_undo.proofs.listing.newly_marked.Goals as goal

pub loop-i-preserved : goal.loop-i-preserved
loop-i-preserved c =
    let p = is_new c.args.tree.now.nodes c.args.id in
    one-more p c.loop-i.i c.is_new-new.result c.loop-i.ids.items c.push_if.new.xs.items c.loop-i.invariant (c.is_new-new.ensures ∙ ap p c.new-at.ensures)
    (c.in_ok-push_if.ensures ∙ ap (λ k. c.loop-i.ids.items ++ cond c.is_new-new.result (k ∷ []) []) c.new-at.ensures)
