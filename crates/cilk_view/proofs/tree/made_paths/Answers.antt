use Rattle.std.proofs.Common.{◌∙◌, ap, arith}
use Rattle.cilk_machine_agree.specs.spawn.Nodes.{path_at}
use Rattle.cilk_view.proofs.Trees.{made_more}
use Rattle.cilk_view.proofs.tree.made_paths.Goals as goal

pub loop-number-preserved : goal.loop-number-preserved
loop-number-preserved c =
    made_more c.args.tree.now.nodes c.loop-number.number c.loop-number.made.items c.push.new.self.items c.in_ok-from_slice.field-0 c.loop-number.invariant
    (omega (arith, c.loop-number-test.true, c.number-number-end.ensures, c.next_id.ensures.id))
    (c.in_ok-from_slice.ensures.items ∙ c.as_slice.ensures ∙ c.in_ok-path.ensures ∙ ap (path_at c.args.tree.now.nodes) c.new.ensures) c.in_ok-push.ensures.items
