use Rattle.std.proofs.Common.{◌≡◌, ◌==◌, ◌||◌, false, ap, sym, ◌∙◌}
use Rattle.cilk_machine_plan.specs.spawn.Nodes.{descends}
use Rattle.cilk_machine_plan.proofs.spawn_laws.Children.{parent_in}
use Rattle.cilk_machine_plan.proofs.spawn_laws.Marks.{descends_child}
use Rattle.cilk_machine_undo.proofs.listing.descends.Goals as goal

pub loop-parent-preserved : goal.loop-parent-preserved
loop-parent-preserved c =
    let ns = c.args.tree.now.nodes in
    let tree = c.next_id-id.ensures.tree in
    let at = c.loop-parent.at in
    let p = c.in-Some.parent in
    let up = sym c.parent.ensures ∙ c.in-Some.is in
    let other : (p == c.args.id) ≡ false = sym c.eq.ensures ∙ c.if-eq.false in
    record {
      there = parent_in ns at p tree up;
      same = sym (descends_child ns tree c.args.id at p up ∙ ap (λ b. b || descends ns c.args.id p) other) ∙ c.loop-parent.invariant.same;
    }
