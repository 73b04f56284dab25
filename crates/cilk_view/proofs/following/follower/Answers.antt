use Rattle.std.proofs.Common.{subst, refl}
use Rattle.cilk_machine_agree.proofs.spawn_laws.Trees.{child_there}
use Rattle.cilk_machine_agree.proofs.spawn_laws.Children.{parent_in}
use Rattle.cilk_view.proofs.Ahead.{Walks, walk_starts, walk_climbs, walk_finds, walk_ends}
use Rattle.cilk_view.proofs.Kins.{link_parent, link_root}
use Rattle.cilk_view.proofs.following.follower.Goals as goal

pub loop-child-init : goal.loop-child-init
loop-child-init c = λ ns t same order there. (there, walk_starts ns t c.args.id there)

pub returns-in-Some-clause-there : goal.returns-in-Some-clause-there
returns-in-Some-clause-there c = λ ns order. child_there ns c.in-Some.child c.loop-child.at (c.in-Some.ensures.some ns order).parent

pub returns-in-Some-clause-rest : goal.returns-in-Some-clause-rest
returns-in-Some-clause-rest c = λ ns t same order there.
    let w = c.loop-child.invariant ns t same order there in
    walk_finds ns t c.args.id there c.loop-child.at c.loop-child.after w.0 w.1 c.in-Some.child (c.in-Some.ensures.some ns order)

pub loop-child-preserved : goal.loop-child-preserved
loop-child-preserved c = λ ns t same order there.
    let w = c.loop-child.invariant ns t same order there in
    let link = c.in-Some-link_at.link in
    let up = link_parent ns c.args.links.now c.loop-child.at link same c.in-Some-link_at.ensures in (
      parent_in ns c.loop-child.at link.parent t up.0,
      subst (Walks ns c.args.id link.parent) up.1
          (walk_climbs ns t c.args.id c.loop-child.at c.loop-child.after link.parent w.0 up.0 (c.in-None.ensures.none refl ns order) w.1),
    )

pub returns-in-None-link_at-clause-rest : goal.returns-in-None-link_at-clause-rest
returns-in-None-link_at-clause-rest c = λ ns t same order there.
    let w = c.loop-child.invariant ns t same order there in
    walk_ends ns t c.args.id there c.loop-child.at c.loop-child.after w.0 w.1
    (link_root ns c.args.links.now c.loop-child.at same c.in-None-link_at.ensures) (c.in-None.ensures.none refl ns order)
