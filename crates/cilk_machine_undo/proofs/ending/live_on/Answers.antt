use Rattle.std.proofs.Common.{Some, None, ap, sym, ◌∙◌, subst}
use Rattle.cilk_machine_plan.specs.model.Hands.{hand_of, with_hand}
use Rattle.cilk_machine_plan.specs.spawn.Nodes.{node_at}
use Rattle.cilk_machine_plan.specs.agree.declared.lock.Lock.TheVariants.{Held}
use Rattle.cilk_machine_plan.proofs.agree_laws.Frames.{hand-over}
use Rattle.cilk_machine_undo.specs.Writes.{all_set}
use Rattle.cilk_machine_undo.specs.Undo.{asleep, unsent_to}
use Rattle.cilk_machine_undo.specs.Able.{CanUnsend}
use Rattle.cilk_machine_undo.specs.Words.{machine_in}
use Rattle.cilk_machine_undo.proofs.Trees.{asleep-parent}
use Rattle.cilk_machine_undo.proofs.ending.live_on.Goals as goal

pub sleep-requires-clause-parks : goal.sleep-requires-clause-parks
sleep-requires-clause-parks c = λ r g up held.
    c.requires.parks r g (ap (λ k. (node_at c.args.parts.now.tree.nodes k).parent) (sym c.id-id.ensures) ∙ up) held

pub unsend-requires-clause-unsends : goal.unsend-requires-clause-unsends
unsend-requires-clause-unsends c = λ does p up.
    let ns = c.args.parts.now.tree.nodes in
    let k = c.args.frame.id in
    let hand = hand_of c.args.parts.now.hands c.args.worker in
    let is = c.sleep.ensures.tree ∙ ap (λ i. asleep (node_at ns i).parent hand ns) c.id-id.ensures in
    let above = sym (asleep-parent (node_at ns k).parent hand ns k) ∙ (λ j. (node_at (sym is j) (sym c.id-id.ensures j)).parent) ∙ up in
    subst (λ ms. CanUnsend ms p c.id-id.result) (sym is)
    (subst (λ i. CanUnsend (asleep (node_at ns k).parent hand ns) p i) (sym c.id-id.ensures) (c.requires.unsends does p above))

pub returns : goal.returns
returns c =
    let m = machine_in c.args.parts.now in
    let w = c.args.worker in
    let f = c.args.frame in
    let hand = hand_of m.places w in
    let id = c.id-id.ensures in
    let is = c.sleep.ensures.tree ∙ ap (λ i. asleep (node_at m.nodes i).parent hand m.nodes) id in
    let nodes = c.unsend.ensures ∙ (λ j. unsent_to c.args.sent (node_at (is j) (id j)).parent (id j) (is j))
    ∙ ap (λ o. unsent_to c.args.sent o f.id (asleep (node_at m.nodes f.id).parent hand m.nodes))
    (asleep-parent (node_at m.nodes f.id).parent hand m.nodes f.id) in
    let hands = c.give.ensures ∙ ap (λ places. with_hand places w (Some f)) c.sleep.ensures.hands
    ∙ hand-over m.places w None (Some f) c.requires.worker in
    let locks = c.hold.ensures ∙ ap (λ i. all_set m.outside.locks c.args.held.now (Held i)) id in
    λ j. record { outside = record m.outside { locks = locks j }; nodes = nodes j; places = hands j }
