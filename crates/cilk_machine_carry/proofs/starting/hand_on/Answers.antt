use Rattle.std.proofs.Common.{true, sym, ◌∙◌}
use Rattle.std.proofs.lemmas.Option.{none-some, same_Some}
use Rattle.cilk_machine_carry.proofs.Undone.{undone, bottom-now, popped-again}
use Rattle.cilk_machine_carry.proofs.starting.hand_on.Goals as goal

pub returns-in-Err-clause-back : goal.returns-in-Err-clause-back
returns-in-Err-clause-back c =
    undone c.args.frame c.in-Err.parent c.resumed.result c.args.to c.node-n.result c.depth.result c.at_boundary-boundary.result true
    (c.in-Err.ensures.back ∙ c.resumed-parent.ensures) c.depth.ensures.value c.node-n.ensures c.at_boundary-boundary.ensures c.resumed.ensures

pub unreachable-requires : goal.unreachable-requires
unreachable-requires c =
    none-some c.resumed-parent.result
    (sym c.in-None.is
    ∙ bottom-now c.args.hands.now c.push_bottom.new.self c.args.worker c.resumed-parent.result c.requires.worker c.in_default.ensures.ok c.pop_bottom.result
    c.pop_bottom.ensures.value)

pub returns-in-Some-clause-back : goal.returns-in-Some-clause-back
returns-in-Some-clause-back c =
    let same = same_Some c.in-Some.parent c.resumed-parent.result
    (sym c.in-Some.is
    ∙ bottom-now c.args.hands.now c.push_bottom.new.self c.args.worker c.resumed-parent.result c.requires.worker c.in_default.ensures.ok c.pop_bottom.result
    c.pop_bottom.ensures.value) in
    undone c.args.frame c.in-Some.parent c.resumed-in-Some.result c.args.to c.node-n.result c.depth.result c.at_boundary-boundary.result true
    (same ∙ c.resumed-parent.ensures) c.depth.ensures.value c.node-n.ensures c.at_boundary-boundary.ensures c.resumed-in-Some.ensures

pub returns-in-Some-clause-same_hands : goal.returns-in-Some-clause-same_hands
returns-in-Some-clause-same_hands c =
    popped-again c.args.hands.now c.push_bottom.new.self c.args.worker c.resumed-parent.result c.requires.worker c.in_default.ensures.ok
    c.pop_bottom.new.self c.pop_bottom.ensures.rest
