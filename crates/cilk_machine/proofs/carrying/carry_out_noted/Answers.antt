use Rattle.std.proofs.Common.{option_copied, ◌∙◌}
use Rattle.cilk_machine_undo.specs.plans.Ready.{frame_in}
use Rattle.cilk_machine_undo.proofs.plans_laws.Holds.{there}
use Rattle.cilk_machine_carry.proofs.Whole.{hand-there}
use Rattle.cilk_machine.proofs.Callers.{caller-there}
use Rattle.cilk_machine.proofs.Undoes.{undoes}
use Rattle.cilk_machine.proofs.carrying.carry_out_noted.Goals as goal

pub note-requires-clause-inside : goal.note-requires-clause-inside
note-requires-clause-inside c = caller-there c.args.choice c.args.parts.now c.args.worker (option_copied c.args.body) c.args.plan c.requires

pub returns-in-Ok-carry_out-clause-undoes : goal.returns-in-Ok-carry_out-clause-undoes
returns-in-Ok-carry_out-clause-undoes c =
    let parts = c.args.parts.now in
    let w = c.args.worker in
    let body = (option_copied c.args.body) in
    let x = c.args.plan in
    let f = frame_in parts.hands w in
    let held = there parts.hands w c.requires.in_hand.frame (hand-there c.args.choice parts w body x c.requires.in_hand c.requires.planned) in
    let is = c.fill.ensures ∙ c.in-Ok.ensures c.carry_out.new.parts.spent (c.in-Ok-carry_out.ensures.spent f held) in
    undoes c.args.choice parts w body x c.requires f held c.depth_in_hand-depth.ensures.some c.depth_in_hand-depth.ensures.limit
    (record c.carry_out.new.parts { spent = c.fill.new.spent }) c.in-Ok-carry_out.done _ c.in-Ok-carry_out.ensures.becomes is
