use Rattle.std.proofs.Common.{None, ◌∙◌}
use Rattle.cilk_machine_undo.specs.plans.Words.{plan_of}
use Rattle.cilk_machine_undo.specs.plans.declared.did.Outcome.TheVariants.{Running}
use Rattle.cilk_machine_undo.specs.plans.Ready.{frame_in}
use Rattle.cilk_machine_undo.proofs.plans_laws.Holds.{there}
use Rattle.cilk_machine_carry.proofs.Whole.{hand-there}
use Rattle.cilk_machine.proofs.Callers.{caller-there}
use Rattle.cilk_machine.proofs.Undoes.{undoes}
use Rattle.cilk_machine.proofs.carrying.carry_lightly_noted.Goals as goal

pub note_lightly-requires-clause-inside : goal.note_lightly-requires-clause-inside
note_lightly-requires-clause-inside c = caller-there c.args.choice c.args.parts.now c.args.worker None (plan_of c.args.light) c.requires

pub returns-in-Ok-clause-undoes : goal.returns-in-Ok-clause-undoes
returns-in-Ok-clause-undoes c =
    let parts = c.args.parts.now in
    let w = c.args.worker in
    let body = None in
    let x = (plan_of c.args.light) in
    let f = frame_in parts.hands w in
    let held = there parts.hands w c.requires.in_hand.frame (hand-there c.args.choice parts w body x c.requires.in_hand c.requires.planned) in
    let is = c.fill.ensures ∙ c.in-Ok.ensures c.carry_lightly-did.new.parts.spent (c.carry_lightly-did.ensures.spent f held) in
    undoes c.args.choice parts w body x c.requires f held c.depth_in_hand-depth.ensures.some c.depth_in_hand-depth.ensures.limit
    (record c.carry_lightly-did.new.parts { spent = c.fill.new.spent })
    (record { outcome = Running; did = c.carry_lightly-did.result }) _ c.carry_lightly-did.ensures.becomes is
