use Rattle.std.proofs.Common.{None, sym, ap, ◌∙◌, option_copied}
use Rattle.cilk_machine_plan.specs.Words.{plan_of}
use Rattle.cilk_machine_plan.specs.declared.did.Outcome.TheVariants.{Running}
use Rattle.cilk_machine_plan.specs.Ready.{frame_in}
use Rattle.cilk_machine_plan.proofs.Holds.{there}
use Rattle.cilk_machine_carry.proofs.Whole.{ready-there, carries-held, becomes-held}
use Rattle.cilk_machine_carry.proofs.lightly.carry_lightly.Goals as goal

pub carry_light-requires-clause-ready : goal.carry_light-requires-clause-ready
carry_light-requires-clause-ready c =
    let places = c.args.parts.now.hands in
    let w = c.args.worker in
    ready-there c.args.choice c.args.parts.now w None (plan_of c.args.light) c.requires (frame_in places w)
    (there places w c.in-Some.frame.now (sym c.hand.ensures ∙ ap option_copied c.in-Some.is))

pub returns-clause-done : goal.returns-clause-done
returns-clause-done c =
    let places = c.args.parts.now.hands in
    let w = c.args.worker in
    carries-held c.args.choice c.args.parts.now w None (plan_of c.args.light) c.requires.goes (frame_in places w) c.carry_light.new.parts
    (record { outcome = Running; did = c.carry_light.result })
    (there places w c.in-Some.frame.now (sym c.hand.ensures ∙ ap option_copied c.in-Some.is)) c.carry_light.ensures.carried

pub returns-clause-becomes : goal.returns-clause-becomes
returns-clause-becomes c =
    let places = c.args.parts.now.hands in
    let w = c.args.worker in
    becomes-held c.args.choice c.args.parts.now w None (plan_of c.args.light) (frame_in places w) c.carry_light.new.parts
    (record { outcome = Running; did = c.carry_light.result })
    (there places w c.in-Some.frame.now (sym c.hand.ensures ∙ ap option_copied c.in-Some.is)) c.carry_light.ensures.carried
