use Rattle.std.proofs.Common.{sym, ◌∙◌, subst}
use Rattle.std.specs.Option.{option_copied}
use Rattle.cilk_machine_plan.specs.agree.Outside as outside
use Rattle.cilk_machine_plan.specs.PartWords.{machine_of, outcome_of}
use Rattle.cilk_machine_plan.specs.Carried.{Carried}
use Rattle.cilk_machine_carry.proofs.Whole.{worker-there, ready-there, carries-there, becomes-there, given-again}
use Rattle.cilk_machine_carry.proofs.carry.carry_out.Goals as goal

pub carry-requires-clause-ready : goal.carry-requires-clause-ready
carry-requires-clause-ready c =
    ready-there c.args.choice c.args.parts.now c.args.worker (option_copied c.args.body) c.args.plan c.requires.can_carry c.in-Some.frame
    (sym c.take.ensures.value ∙ c.in-Some.is)

pub returns-in-Ok-clause-done : goal.returns-in-Ok-clause-done
returns-in-Ok-clause-done c =
    let body = option_copied c.args.body in
    let done = c.in-Ok.done in
    carries-there c.args.choice c.args.parts.now c.args.worker body c.args.plan c.requires.can_carry.goes c.in-Some.frame c.carry.new.parts done
    (sym c.take.ensures.value ∙ c.in-Some.is)
    (subst (λ hands. Carried c.args.choice (record (machine_of c.args.parts.now outside.running) { places = hands }) c.args.worker
    c.in-Some.frame body c.args.plan
    (machine_of c.carry.new.parts (outcome_of done.outcome)) done.did) c.take.ensures.rest c.in-Ok.ensures.done)

pub returns-in-Ok-clause-becomes : goal.returns-in-Ok-clause-becomes
returns-in-Ok-clause-becomes c =
    let body = option_copied c.args.body in
    let done = c.in-Ok.done in
    becomes-there c.args.choice c.args.parts.now c.args.worker body c.args.plan c.requires.can_carry.goes
    (worker-there c.args.choice c.args.parts.now c.args.worker body c.args.plan c.requires.can_carry.in_hand c.requires.can_carry.planned)
    c.in-Some.frame c.carry.new.parts done (sym c.take.ensures.value ∙ c.in-Some.is)
    (subst (λ hands. Carried c.args.choice (record (machine_of c.args.parts.now outside.running) { places = hands }) c.args.worker
    c.in-Some.frame body c.args.plan
    (machine_of c.carry.new.parts (outcome_of done.outcome)) done.did) c.take.ensures.rest c.in-Ok.ensures.done)

pub returns-in-Err-clause-same : goal.returns-in-Err-clause-same
returns-in-Err-clause-same c =
    let m = machine_of c.args.parts.now outside.running in
    let part = machine_of c.carry.new.parts outside.running in
    given-again m part c.args.worker c.in-Some.frame c.in-Err.frame c.give.new.self
    (worker-there c.args.choice c.args.parts.now c.args.worker (option_copied c.args.body) c.args.plan
    c.requires.can_carry.in_hand c.requires.can_carry.planned)
    (sym c.take.ensures.value ∙ c.in-Some.is) c.in-Err.ensures.back
    (c.in-Err.ensures.same ∙ (λ j. record m { places = c.take.ensures.rest j })) c.give.ensures
