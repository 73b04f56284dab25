use Rattle.std.proofs.Common.{sym, ap, ◌∙◌, option_copied}
use Rattle.cilk_machine.specs.sched.Words.{choice_of}
use Rattle.cilk_machine.proofs.Checkpoints.{goes-on-telling}
use Rattle.cilk_log_replay.proofs.Again.{chosen, next_by, did_by_it, bad_by}
use Rattle.cilk_log_replay.proofs.Onward.{goes-on}
use Rattle.cilk_log_replay.proofs.replaying.make_again.Goals as goal

pub returns-in-Ok-clause-next : goal.returns-in-Ok-clause-next
returns-in-Ok-clause-next c t same h =
    next_by c.args.machine.now c.advance.new.self (choice_of c.in-Some.choice.now) c.in-Ok.did c.in-Ok.ensures.made t c.args.made h
    (chosen t c.args.choices.now c.args.made c.in-Some.choice.now same (sym c.chosen.ensures ∙ ap option_copied c.in-Some.is))

pub returns-in-Ok-clause-did : goal.returns-in-Ok-clause-did
returns-in-Ok-clause-did c t same h =
    did_by_it c.args.machine.now c.advance.new.self (choice_of c.in-Some.choice.now) c.in-Ok.did c.in-Ok.ensures.made t c.args.made h
    (chosen t c.args.choices.now c.args.made c.in-Some.choice.now same (sym c.chosen.ensures ∙ ap option_copied c.in-Some.is))

pub returns-in-Err-clause-told : goal.returns-in-Err-clause-told
returns-in-Err-clause-told c t same h =
    c.refused.ensures t (bad_by c.args.machine.now (choice_of c.in-Some.choice.now) c.in-Err.refusal c.in-Err.ensures.refused t c.args.made h
    (chosen t c.args.choices.now c.args.made c.in-Some.choice.now same (sym c.chosen.ensures ∙ ap option_copied c.in-Some.is)))

pub returns-in-Ok-clause-goes : goal.returns-in-Ok-clause-goes
returns-in-Ok-clause-goes c t same g =
    goes-on t c.args.made (choice_of c.in-Some.choice.now)
    (chosen t c.args.choices.now c.args.made c.in-Some.choice.now same (sym c.chosen.ensures ∙ ap option_copied c.in-Some.is))
    c.args.machine.now c.advance.new.self _ c.requires.made g c.in-Ok.ensures.made

pub returns-in-Ok-clause-tells : goal.returns-in-Ok-clause-tells
returns-in-Ok-clause-tells c m e =
    goes-on-telling m c.args.machine.now c.advance.new.self (choice_of c.in-Some.choice.now) _ e c.in-Ok.ensures.made
