use Rattle.cilk_machine_plan.specs.agree.Outside as outside
use Rattle.cilk_machine_plan.specs.PartWords.{machine_of, outcome_of}
use Rattle.cilk_machine_carry.proofs.Closed.{ended-carried}
use Rattle.cilk_machine_carry.proofs.returning.carry_end.Goals as goal

pub returns-clause-carried : goal.returns-clause-carried
returns-clause-carried c =
    let m = machine_of c.args.parts.now outside.running in
    λ body. ended-carried c.args.choice m _ c.args.worker c.args.frame body _ c.id-id.result c.parent-parent.result
    c.requires.empty c.id-id.ensures c.parent-parent.ensures
    (λ j. record m.outside { locks = c.release.ensures j; outcome = outcome_of (c.running.ensures.outcome j) })
    c.end.ensures.tree c.end.ensures.hands c.running.ensures.did
