use Rattle.std.proofs.Common.{◌≡◌, refl, arith}
use Rattle.std.proofs.lemmas.Int.{to_z-of_z}
use mir.Val.{of_z, to_z}
use mir.Syntax.{w32}
use Rattle.cilk_machine_plan.specs.agree.Outside as outside
use Rattle.cilk_machine_plan.specs.PartWords.{machine_of}
use Rattle.cilk_machine_carry.proofs.Closed.{returned-carried}
use Rattle.cilk_machine_carry.proofs.returning.carry_return.Goals as goal

pub returns-clause-done : goal.returns-clause-done
returns-clause-done c =
    let m = machine_of c.args.parts.now outside.running in
    let z : to_z w32 (of_z w32 c.args.value) ≡ c.args.value = grind (arith, to_z-of_z) in
    let r = c.in_ok-outcome in
    λ body. returned-carried c.args.choice m _ c.args.worker c.args.frame body _ c.id-id.result c.args.n c.args.value _ r.outcome
    z c.requires.empty refl c.id-id.ensures r.ensures.outcome refl r.ensures.tree r.ensures.hands refl
