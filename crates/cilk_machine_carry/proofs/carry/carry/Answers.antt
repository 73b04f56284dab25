use Rattle.std.proofs.Common.{◌≡◌, sym, ◌∙◌, arith}
use Rattle.std.specs.Option.{option_copied}
use Rattle.std.proofs.lemmas.Int.{to_z-of_z}
use mir.Val.{of_z, to_z}
use mir.Syntax.{w32}
use Rattle.cilk_machine_plan.specs.declared.plan.Plan.TheVariants as plan
use Rattle.cilk_machine_carry.proofs.Arms.{by-arm, ok-by}
use Rattle.cilk_machine_carry.proofs.carry.carry.Goals as goal

pub returns-in-End-clause-done : goal.returns-in-End-clause-done
returns-in-End-clause-done c = by-arm c.in-End.is (c.carry_end.ensures.carried (option_copied c.args.body))

pub returns-in-Trap-clause-done : goal.returns-in-Trap-clause-done
returns-in-Trap-clause-done c = by-arm c.in-Trap.is (c.carry_trap.ensures c.args.choice (option_copied c.args.body))

pub returns-in-Take-clause-done : goal.returns-in-Take-clause-done
returns-in-Take-clause-done c =
    let z : to_z w32 (of_z w32 c.in-Take.value) ≡ c.in-Take.value = grind (arith, to_z-of_z) in
    by-arm (c.in-Take.is ∙ (λ j. plan.Take c.in-Take.child c.in-Take.n c.in-Take.reached (sym z j))) (c.carry_take.ensures.carried (option_copied c.args.body))

pub returns-in-Enter-clause-done : goal.returns-in-Enter-clause-done
returns-in-Enter-clause-done c = ok-by c.carry_enter.result c.carry_enter.ensures.done (λ d h. by-arm c.in-Enter.is h)

pub returns-in-Write-clause-done : goal.returns-in-Write-clause-done
returns-in-Write-clause-done c =
    let z : to_z w32 (of_z w32 c.in-Write.value) ≡ c.in-Write.value = grind (arith, to_z-of_z) in
    by-arm (c.in-Write.is ∙ (λ j. plan.Write c.in-Write.n c.in-Write.reached (sym z j) c.in-Write.to))
    (c.carry_write.ensures.carried c.args.choice (option_copied c.args.body))

pub returns-in-Call-clause-done : goal.returns-in-Call-clause-done
returns-in-Call-clause-done c = ok-by c.carry_call.result c.carry_call.ensures.done (λ d h. by-arm c.in-Call.is (h c.args.choice))

pub returns-in-Answer-clause-done : goal.returns-in-Answer-clause-done
returns-in-Answer-clause-done c =
    let z : to_z w32 (of_z w32 c.in-Answer.value) ≡ c.in-Answer.value = grind (arith, to_z-of_z) in
    by-arm (c.in-Answer.is ∙ (λ j. plan.Answer c.in-Answer.n c.in-Answer.reached (sym z j)))
    (c.carry_answer.ensures.carried c.args.choice (option_copied c.args.body))

pub returns-in-Return-clause-done : goal.returns-in-Return-clause-done
returns-in-Return-clause-done c =
    let z : to_z w32 (of_z w32 c.in-Return.value) ≡ c.in-Return.value = grind (arith, to_z-of_z) in
    ok-by c.carry_return.result c.carry_return.ensures.done
    (λ d h. by-arm (c.in-Return.is ∙ (λ j. plan.Return c.in-Return.n (sym z j))) (h (option_copied c.args.body)))

pub returns-in-Spawn-clause-done : goal.returns-in-Spawn-clause-done
returns-in-Spawn-clause-done c = ok-by c.carry_spawn.result c.carry_spawn.ensures.done (λ d h. by-arm c.in-Spawn.is (h c.args.choice))

pub returns-in-Print-clause-done : goal.returns-in-Print-clause-done
returns-in-Print-clause-done c =
    ok-by c.carry_print.result c.carry_print.ensures.done (λ d h. by-arm c.in-Print.is (h c.args.choice (option_copied c.args.body)))

pub returns-in-TurnLock-clause-done : goal.returns-in-TurnLock-clause-done
returns-in-TurnLock-clause-done c = by-arm c.in-TurnLock.is (c.carry_lock_turn.ensures c.args.choice (option_copied c.args.body))

pub returns-in-Abort-clause-done : goal.returns-in-Abort-clause-done
returns-in-Abort-clause-done c = by-arm c.in-Abort.is (c.carry_abort.ensures c.args.choice (option_copied c.args.body))
