-- What a plan leaves of what was printed.
use Rattle.std.proofs.Common.{ℕ, ℤ, List, [], Option, Some, None, append-nil, refl, sym}
use Rattle.cilk_machine_plan.specs.agree.Outside.{Outside}
use Rattle.cilk_machine_plan.specs.declared.plan.Plan.TheVariants as plan
use Rattle.cilk_machine_plan.specs.spawn.Nodes.{node_at}
use Rattle.cilk_machine_plan.specs.Carried.{outside_given}
use Rattle.cilk_machine_undo.specs.Growth.{Prints}
use Rattle.cilk_machine_undo.specs.GrowthLaws.{PlansPrint}

pub prints-none : (xs : List ℕ) → Prints xs xs
prints-none xs = record { more = []; is = sym (append-nil xs) }

-- the value of the root prints nothing
given-prints : (o : Outside) (z : ℤ) (parent : Option ℕ) → Prints o.output (outside_given o z parent).output
given-prints o z None = prints-none o.output
given-prints o z (Some r) = prints-none o.output

pub plan-prints : PlansPrint
plan-prints choice m w f body plan.Wait = prints-none m.outside.output
plan-prints choice m w f body plan.Park = prints-none m.outside.output
plan-prints choice m w f body plan.End = prints-none m.outside.output
plan-prints choice m w f body (plan.Trap kind n) = prints-none m.outside.output
plan-prints choice m w f body (plan.Take child n reached z) = prints-none m.outside.output
plan-prints choice m w f body (plan.Enter child n inlet arguments) = prints-none m.outside.output
plan-prints choice m w f body (plan.Go n to) = prints-none m.outside.output
plan-prints choice m w f body (plan.Write n reached z to) = prints-none m.outside.output
plan-prints choice m w f body (plan.Call n awaits callee arguments to) = prints-none m.outside.output
plan-prints choice m w f body (plan.Leave n) = prints-none m.outside.output
plan-prints choice m w f body (plan.Answer n reached z) = prints-none m.outside.output
plan-prints choice m w f body (plan.Return n z) = given-prints m.outside z (node_at m.nodes f.id).parent
plan-prints choice m w f body (plan.Spawn n receiver callee arguments to) = prints-none m.outside.output
plan-prints choice m w f body (plan.Print n bytes to) = record { more = bytes; is = refl }
plan-prints choice m w f body (plan.TurnLock n lock now to) = prints-none m.outside.output
plan-prints choice m w f body (plan.Abort n to) = prints-none m.outside.output
