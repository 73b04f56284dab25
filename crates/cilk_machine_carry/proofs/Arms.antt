-- A plan is carried out as the arm of its own says.
use Rattle.std.proofs.Common.{◌≡◌, ℕ, Option, sym, subst}
use Rattle.std.specs.Prelude.{Result, Ok, Err, IfOk}
use Rattle.cilk_machine_plan.specs.nodes.declared.body.Body.{Body}
use Rattle.cilk_machine_plan.specs.frame.Frames.{Frame}
use Rattle.cilk_machine_plan.specs.agree.Agrees.{MachineParts}
use Rattle.cilk_machine_plan.specs.declared.plan.Plan.{Plan}
use Rattle.cilk_machine_plan.specs.declared.did.Did.{Did}
use Rattle.cilk_machine_plan.specs.declared.did.Done.{Done}
use Rattle.cilk_machine_plan.specs.Carried.{Carried}

pub by-arm : {choice : ℕ} {m : MachineParts} {w : ℕ} {f : Frame} {body : Option Body} {x y : Plan} {now : MachineParts} {told : Did} → x ≡ y
    → Carried choice m w f body y now told → Carried choice m w f body x now told
by-arm {choice = choice} {m = m} {w = w} {f = f} {body = body} {now = now} {told = told} is h = subst (λ p. Carried choice m w f body p now told) (sym is) h

pub ok-by : {P Q : Done → Type 0} (r : Result Done Frame) → IfOk r P → ((d : Done) → P d → Q d) → IfOk r Q
ok-by (Ok d) h goes = goes d h
ok-by (Err f) h goes = h
