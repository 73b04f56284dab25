-- Steps that were looked at beforehand.
use Rattle.std.proofs.Common.{◌≡◌, ℕ, Bool, true, false, not, List, Option, Some, None, is_some, option_map, Result, Ok, Err, sym, ap, ◌∙◌}
use Rattle.std.proofs.Common.{subst, if◌then◌else◌}
use Rattle.std.specs.Prelude.{IfOk, IfErr, IfSome, OnOk, option_and_then}
use Rattle.cilk_machine_undo.specs.frame.Frames.{Frame}
use Rattle.cilk_machine_undo.specs.plans.declared.light.Light.{Light}
use Rattle.cilk_machine_undo.specs.plans.declared.plan.Plan.{Plan}
use Rattle.cilk_machine_undo.specs.plans.StepInput.{StepInput, cells_in}
use Rattle.cilk_machine_undo.specs.plans.Words.{plan_of}
use Rattle.cilk_sched.specs.model.Hands.{hand_of}
use Rattle.cilk_sched.specs.declared.act.Act.TheVariants.{Step}
use Rattle.cilk_sched.specs.declared.refusal.Refusal.TheVariants.{Over, NoWorker}
use Rattle.cilk_machine_undo.specs.eval.Known.{known_of}
use Rattle.cilk_machine_undo.specs.eval.declared.known.Known.{Known}
use Rattle.cilk_machine_undo.specs.nodes.declared.slot.Slot.{Slot}
use Rattle.cilk_machine_undo.specs.labelled.Term.{Term}
use Rattle.cilk_machine_step.specs.Peeks as peeks
use Rattle.cilk_machine_step.specs.Peeks.{code_in}
use Rattle.cilk_machine_step.specs.Scenes.{is_wait}
use Rattle.cilk_machine.specs.Situation.{Situation, workers_of, input_at}
use Rattle.cilk_machine.specs.Refused.{runs, is_worker_of, is_full, planned_by, planned_in, waits_by, step_refused, act_refused, refused_by}
use Rattle.cilk_machine.specs.Looking.{peek_by, plan_by}
use Rattle.cilk_machine.proofs.Lightly.{goes}

-- a plan by a value never waits
pub value-goes : (r : Result Light Plan) → IfErr r (λ x. is_wait x ≡ false) → is_wait (plan_by r) ≡ false
value-goes (Ok light) h = goes light
value-goes (Err x) h = h

hand_goes : (m : Situation) (o : Option Frame) (x : Plan) → is_some o ≡ true → is_wait x ≡ false → x ≡ planned_by m o → step_refused m o ≡ None
hand_goes m None x full free is = cc
hand_goes m (Some f) x full free is = ap waits_by (ap is_wait (sym is) ∙ free)

-- a step with a plan that does not wait is possible
pub plan-free : (m : Situation) (w : ℕ) (x : Plan) → runs m.outcome ≡ true → is_worker_of (workers_of m) w ≡ true → is_full m.machine.places w ≡ true
    → is_wait x ≡ false → x ≡ planned_in m w → refused_by m (record { worker = w; act = Step }) ≡ None
plan-free m w x on worker full free is =
    ap (λ (b : Bool). if not b then Some Over else (if not (is_worker_of (workers_of m) w) then Some NoWorker else act_refused m w Step)) on
    ∙ ap (λ (b : Bool). if not b then Some NoWorker else act_refused m w Step) worker
    ∙ hand_goes m (hand_of m.machine.places w) x full free is

pub either-plan : (r : Result Light Plan) (p : Plan) → IfOk r (λ x. plan_of x ≡ p) → IfErr r (λ x. x ≡ p) → plan_by r ≡ p
either-plan (Ok light) p h k = h
either-plan (Err x) p h k = k

on_ok : {A E P Q : Type 0} (r : Result A E) → (P → Q) → OnOk r P → OnOk r Q
on_ok (Ok a) f p = f p
on_ok (Err e) f p = tt

taken_by : (g : StepInput) (o : Option (Term Slot)) (listed : Term Slot) (values : List Known) → values ≡ known_of (cells_in g) listed
    → IfSome (option_map (peeks.peek_by g) o) (λ peek. listed ≡ peek.code → values ≡ peek.values)
taken_by g None listed values is = tt
taken_by g (Some code) listed values is = λ same. is ∙ ap (known_of (cells_in g)) same

-- what is taken down of an expression is what is seen of it
pub taken-down : {A E : Type 0} (r : Result A E) (m : Situation) (f : Frame) (g : StepInput) (o : Option Frame) (listed : Term Slot) (values : List Known)
    → g ≡ input_at m f → Some f ≡ o → OnOk r (values ≡ known_of (cells_in g) listed)
    → OnOk r (IfSome (option_and_then (peek_by m) o) (λ peek. listed ≡ peek.code → values ≡ peek.values))
taken-down r m f g o listed values here in_hand = on_ok r (λ is.
    subst (λ (x : Option Frame). IfSome (option_and_then (peek_by m) x) (λ peek. listed ≡ peek.code → values ≡ peek.values)) in_hand
    (taken_by (input_at m f) (code_in (input_at m f)) listed values (is ∙ ap (λ (x : StepInput). known_of (cells_in x) listed) here)))
