use Rattle.std.proofs.Common.{ℤ, w32, sym, ap, ◌∙◌}
use Rattle.std.proofs.lemmas.Int.{to_z-of_z}
use Rattle.cilk_machine_plan.specs.frame.Frames.{depth, top_of}
use Rattle.cilk_machine_plan.specs.Made.{answered}
use Rattle.cilk_machine_step.specs.Scenes.{input_of}
use Rattle.cilk_machine_step.proofs.Left.{inner-by, given-answers}
use Rattle.cilk_machine_step.proofs.leaving.given.Goals as goal

pub answered-requires-clause-inner : goal.answered-requires-clause-inner
answered-requires-clause-inner c =
    inner-by (depth (input_of c.args.scene.now).frame) (sym c.is_outer.ensures.value ∙ c.if-is_outer.false) c.is_outer.ensures.some

pub returns-then-is_function_body : goal.returns-then-is_function_body
returns-then-is_function_body c =
    c.answered.ensures
    ∙ ap (λ (z : ℤ). answered (input_of c.args.scene.now) c.args.n z (top_of (input_of c.args.scene.now).frame).awaits)
    (to_z-of_z w32 c.args.value c.ranges.value)
    ∙ sym (given-answers (input_of c.args.scene.now) c.args.n c.args.node.now c.args.value (sym c.is_outer.ensures.value ∙ c.if-is_outer.false)
    (sym c.is_function_body.ensures ∙ c.if-is_function_body.true))
