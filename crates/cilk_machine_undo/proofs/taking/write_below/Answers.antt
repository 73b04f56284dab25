use Rattle.std.proofs.Common.{◌≡◌, Some, ap, sym, ◌∙◌, ◌+◌, option_map, arith}
use Rattle.std.proofs.lemmas.Int.{to_z-of_z}
use mir.Val.{of_z, to_z}
use mir.Syntax.{w32}
use Rattle.cilk_machine_plan.specs.model.Hands.{hand_of, with_hand}
use Rattle.cilk_machine_plan.specs.frame.Frames.{put_below, entered}
use Rattle.cilk_machine_plan.specs.frame.Cells.{put_in}
use Rattle.cilk_machine_undo.proofs.Below.{below-is}
use Rattle.cilk_machine_undo.proofs.taking.write_below.Goals as goal

pub returns-in-Own-clause-hands : goal.returns-in-Own-clause-hands
returns-in-Own-clause-hands c = λ a f held some.
    let places = c.args.hands.now in
    let w = c.args.worker in
    let r = c.args.writing.reached in
    let k = r.slot.offset + r.index in
    let z = c.args.writing.value in
    let same : to_z w32 (of_z w32 z) ≡ z = grind (arith, to_z-of_z) in
    c.set_cell_below.ensures ∙ ap (λ y. with_hand places w (option_map (put_below k y) (hand_of places w))) same
    ∙ ap (λ o. with_hand places w (option_map (put_below k z) o)) held
    ∙ ap (λ g. with_hand places w (Some g)) (below-is f a k z some ∙ ap (λ area. entered a (put_in area k z f)) (sym c.in-Own.is))
