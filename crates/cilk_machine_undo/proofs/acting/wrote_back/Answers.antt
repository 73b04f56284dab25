use Rattle.std.proofs.Common.{Some, ap, ◌∙◌}
use Rattle.cilk_machine_plan.specs.model.Hands.{with_hand}
use Rattle.cilk_machine_plan.specs.frame.Frames.{stood}
use Rattle.cilk_machine_plan.specs.Ready.{frame_of}
use Rattle.cilk_machine_undo.specs.Frames.{put_at, frame_before}
use Rattle.cilk_machine_undo.specs.Frames as change
use Rattle.cilk_machine_undo.specs.Words.{machine_in}
use Rattle.cilk_machine_undo.proofs.HandsTaken.{then-mapped, as-mapped}
use Rattle.cilk_machine_undo.proofs.acting.wrote_back.Goals as goal

pub returns : goal.returns
returns c =
    let m = machine_in c.args.parts.now in
    let s = c.args.stood in
    let r = c.args.writing.reached in
    let z = c.args.writing.value in
    let f = c.requires.frame in
    let put = c.write_cell.ensures.hands ∙ (λ j. with_hand m.places s.worker (Some (put_at r z (ap frame_of c.requires.hand j)))) in
    let hands = then-mapped m.places s.worker c.requires.worker (put_at r z f) (stood s.node s.boundary) c.write_cell.new.hands c.stand.new.self put
    c.stand.ensures
    ∙ as-mapped m.places s.worker c.requires.worker f (frame_before (change.wrote s.node s.boundary r z)) c.requires.hand in
    λ j. record { outside = record m.outside { cells = c.write_cell.ensures.globals j }; nodes = m.nodes; places = hands j }
