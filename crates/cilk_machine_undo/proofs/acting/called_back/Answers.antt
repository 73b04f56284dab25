use Rattle.std.proofs.Common.{◌∙◌, ap, option_map}
use Rattle.cilk_machine_plan.specs.model.Hands.{with_hand}
use Rattle.cilk_machine_plan.specs.frame.Frames.{stood, left}
use Rattle.cilk_machine_undo.specs.Frames.{frame_before}
use Rattle.cilk_machine_undo.specs.Frames as change
use Rattle.cilk_machine_undo.specs.Words.{machine_in}
use Rattle.cilk_machine_undo.proofs.HandsTaken.{then-mapped, as-mapped}
use Rattle.cilk_machine_undo.proofs.acting.called_back.Goals as goal

pub returns : goal.returns
returns c =
    let m = machine_in c.args.parts.now in
    let s = c.args.stood in
    let f = c.requires.frame in
    let gone = c.leave.ensures ∙ ap (λ o. with_hand m.places s.worker (option_map left o)) c.requires.hand in
    let hands = then-mapped m.places s.worker c.requires.worker (left f) (stood s.node s.boundary) c.leave.new.self c.stand.new.self gone c.stand.ensures
    ∙ as-mapped m.places s.worker c.requires.worker f (frame_before (change.called s.node s.boundary)) c.requires.hand in
    λ j. record { outside = m.outside; nodes = m.nodes; places = hands j }
