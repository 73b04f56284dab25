use Rattle.std.proofs.Common.{◌≡◌, Some, ap, sym, ◌∙◌, subst, option_map}
use Rattle.cilk_machine_plan.specs.model.Hands.{hand_of, with_hand}
use Rattle.cilk_machine_plan.specs.frame.Frames.{Frame, entered}
use Rattle.cilk_machine_plan.proofs.sched_laws.Seats.{hand-same, workers-of-hand}
use Rattle.cilk_machine_plan.proofs.agree_laws.Frames.{hand-over}
use Rattle.cilk_machine_undo.specs.Frames.{put_at, frame_before}
use Rattle.cilk_machine_undo.specs.Frames as change
use Rattle.cilk_machine_undo.specs.Able.{CanTakeBack, WritesBelow}
use Rattle.cilk_machine_undo.specs.Undo.{undone}
use Rattle.cilk_machine_undo.specs.Words.{answered_by, machine_in}
use Rattle.cilk_machine_undo.proofs.HandsBack.{there-after}
use Rattle.cilk_machine_undo.proofs.HandsTaken.{as-mapped}
use Rattle.cilk_machine_undo.proofs.taking.answered_back.Goals as goal

pub write_below-requires : goal.write_below-requires
write_below-requires c =
    let m = machine_in c.args.parts.now in
    let w = c.args.worker in
    let is = sym c.replace.ensures.value ∙ c.in-Some.is in
    let can = subst (λ o. CanTakeBack (answered_by w o c.args.writing) m) is c.requires in
    let entered_hand = c.in-Ok.ensures.ok ∙ ap (λ o. with_hand m.places w (option_map (entered c.in-Some.left) o)) can.hand in
    let now = with_hand m.places w (Some (entered c.in-Some.left can.frame)) in
    subst (λ places. WritesBelow w c.args.writing.reached c.args.parts.now.globals.items places) (sym entered_hand)
    (record {
      worker = there-after m.places w can.worker now (workers-of-hand m.places w (Some (entered c.in-Some.left can.frame)));
      top = c.in-Some.left;
      rest = can.frame;
      hand = hand-same m.places w (Some (entered c.in-Some.left can.frame)) can.worker;
      some = can.allows.0;
      fits = can.allows.2;
    })

pub returns-in-Ok-clause-ok : goal.returns-in-Ok-clause-ok
returns-in-Ok-clause-ok c =
    let m = machine_in c.args.parts.now in
    let w = c.args.worker in
    let r = c.args.writing.reached in
    let z = c.args.writing.value in
    let a = c.in-Some.left in
    let is = sym c.replace.ensures.value ∙ c.in-Some.is in
    let can = subst (λ o. CanTakeBack (answered_by w o c.args.writing) m) is c.requires in
    let above : Frame = entered a can.frame in
    let came = c.in-Ok.ensures.ok ∙ ap (λ o. with_hand m.places w (option_map (entered a) o)) can.hand in
    let there = ap (λ x. hand_of x w) came ∙ hand-same m.places w (Some above) can.worker in
    let hands = c.write_below.ensures.hands a can.frame there can.allows.0
    ∙ ap (λ x. with_hand x w (Some (entered a (put_at r z can.frame)))) came
    ∙ hand-over m.places w (Some above) (Some (entered a (put_at r z can.frame))) can.worker
    ∙ as-mapped m.places w can.worker can.frame (frame_before (change.answered a r z)) can.hand in
    subst (λ o. machine_in (record c.args.parts.now { globals = c.write_below.new.globals; hands = c.write_below.new.hands })
    ≡ undone (answered_by w o c.args.writing) m) (sym is)
    (λ j. record { outside = record m.outside { cells = c.write_below.ensures.globals j }; nodes = m.nodes; places = hands j })
