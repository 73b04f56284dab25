use Rattle.std.proofs.Common.{◌∙◌, sym, ap, nat_eq}
use Rattle.cilk_machine_agree.specs.model.Hands.{deque_of}
use Rattle.cilk_view.proofs.Finds.{among_here, among_later, among_end}
use Rattle.cilk_view.proofs.finding.frame_queued.Goals.{in_default-via-in-None-1, in_default-via-in-Some+else-eq}
use Rattle.cilk_view.proofs.finding.frame_queued.Goals as goal

pub returns-in-loop-i : goal.returns-in-loop-i
returns-in-loop-i c =
    among_here c.args.id (deque_of c.args.hands.now c.args.worker) c.loop-i.i c.in-Some.frame.now c.in-Some.ensures
    (ap (λ k. nat_eq k c.args.id) (sym c.id.ensures) ∙ sym c.eq.ensures ∙ c.if-eq.true) ∙ c.loop-i.invariant

pub loop-i-preserved : goal.loop-i-preserved
loop-i-preserved c =
    elim c.in_default.branch [
      | in_default-via-in-None-1 w ↦ among_end c.args.id (deque_of c.args.hands.now c.args.worker) c.loop-i.i w.in-None-1.ensures ∙ c.loop-i.invariant
      | in_default-via-in-Some+else-eq w ↦
          among_later c.args.id (deque_of c.args.hands.now c.args.worker) c.loop-i.i w.in-Some.frame.now w.in-Some.ensures
          (ap (λ k. nat_eq k c.args.id) (sym w.id.ensures) ∙ sym w.eq.ensures ∙ w.if-eq.false)
          ∙ c.loop-i.invariant
    ]
