use Rattle.std.proofs.Common.{length, sym, ap, ◌∙◌}
use Rattle.std.proofs.lemmas.Bool.{eqb-true}
use Rattle.cilk_sched.specs.model.Hands.{hand_of, deque_of}
use Rattle.cilk_machine.specs.Situation.{Situation}
use Rattle.cilk_machine.proofs.Nothing.{has_nothing}
use Rattle.cilk_machine.proofs.machine.Machine.has_nothing.Goals as goal

pub returns-in-None : goal.returns-in-None
returns-in-None c = λ e.
    has_nothing c.args.self.now.machine.places c.args.worker
    (sym (c.in-None.ensures ∙ ap (λ (x : Situation). hand_of x.machine.places c.args.worker) c.self.view_is))
    (sym (ap (λ (x : Situation). length (deque_of x.machine.places c.args.worker)) c.self.view_is) ∙ sym c.len.ensures ∙ eqb-true c.len.result 0 e)
