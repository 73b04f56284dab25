use Rattle.std.proofs.Common.{◌<◌, ◌↔◌, ◌∙◌, List, length, IsSome, ap, arith}
use Rattle.std.proofs.lemmas.Grind.{common_steps}
use Rattle.cilk_frame.specs.Frames.{Frame}
use Rattle.cilk_frame.specs.model.Hands.{WorkerOf, bottom_of, above_bottom}
use Rattle.cilk_frame.proofs.Bottoms.{popped}
use Rattle.cilk_sched.proofs.worker.Worker.pop_bottom.Goals as goal

pub returns-clause-value : goal.returns-clause-value
returns-clause-value c =
    let some : IsSome c.pop_back.result ↔ (0 < length c.self.inside.deque.items) = grind (arith, common_steps, c.pop_back.ensures.variant) in
    (popped _ _ _ c.pop_back.ensures.items some).bottom ∙ ap (λ (p : WorkerOf Frame). bottom_of p.deque) c.self.view_is

pub returns-clause-rest : goal.returns-clause-rest
returns-clause-rest c =
    let some : IsSome c.pop_back.result ↔ (0 < length c.self.inside.deque.items) = grind (arith, common_steps, c.pop_back.ensures.variant) in
    ap (λ (d : List Frame). record { hand = c.self.inside.hand; deque = d }) (popped _ _ _ c.pop_back.ensures.items some).above
    ∙ ap (λ (p : WorkerOf Frame). record { hand = p.hand; deque = above_bottom p.deque }) c.self.view_is
