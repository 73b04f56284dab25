use Rattle.std.proofs.Common.{vec_len, vec_capacity, arith}
use Rattle.cilk_machine.specs.Pasts.{pasts, kept_of, running_at}
use Rattle.cilk_machine.proofs.Kept.{kept-none, forgotten}
use Rattle.cilk_machine.proofs.machine.Machine.forget.Goals as goal

pub invariant_of-self : goal.invariant_of-self
invariant_of-self c =
    let now = c.clear.new.self in
    forgotten c.self.invariant (kept_of now.items) (kept-none now.items c.clear.ensures.items) (vec_len now) (vec_capacity now)
    (omega (arith, c.clear.ensures.len))
    (omega (arith, c.clear.ensures.capacity))

pub returns : goal.returns
returns c =
    let x = c.self.inside in
    let now = c.clear.new.self in
    λ i. record (c.self.view_is i) { past = pasts (kept-none now.items c.clear.ensures.items i) (running_at x.parts x.choices) }
