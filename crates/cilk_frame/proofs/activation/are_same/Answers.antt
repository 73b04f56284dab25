use Rattle.std.proofs.Common.{◌≡◌, length, refl, arith}
use Rattle.std.proofs.lemmas.List.{ext_get_or}
use Rattle.cilk_frame.specs.Frames.{no_activation}
use Rattle.cilk_frame.proofs.activation.are_same.Goals as goal

pub returns : goal.returns
returns c =
    let xs = c.args.activations.now in
    let ys = c.args.others.now in
    let long : length xs ≡ length ys = omega arith in
    (λ e. ext_get_or no_activation xs ys long (λ k h. c.loop-i.invariant k (omega arith)), λ e. refl)
