-- When two frames go on alike, whosever they are.
use Rattle.std.specs.Prelude.{◌≡◌}
use Rattle.cilk_frame.specs.Frames.{Frame}

pub record SameFrame (f g : Frame) : Type 0 where
  pub activations : f.activations ≡ g.activations
  pub boundary : f.boundary ≡ g.boundary
