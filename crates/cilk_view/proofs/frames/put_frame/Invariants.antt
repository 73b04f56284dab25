use Rattle.std.proofs.Common.{◌≡◌, ◌++◌, string_bytes, drop}
use Rattle.std.specs.Prelude.{flat_map}
use Rattle.cilk_view.specs.Frames.{activation_by, frame_by}
use Rattle.cilk_view.proofs.frames.put_frame.Given as goal

abbrev pub invariant-loop-i : goal.invariant-loop-i
invariant-loop-i l =
    string_bytes l.out ++ flat_map (activation_by l.fn.loaded) (drop l.i l.fn.frame.activations) ≡ string_bytes l.initial.out ++ frame_by l.fn.loaded l.fn.frame
