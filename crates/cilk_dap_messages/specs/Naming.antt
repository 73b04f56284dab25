-- By which number an editor names a frame.
use Rattle.std.specs.Prelude.{ℕ, ◌+◌, ◌*◌}
use Rattle.cilk_dap_messages.specs.declared.frame_name.FrameName.{FrameName}

abbrev pub number_of : FrameName → ℕ
number_of name = name.worker * 16777216 + name.index
