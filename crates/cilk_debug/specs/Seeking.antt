-- Where a move to a breakpoint ends.
use Rattle.std.specs.Prelude.{ℕ, Bool, length, unwrap_or, is_some}
use Rattle.cilk_log_replay.specs.Breaks.{next_stop, last_stop}
use Rattle.cilk_debug.specs.Debugging.{Debugging}

-- at the next one above the position, or behind all choices
abbrev pub forward_position : Debugging → ℕ
forward_position d = unwrap_or (next_stop d.tape d.marks d.position) (length d.tape.choices)

abbrev pub is_any_ahead : Debugging → Bool
is_any_ahead d = is_some (next_stop d.tape d.marks d.position)

-- at the last one below the position, or before any choice
abbrev pub back_position : Debugging → ℕ
back_position d = unwrap_or (last_stop d.tape d.marks d.position) 0

abbrev pub is_any_behind : Debugging → Bool
is_any_behind d = is_some (last_stop d.tape d.marks d.position)
