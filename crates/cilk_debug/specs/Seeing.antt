-- What a debugger shows.
use Rattle.std.specs.Prelude.{ℕ, List, [], length, Option, Some, None, option_and_then}
use Rattle.cilk_debug_console.specs.model.Run.{Position}
use Rattle.cilk_debug_console.specs.model.What.{What, where_it_stands}
use Rattle.cilk_debug_console.specs.model.Views.{first_line, view}
use Rattle.cilk_log_replay.specs.Tape.{Tape, position_at}
use Rattle.cilk_debug.specs.Debugging.{Debugging}

-- a view of where the first k choices lead
abbrev pub seen_behind : Tape → ℕ → What → Option (List ℕ)
seen_behind t k what = option_and_then (λ (at : Position). view t.program at (length t.choices) what) (position_at t k)

-- of where it stands
abbrev pub seen_at : Debugging → What → Option (List ℕ)
seen_at d what = seen_behind d.tape d.position what

-- the line on the position
abbrev pub position_line : Tape → Option Position → List ℕ
position_line t None = []
position_line t (Some at) = first_line t.program at (length t.choices) where_it_stands

abbrev pub line_behind : Tape → ℕ → List ℕ
line_behind t k = position_line t (position_at t k)
