-- Worked rows: lines, and what they ask.
use Rattle.std.specs.Prelude.{◌≡◌, refl, [], ◌∷◌, codes, None}
use Rattle.cilk_log.specs.choices.model.What.{tree, frame, where_it_stands}
use Rattle.cilk_debug_console.specs.Command.{step, go, set, see, nothing, unknown}
use Rattle.cilk_debug_console.specs.Asking.{command_in}
use Rattle.cilk_debug_console.specs.Input.{asked_in}

root : command_in (codes "frame /") ≡ see (frame [])
root = refl

below : command_in (codes "frame /3/1") ≡ see (frame (3 ∷ 1 ∷ []))
below = refl

-- children count from 1
no_child : command_in (codes "frame /0") ≡ unknown
no_child = refl

no_ordinal : command_in (codes "frame //1") ≡ unknown
no_ordinal = refl

slash_at_the_end : command_in (codes "frame /1/") ≡ unknown
slash_at_the_end = refl

no_slash : command_in (codes "frame 1") ≡ unknown
no_slash = refl

leading_zeros : command_in (codes "go 007") ≡ unknown
leading_zeros = refl

ten_digits : command_in (codes "go 1000000000") ≡ unknown
ten_digits = refl

nine_digits : command_in (codes "go 999999999") ≡ go 999999999
nine_digits = refl

to_the_start : command_in (codes "go 0") ≡ go 0
to_the_start = refl

breakpoint : command_in (codes "break 12") ≡ set 12
breakpoint = refl

two_spaces : command_in (codes "break  12") ≡ unknown
two_spaces = refl

more_behind : command_in (codes "step 1") ≡ unknown
more_behind = refl

empty : command_in [] ≡ nothing
empty = refl

-- a newline, and a byte 13 before it
lines : asked_in (codes "step\ntree\r\n\r\n\r\r\nwhere") ≡ record { commands = step ∷ see tree ∷ nothing ∷ unknown ∷ see where_it_stands ∷ []; fault = None }
lines = refl

-- no newline follows it
no_newline : asked_in (codes "tree\r") ≡ record { commands = unknown ∷ []; fault = None }
no_newline = refl

no_line : asked_in [] ≡ record { commands = []; fault = None }
no_line = refl
