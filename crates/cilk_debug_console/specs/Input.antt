-- What an input asks, line by line.
use Rattle.std.specs.Prelude.{ℕ, suc, nat_le, nat_lt, if◌then◌else◌, List, [], ◌∷◌, Option, Some, None, length}
use Rattle.std.specs.Str.Lines.{strip_carriage_return}
use Rattle.cilk_log.specs.Reading.{lines_of}
use Rattle.cilk_debug_console.specs.Command.{Command}
use Rattle.cilk_debug_console.specs.Asking.{command_in}

-- so many bytes may a line have before its newline, and so many lines may there be
abbrev pub longest : ℕ
longest = 4096

abbrev pub most_lines : ℕ
most_lines = 1000000

-- why an input is not read to its end
pub data Fault : Type 0 where
  line_too_long : Fault
  too_many_lines : Fault

-- the commands in front of that, or all of them
pub record Asked : Type 0 where
  pub commands : List Command
  pub fault : Option Fault

abbrev pub faulty : Fault → Asked
faulty fault = record { commands = []; fault = Some fault }

abbrev pub asking : Command → Asked → Asked
asking command others = record { commands = command ∷ others.commands; fault = others.fault }

-- a line behind k others
abbrev pub within : ℕ → List ℕ → Asked → Asked
within k line asked =
    if nat_lt k most_lines then (if nat_le (length line) longest then asked else faulty line_too_long) else faulty too_many_lines

-- what stands behind the last newline is a line too, if there is something
abbrev pub asked_last : ℕ → List ℕ → Asked
asked_last k [] = record { commands = []; fault = None }
asked_last k (b ∷ rest) = within k (b ∷ rest) (asking (command_in (b ∷ rest)) (record { commands = []; fault = None }))

-- one byte 13 before a newline is no part of what is asked
abbrev pub asked_by_lines : ℕ → List (List ℕ) → List ℕ → Asked
asked_by_lines k [] rest = asked_last k rest
asked_by_lines k (line ∷ lines) rest = within k line (asking (command_in (strip_carriage_return line)) (asked_by_lines (suc k) lines rest))

-- behind k other lines
abbrev pub asked_behind : ℕ → List ℕ → Asked
asked_behind k bytes = asked_by_lines k (lines_of bytes).whole (lines_of bytes).rest

abbrev pub asked_in : List ℕ → Asked
asked_in bytes = asked_behind 0 bytes
