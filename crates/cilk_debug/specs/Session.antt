-- A session: commands that are read line by line and obeyed one after the other.
use Rattle.std.specs.Prelude.{ℕ, Bool, true, false, if◌then◌else◌, List, [], ◌∷◌, ◌++◌, Option, None}
use Rattle.cilk_debug_console.specs.Command.{Command, step, back, go, next, previous, set, clear, see, quit, nothing, unknown}
use Rattle.cilk_debug_console.specs.Input.{Fault, Asked, asked_behind}
use Rattle.cilk_debug.specs.Debugging.{Debugging}
use Rattle.cilk_debug.specs.Obeying.{obeyed}

-- what is answered, the debugger that is left, and why the input was not read to its end or to `quit`
pub record Session : Type 0 where
  pub replies : List ℕ
  pub left : Debugging
  pub fault : Option Fault

abbrev pub ends_it : Command → Bool
ends_it step = false
ends_it back = false
ends_it (go position) = false
ends_it next = false
ends_it previous = false
ends_it (set action) = false
ends_it (clear action) = false
ends_it (see what) = false
ends_it quit = true
ends_it nothing = false
ends_it unknown = false

-- with an answer in front
abbrev pub answering : List ℕ → Session → Session
answering reply s = record { replies = reply ++ s.replies; left = s.left; fault = s.fault }

abbrev pub heard : Debugging → List Command → Option Fault → Session
heard d [] fault = record { replies = []; left = d; fault = fault }
heard d (command ∷ commands) fault =
    if ends_it command
    then record { replies = []; left = d; fault = None }
    else answering (obeyed d command).reply (heard (obeyed d command).left commands fault)

abbrev pub heard_all : Debugging → Asked → Session
heard_all d asked = heard d asked.commands asked.fault

-- behind k lines that were obeyed before
abbrev pub session_behind : ℕ → Debugging → List ℕ → Session
session_behind k d bytes = heard_all d (asked_behind k bytes)

abbrev pub session : Debugging → List ℕ → Session
session d bytes = session_behind 0 d bytes
