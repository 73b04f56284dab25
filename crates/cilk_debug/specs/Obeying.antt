-- What a debugger does at a command, and what it answers.
use Rattle.std.specs.Prelude.{ℕ, ◌+◌, ◌-◌, nat_le, nat_lt, ◌&&◌, Bool, true, false, if◌then◌else◌, List, [], length, slice_set, codes, Option, Some, None}
use Rattle.cilk_log_replay.specs.machine.labelled.Count.{count_program}
use Rattle.cilk_debug_console.specs.model.What.{where_it_stands}
use Rattle.cilk_debug_console.specs.Command.{Command, step, back, go, next, previous, set, clear, see, quit, nothing, unknown}
use Rattle.cilk_debug.specs.Debugging.{Debugging}
use Rattle.cilk_debug.specs.Seeing.{seen_at}
use Rattle.cilk_debug.specs.Seeking.{forward_position, back_position}

-- each answer ends in a newline, and so does each line of a view
abbrev pub shown_text : Option (List ℕ) → List ℕ
shown_text None = codes "B5 NoInstance\n"
shown_text (Some text) = text

-- the answer, and the debugger that is left
pub record Obeyed : Type 0 where
  pub reply : List ℕ
  pub left : Debugging

abbrev pub stays : Debugging → List ℕ → Obeyed
stays d reply = record { reply = reply; left = d }

abbrev pub at : Debugging → ℕ → Debugging
at d k = record d { position = k }

-- a move is answered like `where` at its end
abbrev pub moved : Debugging → ℕ → Obeyed
moved d k = record { reply = shown_text (seen_at (at d k) where_it_stands); left = at d k }

abbrev pub forwards : Debugging → ℕ → Obeyed
forwards d k = if nat_lt d.position (length d.tape.choices) then moved d k else stays d (codes "B2 AtEnd\n")

abbrev pub backwards : Debugging → ℕ → Obeyed
backwards d k = if nat_lt 0 d.position then moved d k else stays d (codes "B3 AtStart\n")

-- actions count from 1
abbrev pub marked : Debugging → ℕ → Bool → Obeyed
marked d n mark =
    if nat_le 1 n && nat_le n (count_program d.tape.program)
    then record { reply = codes "ok\n"; left = record d { marks = slice_set d.marks (n - 1) mark } }
    else stays d (codes "B4 NoStatement\n")

abbrev pub obeyed : Debugging → Command → Obeyed
obeyed d step = forwards d (d.position + 1)
obeyed d back = backwards d (d.position - 1)
obeyed d (go k) = if nat_le k (length d.tape.choices) then moved d k else stays d (codes "B6 OutOfRange\n")
obeyed d next = forwards d (forward_position d)
obeyed d previous = backwards d (back_position d)
obeyed d (set n) = marked d n true
obeyed d (clear n) = marked d n false
obeyed d (see what) = stays d (shown_text (seen_at d what))
obeyed d quit = stays d []
obeyed d nothing = stays d []
obeyed d unknown = stays d (codes "unknown command\n")
