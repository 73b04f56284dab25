-- What may be asked of a debugger.
use Rattle.std.specs.Prelude.{ℕ}
use Rattle.cilk_log.specs.choices.model.What.{What}

pub data Command : Type 0 where
  -- the next choice is made
  step : Command
  -- the last one is taken back
  back : Command
  -- to the position behind so many choices
  go : (position : ℕ) → Command
  -- forward to a breakpoint
  next : Command
  -- back to one
  previous : Command
  -- a breakpoint is set at the action of this number
  set : (action : ℕ) → Command
  -- the one at the action of this number is taken away
  clear : (action : ℕ) → Command
  -- the text of a view
  see : (what : What) → Command
  -- the session ends
  quit : Command
  -- the line is empty
  nothing : Command
  -- no command is spelled so
  unknown : Command
