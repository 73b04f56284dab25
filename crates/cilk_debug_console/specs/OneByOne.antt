-- An input is asked line by line: what stands behind a line changes nothing of what it asks.
use Rattle.std.specs.Prelude.{◌≡◌, ◌<◌, ◌≤◌, ◌++◌, ◌∷◌, [], ℕ, suc, List, None, length}
use Rattle.std.specs.Str.Lines.{strip_carriage_return}
use Rattle.cilk_debug_console.specs.Asking.{command_in}
use Rattle.cilk_debug_console.specs.Input.{longest, most_lines, line_too_long, too_many_lines, faulty, asking, asked_behind}
use Rattle.cilk_debug_console.specs.Taking.{IsPlain, IsLine}

-- behind k other lines
pub record OneByOne : Type 0 where
  pub line : (k : ℕ) (line more : List ℕ) → IsLine k line
      → asked_behind k (line ++ 10 ∷ more) ≡ asking (command_in (strip_carriage_return line)) (asked_behind (suc k) more)
  pub last : (k : ℕ) (line : List ℕ) → IsLine k line → 0 < length line → asked_behind k line ≡ asking (command_in line) (record { commands = []; fault = None })
  pub long : (k : ℕ) (front more : List ℕ) → k < most_lines → IsPlain front → longest < length front → asked_behind k (front ++ more) ≡ faulty line_too_long
  pub many : (k b : ℕ) (more : List ℕ) → most_lines ≤ k → asked_behind k (b ∷ more) ≡ faulty too_many_lines
