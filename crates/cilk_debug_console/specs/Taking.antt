-- What it is to take the next line of an input.
use Rattle.std.specs.Prelude.{◌≡◌, ◌<◌, ◌≤◌, ℕ, suc, ⊤, true, not, ◌==◌, List, [], ◌∷◌, ◌++◌, Option, length}
use Rattle.std.specs.List.{list_all}
use Rattle.std.specs.Io.KnownBytes.{prepend_known, Consumes, IsAtEnd}
use Rattle.std.specs.Str.Lines.{strip_carriage_return}
use Rattle.cilk_debug_console.specs.Command.{Command}
use Rattle.cilk_debug_console.specs.Words.{asked_of}
use Rattle.cilk_debug_console.specs.Asking.{command_in}
use Rattle.cilk_debug_console.specs.Input.{longest, most_lines}
use Rattle.cilk_debug_console.specs.declared.next.NextLine.{NextLine}
use Rattle.cilk_debug_console.specs.declared.next.NextLine.TheVariants.{Line, Last, End}
use Rattle.cilk_debug_console.specs.declared.fault.InputFault.TheVariants.{Device, LineTooLong, TooManyLines}
use Rattle.cilk_debug_console.specs.declared.fault.LineFault.{LineFault}
use Rattle.cilk_debug_console.specs.declared.fault.LineFault.TheVariants.{Read, Memory}

-- the bytes that were read and not taken, and how many lines were taken
pub record Reading : Type 0 where
  pub unread : List ℕ
  pub taken : ℕ

-- the bytes that are not taken, where the reader tells those that it has left
abbrev pub ahead : List ℕ → Option (List ℕ) → Option (List ℕ)
ahead unread left = prepend_known unread left

-- no newline is among them
abbrev pub IsPlain : List ℕ → Type 0
IsPlain bytes = list_all (λ b. not (b == 10)) bytes ≡ true

-- a line behind k others that is not too long
pub record IsLine (k : ℕ) (line : List ℕ) : Type 0 where
  pub plain : IsPlain line
  pub short : length line ≤ longest
  pub room : k < most_lines

-- one was taken with its newline
pub record TakesLine (k : ℕ) (old new : Option (List ℕ)) (asked : Command) : Type 0 where
  pub line : List ℕ
  pub is : IsLine k line
  pub asks : asked ≡ command_in (strip_carriage_return line)
  pub taken : Consumes old new (line ++ 10 ∷ [])

-- the bytes that were left are one
pub record TakesLast (k : ℕ) (old new : Option (List ℕ)) (asked : Command) : Type 0 where
  pub line : List ℕ
  pub is : IsLine k line
  pub some : 0 < length line
  pub asks : asked ≡ command_in line
  pub taken : Consumes old new line
  pub end : IsAtEnd new

abbrev pub TakesNext : Reading → Reading → Option (List ℕ) → Option (List ℕ) → NextLine → Type 0
TakesNext old new before left (Line command) =
    TakesLine old.taken (ahead old.unread before) (ahead new.unread left) (asked_of command) × (new.taken ≡ suc old.taken)
TakesNext old new before left (Last command) = TakesLast old.taken (ahead old.unread before) (ahead new.unread left) (asked_of command)
TakesNext old new before left End = IsAtEnd (ahead old.unread before)

-- the reader failed in a line of which it gave these bytes
pub record IsCut (old left : Option (List ℕ)) : Type 0 where
  pub front : List ℕ
  pub plain : IsPlain front
  pub taken : Consumes old left front

-- more bytes than a line may have stand before a newline
pub record IsLong (old : Option (List ℕ)) : Type 0 where
  pub front : List ℕ
  pub plain : IsPlain front
  pub long : longest < length front
  pub more : Option (List ℕ)
  pub taken : Consumes old more front

-- and it is a line that may be taken behind k others
pub record IsTooLong (k : ℕ) (old : Option (List ℕ)) : Type 0 where
  pub room : k < most_lines
  pub long : IsLong old

-- k lines are as many as may be, and there is one more
pub record IsTooMany (k : ℕ) (old : Option (List ℕ)) : Type 0 where
  pub full : most_lines ≤ k
  pub first : ℕ
  pub more : Option (List ℕ)
  pub taken : Consumes old more (first ∷ [])

abbrev pub Fails : Reading → Option (List ℕ) → Option (List ℕ) → LineFault → Type 0
Fails old before left (Read Device) = IsCut (ahead old.unread before) left
Fails old before left (Read LineTooLong) = IsTooLong old.taken (ahead old.unread before)
Fails old before left (Read TooManyLines) = IsTooMany old.taken (ahead old.unread before)
Fails old before left Memory = ⊤
