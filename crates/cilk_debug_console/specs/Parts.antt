-- What it is to take the bytes in hand up to the next newline, behind those of the line that were taken before.
use Rattle.std.specs.Prelude.{◌≡◌, ◌<◌, ◌≤◌, ◌+◌, ℕ, ⊤, Bool, true, false, List, ◌∷◌, ◌++◌, [], Option, length}
use Rattle.std.specs.Str.Lines.{strip_carriage_return}
use Rattle.cilk_debug_console.specs.Words.{asked_of}
use Rattle.cilk_debug_console.specs.Asking.{command_in}
use Rattle.cilk_debug_console.specs.Input.{longest}
use Rattle.cilk_debug_console.specs.declared.next.NextLine.{NextLine}
use Rattle.cilk_debug_console.specs.declared.next.NextLine.TheVariants.{Line, Last, End}
use Rattle.cilk_debug_console.specs.Taking.{IsPlain, IsCut, IsLong}
use Rattle.cilk_debug_console.specs.declared.fault.InputFault.TheVariants.{Device, LineTooLong, TooManyLines}
use Rattle.cilk_debug_console.specs.declared.fault.LineFault.{LineFault}
use Rattle.cilk_debug_console.specs.declared.fault.LineFault.TheVariants.{Read, Memory}

-- the newline is in hand
pub record EndsLine (old new before after : List ℕ) : Type 0 where
  pub part : List ℕ
  pub plain : IsPlain part
  pub split : old ≡ part ++ 10 ∷ new
  pub line : after ≡ before ++ part
  pub short : length after ≤ longest

-- it is not
pub record UsesAll (old new before after : List ℕ) : Type 0 where
  pub plain : IsPlain old
  pub none : new ≡ []
  pub line : after ≡ before ++ old
  pub short : length after ≤ longest

abbrev pub IsPart : List ℕ → List ℕ → List ℕ → List ℕ → Bool → Type 0
IsPart old new before after true = EndsLine old new before after
IsPart old new before after false = UsesAll old new before after

-- the bytes in hand are too many
pub record IsOver (old before : List ℕ) : Type 0 where
  pub part : List ℕ
  pub plain : IsPlain part
  pub rest : List ℕ
  pub split : old ≡ part ++ rest
  pub long : longest < length before + length part

abbrev pub FailsAt : List ℕ → List ℕ → LineFault → Type 0
FailsAt old before (Read Device) = ⊥
FailsAt old before (Read LineTooLong) = IsOver old before
FailsAt old before (Read TooManyLines) = ⊥
FailsAt old before Memory = ⊤

-- no line was taken of the bytes ahead
abbrev pub FailsIn : Option (List ℕ) → Option (List ℕ) → LineFault → Type 0
FailsIn old left (Read Device) = IsCut old left
FailsIn old left (Read LineTooLong) = IsLong old
FailsIn old left (Read TooManyLines) = ⊥
FailsIn old left Memory = ⊤

-- what a line asks, by whether a newline follows it
abbrev pub LineAsks : List ℕ → Bool → NextLine → Type 0
LineAsks line true (Line command) = asked_of command ≡ command_in (strip_carriage_return line)
LineAsks line true (Last command) = ⊥
LineAsks line true End = ⊥
LineAsks line false (Line command) = ⊥
LineAsks line false (Last command) = asked_of command ≡ command_in line
LineAsks line false End = ⊥
