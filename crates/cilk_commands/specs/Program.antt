-- Which program the bytes of a text are, and why they are none.
use Rattle.std.specs.Prelude.{ℕ, List, length, ◌≡◌, ◌≢◌, ◌≤◌, ◌<◌, ◌⊎◌, IsUtf8}
use Rattle.cilk_load.specs.lexeme.declared.fault.LexFault.TheVariants as lex
use Rattle.cilk_load.specs.lexeme.LineColumn.{line_in, column_in}
use Rattle.cilk_check_explain.specs.lex.declared.reading.TheConstants.{TEXT_LIMIT}
use Rattle.cilk_load.specs.syntax.Tree.{Program}
use Rattle.cilk_check_explain.specs.parse.declared.fault.ReadFault.{ReadFault}
use Rattle.cilk_check_explain.specs.parse.declared.fault.ReadFault.TheVariants as read
use Rattle.cilk_check_explain.specs.parse.Text.{Spells, HasFault}
use Rattle.cilk_check_explain.specs.parse.FaultPlace.{place_of as read_place}
use Rattle.cilk_load.specs.scopes.declared.fault.CheckFault.{CheckFault}
use Rattle.cilk_load.specs.scopes.Fault.{place_of as check_place}
use Rattle.cilk_load.specs.scopes.WellFormed.{WellFormed, IsFirstFault}
use Rattle.cilk_commands.specs.declared.fault.Fault.TheVariants as fault
use Rattle.cilk_commands.specs.declared.failure.Failure.{Failure}
use Rattle.cilk_commands.specs.declared.failure.Failure.TheVariants as failure

-- a text that is short enough spells the program
pub record IsText (bytes : List ℕ) (program : Program) : Type 0 where
  pub short : length bytes ≤ TEXT_LIMIT
  pub utf8 : IsUtf8 bytes
  pub spelled : Spells bytes program

-- and it keeps the rules of the language
pub record IsProgram (bytes : List ℕ) (program : Program) : Type 0 where
  pub text : IsText bytes program
  pub well_formed : WellFormed program

-- a text of more bytes than a program may have, whatever they are
pub record IsTooLong (bytes : List ℕ) (fault : ReadFault) (line column : ℕ) : Type 0 where
  pub long : TEXT_LIMIT < length bytes
  pub fault_is : fault ≡ read.Lex lex.TooLong
  pub line_is : line ≡ 1
  pub column_is : column ≡ 1

-- a text that spells no program, with the fault and the line and column of its place
pub record IsNoProgram (bytes : List ℕ) (fault : ReadFault) (line column : ℕ) : Type 0 where
  pub short : length bytes ≤ TEXT_LIMIT
  pub utf8 : IsUtf8 bytes
  pub refused : HasFault bytes fault
  pub not_memory : fault ≢ read.Memory
  pub line_is : line ≡ line_in bytes (read_place fault)
  pub column_is : column ≡ column_in bytes (read_place fault)

-- a text whose program breaks a rule, with its first fault and the line and column of its place
pub record IsIllFormed (bytes : List ℕ) (fault : CheckFault) (line column : ℕ) : Type 0 where
  pub program : Program
  pub text : IsText bytes program
  pub first : IsFirstFault program fault
  pub line_is : line ≡ line_in bytes (check_place fault)
  pub column_is : column ≡ column_in bytes (check_place fault)

-- why the bytes are no program of the language: memory may always run out
abbrev pub IsReason : List ℕ → Failure → Type 0
IsReason bytes (failure.Fault (fault.Read found) line column) = IsTooLong bytes found line column ⊎ IsNoProgram bytes found line column
IsReason bytes (failure.Fault (fault.Check found) line column) = IsIllFormed bytes found line column
IsReason bytes failure.NotUtf8 = (length bytes ≤ TEXT_LIMIT) × ¬ (IsUtf8 bytes)
IsReason bytes failure.Memory = Unit {0}
IsReason bytes failure.TooMany = ⊥
IsReason bytes failure.CannotRead = ⊥
IsReason bytes failure.CannotWrite = ⊥

-- a failure that tells why they are none
pub record Explains (bytes : List ℕ) (why : Failure) : Type 0 where
  pub reason : IsReason bytes why
