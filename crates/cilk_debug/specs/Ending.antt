-- How a session ends over a reader that tells its bytes.
use Rattle.std.specs.Prelude.{◌≡◌, ℕ, ◌⊎◌, List, [], ◌∷◌, ◌++◌, Option, Some, None}
use Rattle.std.specs.Io.KnownBytes.{Appends, Consumes}
use Rattle.cilk_debug_console.specs.Command.{Command}
use Rattle.cilk_log_replay.specs.machine.Front.{AppendsFront}
use Rattle.cilk_debug_console.specs.Input.{Fault, line_too_long, too_many_lines, asked_in}
use Rattle.cilk_debug_console.specs.Taking.{IsPlain}
use Rattle.cilk_debug_console.specs.declared.fault.InputFault.TheVariants.{Device, LineTooLong, TooManyLines}
use Rattle.cilk_debug.specs.Debugging.{Debugging}
use Rattle.cilk_debug.specs.Obeying.{obeyed}
use Rattle.cilk_debug.specs.Session.{session}
use Rattle.cilk_debug.specs.declared.session_fault.SessionFault.{SessionFault}
use Rattle.cilk_debug.specs.declared.session_fault.SessionFault.TheVariants.{Read, Write, Memory}

-- a writer has gained the answers of the session over these bytes, and the debugger is the one that it leaves
pub record Answers (before after : Debugging) (bytes : List ℕ) (fault : Option Fault) (old new : Option (List ℕ)) : Type 0 where
  pub replies : List ℕ
  pub is : session before bytes ≡ record { replies = replies; left = after; fault = fault }
  pub written : Appends old new replies

-- nothing, or lines each of which has its newline
abbrev pub AreLines : List ℕ → Type 0
AreLines bytes = (bytes ≡ []) ⊎ ((front : List ℕ) × (bytes ≡ front ++ 10 ∷ []))

-- the reader failed behind these lines, and in the next one where it gave a part of that
pub record CutOff (before after : Debugging) (all : List ℕ) (left old new : Option (List ℕ)) : Type 0 where
  pub lines : List ℕ
  pub are : AreLines lines
  pub part : List ℕ
  pub plain : IsPlain part
  pub given : Consumes (Some all) left (lines ++ part)
  pub answers : Answers before after lines None old new

-- the first thing that some bytes ask
pub record AsksFirst (bytes : List ℕ) (command : Command) : Type 0 where
  pub others : List Command
  pub is : (asked_in bytes).commands ≡ command ∷ others

-- what failed is what the bytes behind these lines ask, which may have been obeyed and not answered
pub record RanShort (before after : Debugging) (all : List ℕ) (old new : Option (List ℕ)) : Type 0 where
  pub lines : List ℕ
  pub are : AreLines lines
  pub rest : List ℕ
  pub split : all ≡ lines ++ rest
  pub there : Debugging
  pub answers : Answers before there lines None old new
  pub stands : (after ≡ there) ⊎ ((command : Command) × (AsksFirst rest command × (after ≡ (obeyed there command).left)))

-- it stands where the commands of these bytes left it, and of the answers to them the first bytes were written
pub record Unwritten (before after : Debugging) (all : List ℕ) (old new : Option (List ℕ)) : Type 0 where
  pub lines : List ℕ
  pub rest : List ℕ
  pub split : all ≡ lines ++ rest
  pub are : AreLines lines ⊎ (rest ≡ [])
  pub replies : List ℕ
  pub is : session before lines ≡ record { replies = replies; left = after; fault = None }
  pub begun : AppendsFront old new replies

abbrev pub Breaks : Debugging → Debugging → List ℕ → Option (List ℕ) → Option (List ℕ) → Option (List ℕ) → SessionFault → Type 0
Breaks before after all left old new (Read Device) = CutOff before after all left old new
Breaks before after all left old new (Read LineTooLong) = Answers before after all (Some line_too_long) old new
Breaks before after all left old new (Read TooManyLines) = Answers before after all (Some too_many_lines) old new
Breaks before after all left old new Write = Unwritten before after all old new
Breaks before after all left old new Memory = RanShort before after all old new
