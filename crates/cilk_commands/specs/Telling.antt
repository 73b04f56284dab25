-- The line that tells of a failure.
use Rattle.std.specs.Prelude.{◌≡◌, ℕ, Bool, true, List, [], ◌++◌, ◌⊎◌, Option, codes, decimal, IsCharBoundary, IsUtf8}
use Rattle.cilk_load.specs.lexeme.declared.fault.LexFault.{LexFault}
use Rattle.cilk_load.specs.lexeme.declared.fault.LexFault.TheVariants as lex
use Rattle.cilk_load.specs.lexeme.LineColumn.{line_in, column_in}
use Rattle.cilk_check_explain.specs.parse.declared.fault.ReadFault.{ReadFault}
use Rattle.cilk_check_explain.specs.parse.declared.fault.ReadFault.TheVariants as read
use Rattle.cilk_load.specs.scopes.declared.fault.CheckFault.{CheckFault}
use Rattle.cilk_load.specs.scopes.declared.fault.CheckFault.TheVariants as check
use Rattle.cilk_commands.specs.declared.fault.Fault.{Fault}
use Rattle.cilk_commands.specs.declared.fault.Fault.TheVariants as fault
use Rattle.cilk_commands.specs.declared.failure.Failure.{Failure}
use Rattle.cilk_commands.specs.declared.failure.Failure.TheVariants as failure
use Rattle.cilk_commands.specs.declared.status.Status.{Status}
use Rattle.cilk_commands.specs.declared.status.Status.TheVariants as status
use Rattle.cilk_check_explain.specs.Lines.{place_lines}
use Rattle.cilk_load.specs.Front.{AppendsFront}
use Rattle.cilk_commands.specs.Held.{Held, IsReadOf}
use Rattle.cilk_commands.specs.FaultPlace.{place_of}
use Rattle.cilk_commands.specs.Status.{status_of}

-- the code and the word of a fault
abbrev pub lex_words : LexFault → List ℕ
lex_words lex.TooLong = codes "L1 TooLong"
lex_words (lex.BadByte at) = codes "L2 BadByte"
lex_words (lex.OpenComment at) = codes "L3 OpenComment"
lex_words (lex.OpenText at) = codes "L4 OpenText"
lex_words (lex.BadNumber at) = codes "L5 BadNumber"
lex_words (lex.BadEscape at) = codes "L6 BadEscape"
lex_words (lex.BadDirective at) = codes "L7 BadDirective"
lex_words lex.Memory = codes "out of memory"

abbrev pub read_words : ReadFault → List ℕ
read_words (read.Lex found) = lex_words found
read_words (read.Unexpected at) = codes "P2 Unexpected"
read_words (read.TooDeep at) = codes "P3 TooDeep"
read_words read.Memory = codes "out of memory"

abbrev pub check_words : CheckFault → List ℕ
check_words (check.Twice at) = codes "C1 Twice"
check_words (check.Unknown at) = codes "C2 Unknown"
check_words (check.WrongKind at) = codes "C3 WrongKind"
check_words (check.ArgumentCount at) = codes "C4 ArgumentCount"
check_words (check.VoidValue at) = codes "C5 VoidValue"
check_words (check.NotInProcedure at) = codes "C6 NotInProcedure"
check_words (check.InletNeedsSpawn at) = codes "C7 InletNeedsSpawn"
check_words (check.InInlet at) = codes "C8 InInlet"
check_words (check.AbortOutside at) = codes "C9 AbortOutside"
check_words (check.NoLoop at) = codes "C10 NoLoop"
check_words (check.Prototype at) = codes "C11 Prototype"
check_words (check.NoMain at) = codes "C12 NoMain"
check_words (check.ReturnForm at) = codes "C13 ReturnForm"
check_words (check.Format at) = codes "C14 Format"
check_words (check.Limit at) = codes "C15 Limit"
check_words (check.Reserved at) = codes "C16 Reserved"
check_words (check.Label at) = codes "C17 Label"
check_words check.Memory = codes "out of memory"

abbrev pub words_of : Fault → List ℕ
words_of (fault.Read found) = read_words found
words_of (fault.Check found) = check_words found

-- a fault stands behind the name of the text, and the line and the column of its place
abbrev pub fault_line : List ℕ → List ℕ → List ℕ → List ℕ → List ℕ
fault_line name line column words = name ++ (codes ":" ++ (line ++ (codes ":" ++ (column ++ (codes ": " ++ (words ++ codes "\n"))))))

-- the line and its newline for the text of this name
abbrev pub failure_line : List ℕ → Failure → List ℕ
failure_line name failure.CannotRead = codes "cilk: cannot read " ++ (name ++ codes "\n")
failure_line name (failure.Fault found line column) = fault_line name (decimal line) (decimal column) (words_of found)
failure_line name failure.NotUtf8 = name ++ codes ": not UTF-8\n"
failure_line name failure.TooMany = name ++ codes ": N1 TooMany\n"
failure_line name failure.Memory = codes "cilk: out of memory\n"
failure_line name failure.CannotWrite = codes "cilk: cannot write output\n"

-- what people are told of a fault: the line of its place, with a mark below the place, and a sentence
pub record IsTold (text : List ℕ) (at : ℕ) (told : List ℕ) : Type 0 where
  pub lines : List ℕ
  pub words : List ℕ
  pub is : told ≡ lines ++ (words ++ codes ".\n")
  pub marked : IsUtf8 text → IsCharBoundary text at → lines ≡ place_lines text at

-- where an action stands in the text of this name: its place with its number, as a fault has its place, the line of the place, and a mark below the place
abbrev pub lines_at_action : List ℕ → List ℕ → ℕ → ℕ → List ℕ
lines_at_action name text at number =
    fault_line name (decimal (line_in text at)) (decimal (column_in text at)) (codes "action " ++ decimal number) ++ place_lines text at

-- that of some place at which a character begins
pub record IsActionTold (name text : List ℕ) (number : ℕ) (told : List ℕ) : Type 0 where
  pub at : ℕ
  pub begins : IsCharBoundary text at
  pub is : told ≡ lines_at_action name text at number

-- what is told behind the line of a failure with the text: nothing where it is not asked for, or where memory runs out, or of what has no place
abbrev pub IsExplanation : Bool → List ℕ → Failure → List ℕ → Type 0
IsExplanation true text (failure.Fault found line column) told = (told ≡ []) ⊎ IsTold text (place_of found) told
IsExplanation explain text why told = told ≡ []

-- a writer has gained that line and what is told behind it, or the first bytes of them, since what cannot be written is lost
abbrev pub WritesFailure : List ℕ → Failure → List ℕ → Option (List ℕ) → Option (List ℕ) → Type 0
WritesFailure name why told old new = AppendsFront old new (failure_line name why ++ told)

-- what is told behind the line of a failure with the text that a reader held
pub record Explained (explain : Bool) (known : Option (List ℕ)) (why : Failure) (told : List ℕ) : Type 0 where
  pub text : List ℕ
  pub read : IsReadOf known text
  pub is : IsExplanation explain text why told

-- in place of an answer a writer is told of a failure: the status is that failure's, and a text that is refused has it
pub record GivesUp (Reason : List ℕ → Failure → Type 0) (explain : Bool) (name : List ℕ) (ended : Status) (known old new : Option (List ℕ)) : Type 0 where
  pub why : Failure
  pub status_is : ended ≡ status_of why
  pub declined : ended ≡ status.Refused → Held known (λ bytes. Reason bytes why)
  pub behind : List ℕ
  pub explained : Explained explain known why behind
  pub told : WritesFailure name why behind old new
