-- What `print` writes.
use Rattle.std.specs.Prelude.{◌≡◌, ℕ, List, Option}
use Rattle.cilk_load.specs.syntax.Tree.{Program}
use Rattle.cilk_load.specs.syntax.ProgramText.{program_text}
use Rattle.cilk_load.specs.Front.{Gains, GainsFront}
use Rattle.cilk_commands.specs.Held.{Held}
use Rattle.cilk_commands.specs.Loading.{IsReady}

-- the canonical text of the program that the bytes of a text are
pub record IsPrinted (bytes text : List ℕ) : Type 0 where
  pub program : Program
  pub ready : IsReady bytes program
  pub is : text ≡ program_text program

-- a writer has gained that of the program that a reader held, or has failed in it
abbrev pub Prints : Option (List ℕ) → Option (List ℕ) → Option (List ℕ) → Type 0
Prints known old new = Gains (λ text. Held known (λ bytes. IsPrinted bytes text)) old new

abbrev pub PrintsFront : Option (List ℕ) → Option (List ℕ) → Option (List ℕ) → Type 0
PrintsFront known old new = GainsFront (λ text. Held known (λ bytes. IsPrinted bytes text)) old new
