-- What `check` writes.
use Rattle.std.specs.Prelude.{◌≡◌, ℕ, List, ◌++◌, Option, codes, decimal}
use Rattle.cilk_load.specs.syntax.Tree.{Program}
use Rattle.cilk_load.specs.labelled.Count.{count_program}
use Rattle.cilk_load.specs.Front.{Gains, GainsFront}
use Rattle.cilk_commands.specs.Held.{Held}
use Rattle.cilk_commands.specs.Loading.{IsReady}

-- `ok, A actions`, where A is how many actions the program has
abbrev pub count_line : Program → List ℕ
count_line p = codes "ok, " ++ (decimal (count_program p) ++ codes " actions\n")

-- that line of the program that the bytes of a text are
pub record IsCounted (bytes line : List ℕ) : Type 0 where
  pub program : Program
  pub ready : IsReady bytes program
  pub is : line ≡ count_line program

-- a writer has gained that of the program that a reader held, or has failed in it
abbrev pub Passes : Option (List ℕ) → Option (List ℕ) → Option (List ℕ) → Type 0
Passes known old new = Gains (λ line. Held known (λ bytes. IsCounted bytes line)) old new

abbrev pub PassesFront : Option (List ℕ) → Option (List ℕ) → Option (List ℕ) → Type 0
PassesFront known old new = GainsFront (λ line. Held known (λ bytes. IsCounted bytes line)) old new
