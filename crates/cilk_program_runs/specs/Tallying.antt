-- What the runs of several seeds write.
use Rattle.std.specs.Prelude.{ℕ, List, Option}
use Rattle.cilk_program_tapes.specs.commands.Front.{Gains, GainsFront}
use Rattle.cilk_program_tapes.specs.commands.Held.{Held}
use Rattle.cilk_program_tapes.specs.commands.Loading.{IsReady}
use Rattle.cilk_program_tapes.specs.commands.labelled.Bodies.{label}
use Rattle.cilk_program_tapes.specs.commands.syntax.Tree.{Program}
use Rattle.cilk_run.specs.Tallied.{IsTallyText}

-- the tally of so many runs, from this seed on, of the program that the bytes of a text are
pub record IsTally (workers limit seed runs : ℕ) (bytes text : List ℕ) : Type 0 where
  pub program : Program
  pub ready : IsReady bytes program
  pub is : IsTallyText (label program) workers limit seed runs text

-- a writer has gained that of the program that a reader held, or has failed in it
abbrev pub Tallies : ℕ → ℕ → ℕ → ℕ → Option (List ℕ) → Option (List ℕ) → Option (List ℕ) → Type 0
Tallies workers limit seed runs known old new = Gains (λ text. Held known (λ bytes. IsTally workers limit seed runs bytes text)) old new

abbrev pub TalliesFront : ℕ → ℕ → ℕ → ℕ → Option (List ℕ) → Option (List ℕ) → Option (List ℕ) → Type 0
TalliesFront workers limit seed runs known old new = GainsFront (λ text. Held known (λ bytes. IsTally workers limit seed runs bytes text)) old new
