-- Which texts are programs that can be run, and why the others are not.
use Rattle.std.specs.Prelude.{ℕ, List, ◌≤◌, ◌<◌}
use Rattle.cilk_load.specs.syntax.Tree.{Program}
use Rattle.cilk_load.specs.labelled.Count.{count_program}
use Rattle.cilk_commands.specs.declared.failure.Failure.{Failure}
use Rattle.cilk_commands.specs.declared.failure.Failure.TheVariants as failure
use Rattle.cilk_commands.specs.Program.{IsProgram, Explains}

-- so many actions a program may have
abbrev pub action_limit : ℕ
action_limit = 65535

-- the bytes of a text are a program that can be run
pub record IsReady (bytes : List ℕ) (program : Program) : Type 0 where
  pub is : IsProgram bytes program
  pub few : count_program program ≤ action_limit

-- they are one of too many actions
pub record IsTooLarge (bytes : List ℕ) : Type 0 where
  pub program : Program
  pub is : IsProgram bytes program
  pub many : action_limit < count_program program

-- why they are none that can be run
abbrev pub Unready : List ℕ → Failure → Type 0
Unready bytes failure.TooMany = IsTooLarge bytes
Unready bytes why = Explains bytes why
