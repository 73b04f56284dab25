-- A machine that goes on and back among the choices of a tape, with a record of each choice since it was put somewhere.
use Rattle.std.specs.Prelude.{◌≡◌, ◌≤◌, ◌∷◌, ℕ, ⊤, true, suc, List, [], length}
use Rattle.cilk_machine.specs.syntax.Tree.{Program}
use Rattle.cilk_machine.specs.model.Choice.{Choice}
use Rattle.cilk_machine.specs.Situation.{Before, Situation}
use Rattle.cilk_machine.specs.Kept.{situation_at}
use Rattle.cilk_log_replay.specs.Tape.{Tape, IsAt}

-- the machine was there before a choice of the tape
abbrev pub WasAt : Tape → Before → Type 0
WasAt t b = IsAt t b.choices (situation_at t.program b)

abbrev pub AreThere : Tape → List Before → Type 0
AreThere t [] = ⊤
AreThere t (b ∷ bs) = WasAt t b × AreThere t bs

pub record Goes (t : Tape) (m : Situation) : Type 0 where
  pub within : m.choices ≤ length t.choices
  pub stands : IsAt t m.choices m
  pub keeps : m.keeps ≡ true
  pub past : AreThere t m.past

-- a machine of a program, whatever the choices are
abbrev pub GoesAll : Program → ℕ → Situation → Type 0
GoesAll program workers m = (choices : List Choice) → Goes (record { program = program; workers = workers; choices = choices }) m

-- records go on being kept, one more where they are
pub record KeepsOneMore (m n : Situation) : Type 0 where
  pub keeps : n.keeps ≡ m.keeps
  pub more : m.keeps ≡ true → length n.past ≡ suc (length m.past)
