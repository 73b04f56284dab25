-- What the code has of a schedule that is being drawn.
use Rattle.std.specs.Prelude.{◌≡◌, ◌-◌, ◌++◌, ℕ, List, [], ◌∷◌, length, map, Some}
use Rattle.cilk_run.specs.locked.Histories.{Locked}
use Rattle.cilk_run.specs.choices.Words.{choice_of}
use Rattle.cilk_run.specs.choices.declared.choice.Choice as code
use Rattle.cilk_run.specs.labelled.Bodies.{label}
use Rattle.cilk_run.specs.machine.Made.{Makes}
use Rattle.cilk_run.specs.machine.Situation.{workers_of}
use Rattle.cilk_run.specs.machine.Stands.{Led, StandsAt}
use Rattle.cilk_run.specs.model.Event.{Event}
use Rattle.cilk_run.specs.model.Run.{Standing}
use Rattle.cilk_run.specs.syntax.Tree.{Program}
use Rattle.cilk_run.specs.Drawn.{Turn, turn_of, drawn_from, drawn}

-- the number of workers, the worker of the last choice, and the state of the generator
pub record Draws : Type 0 where
  pub workers : ℕ
  pub last : ℕ
  pub state : ℕ

abbrev pub turn_with : ℕ → code.Choice → Turn
turn_with s choice = record { choice = choice_of choice; state = s }

-- a choice that is drawn is made, and kept behind the others
pub record Goes (old new : Locked) (before behind : Draws) : Type 0 where
  pub choice : code.Choice
  pub is_drawn : (at : Standing) → StandsAt old.machine at
      → turn_of (label old.machine.program) before.workers at before.last before.state ≡ Some (turn_with behind.state choice)
  pub did : Event
  pub made : Makes old.machine new.machine (choice_of choice) did
  pub history : new.history ≡ old.history ++ choice ∷ []
  pub workers : behind.workers ≡ before.workers
  pub last : behind.last ≡ choice.worker

-- behind so many choices, with those that are still to be drawn they are those of the seed
pub record Follows (p : Program) (n seed limit made : ℕ) (l : Locked) (d : Draws) : Type 0 where
  pub program : l.machine.program ≡ p
  pub crew : workers_of l.machine ≡ n
  pub workers : d.workers ≡ n
  pub count : length l.history ≡ made
  pub events : List Event
  pub at : Standing
  pub led : Led l.machine (map choice_of l.history) events at
  pub rest : map choice_of l.history ++ drawn_from (label p) n (limit - made) at d.last d.state ≡ drawn (label p) n seed limit
