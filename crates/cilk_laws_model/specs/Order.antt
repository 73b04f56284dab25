-- The written rule allows each step that is taken from a state that is in order, and each state that choices reach is.
use Rattle.std.specs.Prelude.{◌≡◌, ℕ, true, ⊤, List, Some}
use Rattle.cilk_model.specs.labelled.Labelled.{Labelled}
use Rattle.cilk_model.specs.Path.{Path, child_path}
use Rattle.cilk_model.specs.State.{State, PathsAreApart, Counted, running, is_live}
use Rattle.cilk_model.specs.Pick.{Step, waits, parks, goes_on, ends, spawns, step_of}
use Rattle.cilk_model.specs.Choice.{Choice}
use Rattle.cilk_model.specs.Run.{Position, after}
use Rattle.cilk_laws_model.specs.Told.{AllowsAs}

pub record InOrder (s : State) : Type 0 where
  pub apart : PathsAreApart s.instances
  pub family : (p : Path) (k : ℕ) → is_live s.instances (child_path p k) ≡ true → Counted s.instances p k

-- where a step leads, if it leads anywhere, and what it is told by
abbrev pub AllowedStep : Labelled → State → Path → Step → Type 0
AllowedStep program s p waits = ⊤
AllowedStep program s p parks = ⊤
AllowedStep program s p (goes_on t did) = AllowsAs program s p t did
AllowedStep program s p (ends t did) = AllowsAs program s p t did
AllowedStep program s p (spawns child t did) = AllowsAs program s p t did

abbrev pub EachPickIsAllowed : Type 0
EachPickIsAllowed = (program : Labelled) (s : State) (p : Path) → s.outcome ≡ running → InOrder s → AllowedStep program s p (step_of program s p)

-- after every list of possible choices
abbrev pub EachStateIsInOrder : Type 0
EachStateIsInOrder = (program : Labelled) (n : ℕ) (choices : List Choice) (at : Position)
    → after program n choices ≡ Some at → InOrder at.standing.state
