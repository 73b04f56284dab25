-- Each choice keeps the written rule.
use Rattle.std.specs.Prelude.{◌≡◌, ◌≢◌, ℕ, List, [], ◌∷◌, ◌++◌, Option, Some, None}
use Rattle.cilk_model.specs.labelled.Labelled.{Labelled}
use Rattle.cilk_model.specs.Path.{Path}
use Rattle.cilk_model.specs.State.{State}
use Rattle.cilk_model.specs.Event.{Event, moved}
use Rattle.cilk_model.specs.Scheduler.{hand_of}
use Rattle.cilk_model.specs.Choice.{Choice}
use Rattle.cilk_model.specs.Run.{Position, after}
use Rattle.cilk_laws_model.specs.Told.{AllowsAs}

-- s allows t by a step of the instance in a hand, which is told by this event
abbrev pub AllowsBy : Labelled → State → Option Path → State → Event → Type 0
AllowsBy program s None t did = ⊥
AllowsBy program s (Some p) t did = AllowsAs program s p t did

-- where frames alone were moved, the states are equal; every other event is of a step that the written rule allows to the instance in the worker's hand
pub record KeepsRule (program : Labelled) (s : State) (hand : Option Path) (did : Event) (t : State) : Type 0 where
  pub same : did ≡ moved → t ≡ s
  pub allowed : did ≢ moved → AllowsBy program s hand t did

-- what one more choice did
pub record OneMore (program : Labelled) (choice : Choice) (at next : Position) : Type 0 where
  pub did : Event
  pub events : next.events ≡ at.events ++ did ∷ []
  pub rule : KeepsRule program at.standing.state (hand_of at.standing.scheduler.places choice.worker) did next.standing.state

-- after every list of possible choices, the next one keeps the rule
abbrev pub EachChoiceKeepsRule : Type 0
EachChoiceKeepsRule = (program : Labelled) (n : ℕ) (choices : List Choice) (choice : Choice) (at next : Position)
    → after program n choices ≡ Some at → after program n (choices ++ choice ∷ []) ≡ Some next → OneMore program choice at next
