-- A machine whose choices are kept.
use Rattle.std.specs.Prelude.{List, map}
use Rattle.cilk_machine.specs.model.Event.{Event}
use Rattle.cilk_machine.specs.model.Run.{Standing}
use Rattle.cilk_log.specs.choices.Words.{choice_of}
use Rattle.cilk_log.specs.choices.declared.choice.Choice.{Choice}
use Rattle.cilk_machine.specs.Situation.{Situation}
use Rattle.cilk_machine.specs.Stands.{Led}

-- what contracts see of a `Locked`: a machine and a list of choices
pub record Locked : Type 0 where
  pub machine : Situation
  pub history : List Choice

-- from the start of its program, with as many workers as it has, these choices lead to the machine
pub record IsLedBy (m : Situation) (history : List Choice) : Type 0 where
  pub events : List Event
  pub at : Standing
  pub led : Led m (map choice_of history) events at
