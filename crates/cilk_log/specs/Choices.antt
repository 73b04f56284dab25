-- One choice, and the line that tells it.
use Rattle.std.specs.Prelude.{ℕ, ◌<◌, ⊤, List, ◌++◌, codes, decimal}
use Rattle.cilk_sched.specs.model.Choice.{Act, step, pop, steal, Choice}

abbrev pub act_text : Act → List ℕ
act_text step = codes " step"
act_text pop = codes " pop"
act_text (steal victim) = codes " steal " ++ decimal victim

-- the line, without its newline
abbrev pub choice_text : Choice → List ℕ
choice_text choice = decimal choice.worker ++ act_text choice.act

-- a worker's number is one of 0 to 255, and so is a victim's

abbrev pub ActFits : Act → Type 0
ActFits step = ⊤
ActFits pop = ⊤
ActFits (steal victim) = victim < 256

pub record ChoiceFits (choice : Choice) : Type 0 where
  pub worker : choice.worker < 256
  pub act : ActFits choice.act
