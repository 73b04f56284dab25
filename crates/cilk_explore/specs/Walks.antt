-- A machine that stands behind a log, and was behind each front of it.
use Rattle.std.specs.Prelude.{◌≡◌, ℕ, true, List, [], ◌∷◌, length, map, reverse, Option}
use Rattle.cilk_machine.specs.syntax.Tree.{Program}
use Rattle.cilk_machine.specs.labelled.Bodies.{label}
use Rattle.cilk_machine.specs.model.Choice.{Choice}
use Rattle.cilk_machine.specs.model.Event.{Event}
use Rattle.cilk_machine.specs.model.Run.{Standing, Position, after}
use Rattle.cilk_machine.specs.sched.declared.choice.Choice as code
use Rattle.cilk_machine.specs.sched.Words.{choice_of}
use Rattle.cilk_machine.specs.Situation.{Before, Situation, workers_of}
use Rattle.cilk_machine.specs.Stands.{Led}
use Rattle.cilk_machine.specs.Kept.{situation_at}

pub record Walk : Type 0 where
  pub program : Program
  pub workers : ℕ
  pub log : List Choice

-- where the log leads, if each of its choices is possible
abbrev pub position_of : Walk → Option Position
position_of walk = after (label walk.program) walk.workers walk.log

abbrev pub walk_of : Situation → List code.Choice → Walk
walk_of m log = record { program = m.program; workers = workers_of m; log = map choice_of log }

-- these choices had led a machine there
pub record Was (program : Program) (workers : ℕ) (log : List Choice) (b : Before) : Type 0 where
  pub crew : length b.machine.places ≡ workers
  pub events : List Event
  pub at : Standing
  pub led : Led (situation_at program b) log events at

-- it was behind each front of a log, which is told from its last choice on, the longest one first
abbrev pub WasBehind : Program → ℕ → List Choice → List Before → Type 0
WasBehind program workers [] bs = bs ≡ []
WasBehind program workers (choice ∷ fewer) [] = ⊥
WasBehind program workers (choice ∷ fewer) (b ∷ bs) = Was program workers (reverse fewer) b × WasBehind program workers fewer bs

-- what is always true of a machine that walks
pub record IsWalk (m : Situation) (log : List Choice) : Type 0 where
  pub keeps : m.keeps ≡ true
  pub events : List Event
  pub at : Standing
  pub led : Led m log events at
  pub past : WasBehind m.program (workers_of m) (reverse log) m.past
