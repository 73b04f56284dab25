-- What a run is.
use Rattle.std.specs.Prelude.{◌≡◌, ◌≤◌, ℕ, length, map, Some}
use Rattle.cilk_run.specs.syntax.Tree.{Program}
use Rattle.cilk_run.specs.labelled.Bodies.{label}
use Rattle.cilk_run.specs.model.End as model
use Rattle.cilk_run.specs.model.Run.{Standing, Position, after}
use Rattle.cilk_run.specs.log.syntax.ProgramText.{program_text}
use Rattle.cilk_run.specs.choices.Words.{choice_of, end_of}
use Rattle.cilk_run.specs.log.Naming.{digest_of}
use Rattle.cilk_run.specs.machine.Situation.{Situation}
use Rattle.cilk_run.specs.machine.Stands.{StandsAt}
use Rattle.cilk_run.specs.Histories.{IsCounted}
use Rattle.cilk_run.specs.declared.run_result.Run.{Run}

-- there is nothing left to do: no more choices were made than the limit, and as many where one would still be possible
pub record Stops (limit : ℕ) (m : Situation) : Type 0 where
  pub within : m.choices ≤ limit
  pub whole : (at : Standing) → StandsAt m at → model.end_now (label m.program) at ≡ model.limit → m.choices ≡ limit

-- a run of a program with n workers and at most so many choices: those of its log are possible one after another from the start of the
-- program, which the log names; it stands behind them as is told, and has printed what is told; and they are counted by worker
pub record IsRun (p : Program) (n limit : ℕ) (r : Run) : Type 0 where
  pub program : r.log.program ≡ Some (digest_of (program_text p))
  pub workers : r.log.workers ≡ n
  pub at : Position
  pub led : after (label p) n (map choice_of r.log.choices) ≡ Some at
  pub within : length r.log.choices ≤ limit
  pub output : r.output ≡ at.standing.state.output
  pub end : end_of r.end ≡ model.end_now (label p) at.standing
  pub whole : model.end_now (label p) at.standing ≡ model.limit → length r.log.choices ≡ limit
  pub counted : IsCounted n r.turns r.log.choices
