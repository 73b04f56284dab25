-- What is to be written for what is wanted.
use Rattle.std.specs.Prelude.{⊤, ◌≡◌, ◌≢◌, ◌⊎◌, Bool, true, false, ℕ, List, Option, is_some}
use Rattle.cilk_program_runs.specs.commands.Printing.{Prints, PrintsFront}
use Rattle.cilk_program_runs.specs.commands.Checking.{Passes, PassesFront}
use Rattle.cilk_program_runs.specs.commands.Loading.{Unready}
use Rattle.cilk_program_runs.specs.commands.Telling.{GivesUp}
use Rattle.cilk_program_runs.specs.commands.declared.status.Status.{Status}
use Rattle.cilk_program_runs.specs.commands.declared.status.Status.TheVariants.{CannotWrite, Done}
use Rattle.cilk_program_runs.specs.Debugging.{Debugs, DebugsFront, DebugsPart}
use Rattle.cilk_program_runs.specs.AsAsked.{RunsAsAsked, RunsFrontAsAsked, ExploresSomewhere, ExploresFrontSomewhere, FailsOnTape, log_name}
use Rattle.cilk_program_runs.specs.Exploring.{GivesUpExploring}
use Rattle.cilk_program_runs.specs.GivingUp.{GivesUpRun, GivesUp as GivesUpOfLog}
use Rattle.cilk_program.specs.Measuring.{IsMeasured}
use Rattle.cilk_program_runs.specs.OnTapes.{IsOfRun, TellsAsAsked, TellsFrontAsAsked}
use Rattle.cilk_program.specs.Picturing.{DeclinesToDraw, Depicts, DepictsFront}
use Rattle.cilk_program.specs.Racing.{AreRaces}
use Rattle.cilk_program.specs.Serving.{GivesUpServing}
use Rattle.cilk_program_runs.specs.Replaying.{Replays, ReplaysFront}
use Rattle.cilk_program_runs.specs.Taped.{Declines}
use Rattle.cilk_words.specs.CommandLine.{Wanted, printed, checked, run, explored, replayed, measured, raced, pictured, debugged, served}

-- commands are to be answered
abbrev pub is_session : Wanted → Bool
is_session printed = false
is_session checked = false
is_session (run workers limit log seed runs) = false
is_session (explored workers limit logs) = false
is_session (replayed log) = false
is_session (measured log) = false
is_session (raced log) = false
is_session (pictured log from to in_lines) = false
is_session (debugged log) = true
is_session served = true

-- of the bytes that a reader held, those that names stand for and those that are entered, and of what a writer had and has
module _ (known : Option (List ℕ)) (held : List ℕ → Option (List ℕ)) (entered old new : Option (List ℕ)) where
  -- the writer has gained what is wanted, and the status tells how it went
  abbrev pub Does : Wanted → Status → Type 0
  Does printed status = (status ≡ Done) × Prints known old new
  Does checked status = (status ≡ Done) × Passes known old new
  Does (run workers limit log seed runs) status = RunsAsAsked workers limit seed runs status known old new
  Does (explored workers limit logs) status = ExploresSomewhere workers limit (is_some logs) status known old new
  Does (replayed log) status = Replays status known (held log) old new
  Does (measured log) status = TellsAsAsked (λ text ended answer. IsOfRun IsMeasured text ended answer) IsMeasured known held old new log status
  Does (raced log) status = TellsAsAsked (λ text ended answer. IsOfRun AreRaces text ended answer) AreRaces known held old new log status
  Does (pictured log from to in_lines) status = (status ≡ Done) × Depicts known (held log) old new
  Does (debugged log) status = (status ≡ Done) × Debugs known (held log) entered old new
  Does served status = status ≡ Done

  -- or it has failed, and has gained at most the first bytes of that; of a session that breaks off otherwise whole answers. Of what an editor is answered
  -- nothing is said
  abbrev pub Leaves : Wanted → Status → Type 0
  Leaves printed status = status ≡ CannotWrite → PrintsFront known old new
  Leaves checked status = status ≡ CannotWrite → PassesFront known old new
  Leaves (run workers limit log seed runs) status = status ≡ CannotWrite → RunsFrontAsAsked workers limit seed runs known old new
  Leaves (explored workers limit logs) status = status ≡ CannotWrite → ExploresFrontSomewhere workers limit (is_some logs) known old new
  Leaves (replayed log) status = status ≡ CannotWrite → ReplaysFront known (held log) old new
  Leaves (measured log) status =
      status ≡ CannotWrite → TellsFrontAsAsked (λ text ended answer. IsOfRun IsMeasured text ended answer) IsMeasured known held old new log
  Leaves (raced log) status =
      status ≡ CannotWrite → TellsFrontAsAsked (λ text ended answer. IsOfRun AreRaces text ended answer) AreRaces known held old new log
  Leaves (pictured log from to in_lines) status = status ≡ CannotWrite → DepictsFront known (held log) old new
  Leaves (debugged log) status =
      (status ≡ CannotWrite → DebugsFront known (held log) entered old new) × (status ≢ CannotWrite → (new ≡ old) ⊎ DebugsPart known (held log) entered old new)
  Leaves served status = ⊤

-- and another writer is told why, with the names of the text and of the log
module _ (known : Option (List ℕ)) (held : List ℕ → Option (List ℕ)) (old new : Option (List ℕ)) where
  abbrev pub Fails : Wanted → Bool → List ℕ → Status → Type 0
  Fails printed explain name status = GivesUp Unready explain name status known old new
  Fails checked explain name status = GivesUp Unready explain name status known old new
  Fails (run workers limit log seed runs) explain name status = GivesUpRun workers (is_some log) explain name (log_name log) status known old new
  Fails (explored workers limit logs) explain name status = GivesUpExploring (is_some logs) explain name (log_name logs) status known old new
  Fails (replayed log) explain name status = GivesUpOfLog Declines explain name log status known (held log) old new
  Fails (measured log) explain name status = FailsOnTape log explain name status known held old new
  Fails (raced log) explain name status = FailsOnTape log explain name status known held old new
  Fails (pictured log from to in_lines) explain name status = GivesUpOfLog DeclinesToDraw explain name log status known (held log) old new
  Fails (debugged log) explain name status = GivesUpOfLog Declines explain name log status known (held log) old new
  Fails served explain name status = GivesUpServing name status old new
