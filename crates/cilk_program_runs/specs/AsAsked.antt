-- What is to be written of a run, an exploration or a schedule, as it is asked for.
use Rattle.std.specs.Prelude.{◌≡◌, ℕ, Bool, List, [], Option, Some, None}
use Rattle.cilk_program_tapes.specs.commands.Loading.{Unready}
use Rattle.cilk_program_tapes.specs.commands.Telling.{GivesUp}
use Rattle.cilk_program_tapes.specs.commands.declared.status.Status.{Status}
use Rattle.cilk_program_tapes.specs.commands.declared.status.Status.TheVariants.{Done}
use Rattle.cilk_program_runs.specs.Exploring.{Explores, ExploresFront}
use Rattle.cilk_program_tapes.specs.GivingUp.{GivesUp as GivesUpOfLog}
use Rattle.cilk_program_runs.specs.Running.{Runs, RunsFront}
use Rattle.cilk_program_runs.specs.Tallying.{Tallies, TalliesFront}
use Rattle.cilk_program_tapes.specs.Taped.{Declines}

-- a run, with some store for its log, whose bytes may be known
pub record RunsSomewhere (workers limit : ℕ) (seed : Option ℕ) (status : Status) (known old new : Option (List ℕ)) : Type 0 where
  pub stored_old : Option (List ℕ)
  pub stored_new : Option (List ℕ)
  pub is : Runs workers limit seed status known stored_old stored_new old new

pub record RunsFrontSomewhere (workers limit : ℕ) (seed : Option ℕ) (known old new : Option (List ℕ)) : Type 0 where
  pub stored_old : Option (List ℕ)
  pub stored_new : Option (List ℕ)
  pub is : RunsFront workers limit seed known stored_old stored_new old new

-- of several seeds it is a tally
abbrev pub RunsAsAsked : ℕ → ℕ → Option ℕ → Option ℕ → Status → Option (List ℕ) → Option (List ℕ) → Option (List ℕ) → Type 0
RunsAsAsked workers limit seed None status known old new = RunsSomewhere workers limit seed status known old new
RunsAsAsked workers limit None (Some runs) status known old new = RunsSomewhere workers limit None status known old new
RunsAsAsked workers limit (Some seed) (Some runs) status known old new = (status ≡ Done) × Tallies workers limit seed runs known old new

abbrev pub RunsFrontAsAsked : ℕ → ℕ → Option ℕ → Option ℕ → Option (List ℕ) → Option (List ℕ) → Option (List ℕ) → Type 0
RunsFrontAsAsked workers limit seed None known old new = RunsFrontSomewhere workers limit seed known old new
RunsFrontAsAsked workers limit None (Some runs) known old new = RunsFrontSomewhere workers limit None known old new
RunsFrontAsAsked workers limit (Some seed) (Some runs) known old new = TalliesFront workers limit seed runs known old new

-- an exploration, with some folder for its logs, whose bytes may be known
pub record ExploresSomewhere (workers limit : ℕ) (wanted : Bool) (status : Status) (known old new : Option (List ℕ)) : Type 0 where
  pub stored : ℕ → Option (List ℕ)
  pub is : Explores workers limit wanted status stored known old new

pub record ExploresFrontSomewhere (workers limit : ℕ) (wanted : Bool) (known old new : Option (List ℕ)) : Type 0 where
  pub status : Status
  pub stored : ℕ → Option (List ℕ)
  pub is : ExploresFront workers limit wanted status stored known old new

-- there is nothing to tell of a run, or of the log of a name
abbrev pub FailsOnTape : Option (List ℕ) → Bool → List ℕ → Status → Option (List ℕ) → (List ℕ → Option (List ℕ)) → Option (List ℕ) → Option (List ℕ)
    → Type 0
FailsOnTape None explain name status known held old new = GivesUp Unready explain name status known old new
FailsOnTape (Some log) explain name status known held old new = GivesUpOfLog Declines explain name log status known (held log) old new

-- the name by which a log is told of, where there is one
abbrev pub log_name : Option (List ℕ) → List ℕ
log_name None = []
log_name (Some name) = name
