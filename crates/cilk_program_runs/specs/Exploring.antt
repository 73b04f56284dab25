-- What `explore` writes.
use Rattle.std.specs.Prelude.{◌≡◌, ◌⊎◌, ◌+◌, ◌==◌, nat_lt, if◌then◌else◌, ℕ, suc, Bool, true, false, List, [], ◌∷◌, ◌++◌, length, map, Option}
use Rattle.std.specs.Prelude.{Some, IfSome, slice_get, codes, decimal}
use Rattle.std.specs.Io.KnownBytes.{Appends}
use Rattle.cilk_program_tapes.specs.commands.Front.{AppendsFront}
use Rattle.cilk_program_tapes.specs.commands.Held.{Held}
use Rattle.cilk_program_tapes.specs.commands.Loading.{IsReady, Unready}
use Rattle.cilk_program_tapes.specs.commands.ProgramText.{program_text}
use Rattle.cilk_program_tapes.specs.commands.Telling.{GivesUp}
use Rattle.cilk_program_tapes.specs.commands.syntax.Tree.{Program}
use Rattle.cilk_program_tapes.specs.commands.declared.status.Status.{Status}
use Rattle.cilk_program_tapes.specs.commands.declared.status.Status.TheVariants as status
use Rattle.cilk_explore.specs.Exploring.{IsExploration}
use Rattle.cilk_explore.specs.declared.exploration.Exploration.{Exploration}
use Rattle.cilk_explore.specs.explore.Search.{Told}
use Rattle.cilk_program_tapes.specs.replay.log.Naming.{digest_of}
use Rattle.cilk_program_tapes.specs.replay.log.Text.{log_text}
use Rattle.cilk_run.specs.model.Choice.{Choice}
use Rattle.cilk_run.specs.model.End.{ending}
use Rattle.cilk_program_runs.specs.Outcomes.{Outcome, with_end, without_end, log_in, outcomes_by}

-- ---- how the outcomes are told

-- what stands behind a word of which there are so many
abbrev pub plural : ℕ → List ℕ
plural n = if n == 1 then [] else codes "s"

-- `outcome 2, 12 choices`
abbrev pub outcome_line : ℕ → ℕ → List ℕ
outcome_line number choices =
    codes "outcome " ++ (decimal number ++ (codes ", " ++ (decimal choices ++ (codes " choice" ++ (plural choices ++ codes "\n")))))

-- an ending as a run with that log tells it
abbrev pub ended_text : Told → List ℕ
ended_text told = ending told.ending.output told.ending.end (length told.log)

abbrev pub endless_text : ℕ → List ℕ
endless_text choices = codes "no end after " ++ (decimal choices ++ (codes " choice" ++ (plural choices ++ codes "\n")))

abbrev pub outcome_text : ℕ → Outcome → List ℕ
outcome_text number (with_end told) = outcome_line number (length told.log) ++ ended_text told
outcome_text number (without_end log) = outcome_line number (length log) ++ endless_text (length log)

-- those from this number on
abbrev pub outcomes_text : ℕ → List Outcome → List ℕ
outcomes_text number [] = []
outcomes_text number (o ∷ outcomes) = outcome_text number o ++ outcomes_text (suc number) outcomes

abbrev pub whole_words : Bool → List ℕ
whole_words true = codes "all was looked at: "
whole_words false = codes "not all was looked at: "

-- behind a number of workers, where it is so of each larger number too
abbrev pub more_words : Bool → List ℕ
more_words true = codes " or more"
more_words false = []

-- `all was looked at: 3 outcomes of 4 workers or more`
abbrev pub summary : Bool → Bool → ℕ → ℕ → List ℕ
summary whole more count workers =
    whole_words whole ++ (decimal count ++ (codes " outcome" ++ (plural count ++ (codes " of " ++ (decimal workers ++ (codes " worker"
    ++ (plural workers ++ (more_words more ++ codes "\n"))))))))

abbrev pub exploration_text : ℕ → Bool → Bool → List Outcome → List ℕ
exploration_text workers whole more outcomes = outcomes_text 1 outcomes ++ summary whole more (length outcomes) workers

-- the status tells whether all was looked at, and whether there are several of them
abbrev pub status_by : Bool → ℕ → Status
status_by false count = status.Limit
status_by true count = if nat_lt 1 count then status.Several else status.Done

-- the text of the log of one, which names its program
abbrev pub recorded : Program → ℕ → List Choice → List ℕ
recorded program workers log = log_text (record { program = Some (digest_of (program_text program)); workers = workers; choices = log })

-- those of all, in their order
abbrev pub logs_of : Program → ℕ → List Outcome → List (List ℕ)
logs_of program workers outcomes = map (λ o. recorded program workers (log_in o)) outcomes

-- ---- what is written

-- the text and the logs of an exploration of the program that the bytes of a text are
pub record IsExplored (workers limit : ℕ) (ended : Status) (bytes text : List ℕ) (logs : List (List ℕ)) : Type 0 where
  pub program : Program
  pub ready : IsReady bytes program
  pub exploration : Exploration
  pub found : IsExploration program workers limit exploration
  pub tells : ended ≡ status_by exploration.whole (length (outcomes_by exploration))
  pub is : text ≡ exploration_text workers exploration.whole exploration.or_more (outcomes_by exploration)
  pub kept : logs ≡ logs_of program workers (outcomes_by exploration)

-- the name of the log of this number in a folder
abbrev pub log_at : List ℕ → ℕ → List ℕ
log_at folder number = folder ++ (codes "/" ++ (decimal number ++ codes ".log"))

-- the logs of these numbers, counted from 1, have these texts, where it is known what they have
abbrev pub AreKept : List (List ℕ) → (ℕ → Option (List ℕ)) → Type 0
AreKept texts stored = (k : ℕ) (text : List ℕ) → slice_get texts k ≡ Some text → IfSome (stored (k + 1)) (λ bytes. bytes ≡ text)

-- a writer has gained an answer and a folder has logs, if they are wanted, which are so
pub record Keeps (Are : List ℕ → List (List ℕ) → Type 0) (wanted : Bool) (stored : ℕ → Option (List ℕ)) (old new : Option (List ℕ)) : Type 0 where
  pub answer : List ℕ
  pub logs : List (List ℕ)
  pub are : Are answer logs
  pub kept : wanted ≡ true → AreKept logs stored
  pub written : Appends old new answer

-- or the writer has failed in the answer, and has gained the first of its bytes
pub record KeepsFront (Are : List ℕ → List (List ℕ) → Type 0) (wanted : Bool) (stored : ℕ → Option (List ℕ)) (old new : Option (List ℕ)) : Type 0 where
  pub answer : List ℕ
  pub logs : List (List ℕ)
  pub are : Are answer logs
  pub kept : wanted ≡ true → AreKept logs stored
  pub begun : AppendsFront old new answer

-- those of an exploration of the program that a reader held
abbrev pub Explores : ℕ → ℕ → Bool → Status → (ℕ → Option (List ℕ)) → Option (List ℕ) → Option (List ℕ) → Option (List ℕ) → Type 0
Explores workers limit wanted ended stored known old new =
    Keeps (λ answer logs. Held known (λ bytes. IsExplored workers limit ended bytes answer logs)) wanted stored old new

abbrev pub ExploresFront : ℕ → ℕ → Bool → Status → (ℕ → Option (List ℕ)) → Option (List ℕ) → Option (List ℕ) → Option (List ℕ) → Type 0
ExploresFront workers limit wanted ended stored known old new =
    KeepsFront (λ answer logs. Held known (λ bytes. IsExplored workers limit ended bytes answer logs)) wanted stored old new

-- ---- why nothing is written

-- the line and its newline, with the digits of the number
abbrev pub cannot_keep_by : List ℕ → List ℕ → List ℕ
cannot_keep_by folder digits = codes "cilk: cannot write " ++ (folder ++ (codes "/" ++ (digits ++ (codes ".log" ++ codes "\n"))))

abbrev pub cannot_keep : List ℕ → ℕ → List ℕ
cannot_keep folder number = cannot_keep_by folder (decimal number)

-- a log that is wanted cannot be written, and a writer is told which, or the first bytes of that
pub record FailsToKeep (wanted : Bool) (folder : List ℕ) (ended : Status) (known old new : Option (List ℕ)) : Type 0 where
  pub asked : wanted ≡ true
  pub status_is : ended ≡ status.CannotRecord
  pub ready : Held known (λ bytes. (program : Program) × IsReady bytes program)
  pub number : ℕ
  pub told : AppendsFront old new (cannot_keep folder number)

-- in place of an answer a writer is told of that, or of a failure with the program
abbrev pub GivesUpExploring : Bool → Bool → List ℕ → List ℕ → Status → Option (List ℕ) → Option (List ℕ) → Option (List ℕ) → Type 0
GivesUpExploring wanted explain name folder ended known old new =
    GivesUp Unready explain name ended known old new ⊎ FailsToKeep wanted folder ended known old new
