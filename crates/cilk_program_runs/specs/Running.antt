-- What a run writes.
use Rattle.std.specs.Prelude.{◌≡◌, ◌≤◌, ℕ, List, length, Option, Some, IfSome}
use Rattle.std.specs.Io.KnownBytes.{Appends}
use Rattle.cilk_program_tapes.specs.commands.syntax.Tree.{Program}
use Rattle.cilk_program_tapes.specs.commands.labelled.Bodies.{label}
use Rattle.cilk_run.specs.model.Choice.{Choice}
use Rattle.cilk_run.specs.model.End as model
use Rattle.cilk_run.specs.model.Run.{Position, after}
use Rattle.cilk_run.specs.Drawn.{drawn}
use Rattle.cilk_program_tapes.specs.commands.ProgramText.{program_text}
use Rattle.cilk_program_tapes.specs.replay.log.Naming.{digest_of}
use Rattle.cilk_program_tapes.specs.replay.log.Text.{log_text}
use Rattle.cilk_program_tapes.specs.commands.Front.{AppendsFront}
use Rattle.cilk_program_tapes.specs.commands.Held.{Held}
use Rattle.cilk_program_tapes.specs.commands.Loading.{IsReady}
use Rattle.cilk_program_tapes.specs.commands.declared.status.Status.{Status}
pub use Rattle.cilk_program_tapes.specs.Replaying.{status_at}

-- the log and the closing text of a run of the program that the bytes of a text are: so many workers made choices, at most so many, until the
-- program had ended or was stuck, or they were so many; the status tells which, and the log has these choices in their order; with a seed they are
-- those that it names
pub record IsRun (workers limit : ℕ) (seed : Option ℕ) (status : Status) (bytes log text : List ℕ) : Type 0 where
  pub program : Program
  pub ready : IsReady bytes program
  pub choices : List Choice
  pub at : Position
  pub led : after (label program) workers choices ≡ Some at
  pub within : length choices ≤ limit
  pub named : IfSome seed (λ s. choices ≡ drawn (label program) workers s limit)
  pub whole : model.end_now (label program) at.standing ≡ model.limit → length choices ≡ limit
  pub tells : status ≡ status_at (model.end_now (label program) at.standing)
  pub is : text ≡ model.ending at.standing.state.output (model.end_now (label program) at.standing) (length choices)
  pub recorded : log ≡ log_text (record { program = Some (digest_of (program_text program)); workers = workers; choices = choices })

-- a store has gained a log, and a writer an answer, which are so
pub record Stores (Are : List ℕ → List ℕ → Type 0) (stored_old stored_new old new : Option (List ℕ)) : Type 0 where
  pub log : List ℕ
  pub answer : List ℕ
  pub are : Are log answer
  pub stored : Appends stored_old stored_new log
  pub written : Appends old new answer

-- or the writer has failed in the answer, and has gained the first of its bytes
pub record StoresFront (Are : List ℕ → List ℕ → Type 0) (stored_old stored_new old new : Option (List ℕ)) : Type 0 where
  pub log : List ℕ
  pub answer : List ℕ
  pub are : Are log answer
  pub stored : Appends stored_old stored_new log
  pub begun : AppendsFront old new answer

-- those of a run of the program that a reader held
abbrev pub Runs : ℕ → ℕ → Option ℕ → Status → Option (List ℕ) → Option (List ℕ) → Option (List ℕ) → Option (List ℕ) → Option (List ℕ) → Type 0
Runs workers limit seed status known stored_old stored_new old new =
    Stores (λ log answer. Held known (λ bytes. IsRun workers limit seed status bytes log answer)) stored_old stored_new old new

-- or of some run, whose status is lost
abbrev pub RunsFront : ℕ → ℕ → Option ℕ → Option (List ℕ) → Option (List ℕ) → Option (List ℕ) → Option (List ℕ) → Option (List ℕ) → Type 0
RunsFront workers limit seed known stored_old stored_new old new =
    (status : Status) × StoresFront (λ log answer. Held known (λ bytes. IsRun workers limit seed status bytes log answer)) stored_old stored_new old new
