-- How the program ends.
use Rattle.std.specs.Prelude.{◌≡◌, ◌≢◌, ◌⊎◌, ℕ, Bool, true, false, List, Option, Some, None, IfSome}
use Rattle.std.specs.declared.io.ErrorKind.{ErrorKind}
use Rattle.std.specs.declared.io.ErrorKind.TheVariants.{OutOfMemory}
use Rattle.std.specs.Io.KnownBytes.{Appends}
use Rattle.std.specs.String.{string_bytes}
use Rattle.cilk_program_runs.specs.commands.Status.{is_answer}
use Rattle.cilk_program_runs.specs.commands.declared.status.Status.{Status}
use Rattle.cilk_program_runs.specs.commands.declared.status.Status.TheVariants as ended
use Rattle.cilk_words.specs.CommandLine.{Asked, asked}
use Rattle.cilk_words.specs.Refusing.{asks_for_help, asks_for_version, asks_to_show}
use Rattle.cilk_words.specs.declared.refusal.NoRequest.{NoRequest}
use Rattle.cilk_words.specs.declared.refusal.NoRequest.TheVariants as refusal
use Rattle.cilk_program_runs.specs.Saying.{ExplainsTrap, tells_trap}
use Rattle.cilk_program.specs.Task.{Does, Fails, Leaves, is_session}

-- what is to be shown was written whole, or the writer failed
abbrev pub IsShown : List ℕ → Status → Option (List ℕ) → Option (List ℕ) → Type 0
IsShown text status old new = ((status ≡ ended.Done) × Appends old new text) ⊎ (status ≡ ended.CannotWrite)

-- how the program ends where nothing is to be done with a text
abbrev pub Shows : NoRequest → Status → Option (List ℕ) → Option (List ℕ) → Type 0
Shows (refusal.Help text) status old new = IsShown (string_bytes text) status old new
Shows (refusal.Version text) status old new = IsShown (string_bytes text) status old new
Shows (refusal.Usage text) status old new = status ≡ ended.Usage
Shows (refusal.Clash clash) status old new = status ≡ ended.Usage
Shows refusal.Memory status old new = status ≡ ended.Memory

-- how it ends where there are no words, since they cannot be had
abbrev pub without_words : ErrorKind → Status
without_words OutOfMemory = ended.Memory
without_words _ = ended.Usage

-- the words ask for commands to be answered
abbrev pub opens_any : Option Asked → Bool
opens_any None = false
opens_any (Some request) = is_session request.wanted

abbrev pub opens_session : List (List ℕ) → Bool
opens_session words = opens_any (asked words)

-- they ask for more to be told, and the program was trapped
abbrev pub explains_any : Option Asked → Status → Bool
explains_any None status = false
explains_any (Some request) status = tells_trap request.explain status

abbrev pub explains_trap : List (List ℕ) → Status → Bool
explains_trap words status = explains_any (asked words) status

-- what the status tells of the words, of the bytes of the texts that names stand for and of those that are entered, and of what two
-- writers gained
pub record Ends (words : List (List ℕ)) (held : List ℕ → Option (List ℕ)) (entered : Option (List ℕ)) (status : Status)
    (old new err_old err_new : Option (List ℕ)) : Type 0 where
  pub done : IfSome (asked words) (λ request. is_answer status ≡ true → Does (held request.name) held entered old new request.wanted status)
  pub told : IfSome (asked words) (λ request. is_answer status ≡ false
      → Fails (held request.name) held err_old err_new request.wanted request.explain request.name status)
  pub begun : IfSome (asked words) (λ request. is_answer status ≡ false → Leaves (held request.name) held entered old new request.wanted status)
  pub explained : IfSome (asked words) (λ request. tells_trap request.explain status ≡ true
      → ExplainsTrap request.name (held request.name) old new err_old err_new)
  pub reads : (status ≡ ended.Refused) ⊎ (status ≡ ended.CannotRead) → asked words ≢ None
  pub usage : status ≡ ended.Usage → (asked words ≡ None) × (asks_to_show words ≡ false)
  pub help : asked words ≡ None → is_answer status ≡ true → (status ≡ ended.Done) × ((asks_for_help words ≡ true) ⊎ (asks_for_version words ≡ true))
  pub wrong : asked words ≡ None → asks_for_help words ≡ false → asks_for_version words ≡ false → (status ≡ ended.Usage) ⊎ (status ≡ ended.Memory)
