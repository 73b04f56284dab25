-- A status with which there is an answer, and with which all is done.
use Rattle.std.proofs.Common.{◌≡◌, ◌∙◌, ℕ, List, true, false, Option, refl, sym, ap}
use Rattle.std.specs.Prelude.{◌≢◌}
use Rattle.cilk_load.specs.Front.{Gains, GainsFront}
use Rattle.cilk_commands.specs.Held.{Held}
use Rattle.cilk_commands.specs.Status.{IsDone, is_answer, status_of}
use Rattle.cilk_commands.specs.declared.failure.Failure.{Failure}
use Rattle.cilk_commands.specs.declared.failure.Failure.TheVariants as failure
use Rattle.cilk_commands.specs.declared.status.Status.{Status}
use Rattle.cilk_commands.specs.declared.status.Status.TheVariants as status

-- an answer is no failure
pub not_both : {P : Type 0} (ended : Status) → is_answer ended ≡ true → is_answer ended ≡ false → P
not_both ended answered none = let bad : true ≡ false = sym answered ∙ none in cc

pub not_failed : {P : Type 0} (ended : Status) → is_answer ended ≡ true → ended ≡ status.CannotWrite → P
not_failed ended answered failed = not_both ended answered (ap is_answer failed)

pub no_usage_answered : (ended : Status) → is_answer ended ≡ true → ended ≢ status.Usage
no_usage_answered ended answered bad = not_both ended answered (ap is_answer bad)

pub no_answer_of : (found : Failure) → is_answer (status_of found) ≡ false
no_answer_of (failure.Fault fault line column) = refl
no_answer_of failure.NotUtf8 = refl
no_answer_of failure.TooMany = refl
no_answer_of failure.Memory = refl
no_answer_of failure.CannotRead = refl
no_answer_of failure.CannotWrite = refl

pub not_answered : {P : Type 0} (ended : Status) (found : Failure) → ended ≡ status_of found → is_answer ended ≡ true → P
not_answered ended found is answered = not_both ended answered (ap is_answer is ∙ no_answer_of found)

-- what is gained where all is done
module _ (known : Option (List ℕ)) (Are : List ℕ → List ℕ → Type 0) (old new : Option (List ℕ)) where
  pub done_only : (ended : Status) → Gains (λ answer. Held known (λ text. IsDone Are text ended answer)) old new → ended ≡ status.Done
  done_only ended gained = gained.is.are.0

  pub done_gains : (ended : Status) → Gains (λ answer. Held known (λ text. IsDone Are text ended answer)) old new
      → Gains (λ answer. Held known (λ text. Are text answer)) old new
  done_gains ended gained = record {
    answer = gained.answer;
    is = record { bytes = gained.is.bytes; held = gained.is.held; are = gained.is.are.1 };
    written = gained.written;
  }

  pub done_front : GainsFront (λ answer. Held known (λ text. (ended : Status) × IsDone Are text ended answer)) old new
      → GainsFront (λ answer. Held known (λ text. Are text answer)) old new
  done_front gained = record {
    answer = gained.answer;
    is = record { bytes = gained.is.bytes; held = gained.is.held; are = gained.is.are.1.1 };
    begun = gained.begun;
  }
