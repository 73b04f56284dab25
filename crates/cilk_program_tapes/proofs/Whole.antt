-- What is said of the bytes that were read of texts is said of the texts.
use Rattle.std.proofs.Common.{◌≡◌, ◌≤◌, ◌∙◌, ℕ, Bool, List, [], length, Option, Some, None, refl, subst, sym}
use Rattle.std.specs.Prelude.{◌≢◌}
use Rattle.cilk_commands.specs.syntax.Tree.{Program}
use Rattle.cilk_commands.specs.Held.{Held, IsReadOf}
use Rattle.cilk_commands.specs.Loading.{IsReady, Unready}
use Rattle.cilk_commands.specs.Status.{status_of as status_of_program}
use Rattle.cilk_commands.specs.declared.failure.Failure.{Failure}
use Rattle.cilk_commands.specs.declared.failure.Failure.TheVariants as failure
use Rattle.cilk_commands.specs.declared.status.Status.{Status}
use Rattle.cilk_commands.specs.declared.status.Status.TheVariants as status
use Rattle.cilk_commands.proofs.WholeText.{some_read, reason_held, unexplained, whole_held}
use Rattle.cilk_program_tapes.specs.GivingUp.{FollowsProgram, GivesUp, GivesUpRun, IsBehind, IsBehindLog, IsOfRun, IsToldBehind, NoProgram, TellsWith}
use Rattle.cilk_program_tapes.specs.Saying.{IsSaid}
use Rattle.cilk_program_tapes.specs.Taped.{Declines, IsUnread}
use Rattle.cilk_program_tapes.specs.Telling.{status_of}
use Rattle.cilk_program_tapes.specs.declared.failure.RecordFailure.{RecordFailure}
use Rattle.cilk_program_tapes.specs.declared.failure.RecordFailure.TheVariants as why
use Rattle.cilk_program_tapes.proofs.Said.{behind_log, unsaid}

-- ---- why there is no answer

-- what is so of all bytes
pub any_held : (known : Option (List ℕ)) (Are : List ℕ → Type 0) → ((bytes : List ℕ) → Are bytes) → Held known Are
any_held None Are all = record { bytes = []; held = tt; are = all [] }
any_held (Some bytes) Are all = record { bytes = bytes; held = refl; are = all bytes }

-- bytes that are not read as a recorded schedule, where there is a program
pub unread_declines : (known : Option (List ℕ)) (text : List ℕ) (p : Program) (found : RecordFailure) → IsReady text p
    → Held known (λ bytes. IsUnread bytes found)
    → status_of found ≡ status.Refused → Held known (λ bytes. Declines text bytes found)
unread_declines known text p (why.Program (failure.Fault fault line column)) ready told refused = absurd told.are
unread_declines known text p (why.Program failure.NotUtf8) ready told refused = absurd told.are
unread_declines known text p (why.Program failure.TooMany) ready told refused = absurd told.are
unread_declines known text p (why.Program failure.Memory) ready told refused = cc
unread_declines known text p (why.Program failure.CannotRead) ready told refused = absurd told.are
unread_declines known text p (why.Program failure.CannotWrite) ready told refused = absurd told.are
unread_declines known text p why.CannotRead ready told refused = cc
unread_declines known text p (why.Log fault) ready told refused =
    record { bytes = told.bytes; held = told.held; are = record { program = p; ready = ready; first = told.are } }
unread_declines known text p (why.Replay fault) ready told refused = absurd told.are
unread_declines known text p why.TooLong ready told refused = absurd told.are
unread_declines known text p why.CannotStore ready told refused = absurd told.are
unread_declines known text p why.CannotStart ready told refused = absurd told.are
unread_declines known text p why.Commands ready told refused = absurd told.are
unread_declines known text p why.Answers ready told refused = absurd told.are

-- why there is no program
none_held : (known : Option (List ℕ)) (text : List ℕ) (found : Failure) → IsReadOf known text → Unready text found
    → Held known (λ t. Held None (λ bytes. NoProgram t bytes (why.Program found)))
none_held known text found read told =
    let h = reason_held known text found read told in
    record { bytes = h.bytes; held = h.held; are = record { bytes = []; held = tt; are = h.are } }

pub no_program_held : (known : Option (List ℕ)) (text : List ℕ) (found : RecordFailure) → IsReadOf known text → NoProgram text [] found
    → Held known (λ t. Held None (λ bytes. NoProgram t bytes found))
no_program_held known text (why.Program found) read told = none_held known text found read told
no_program_held known text why.CannotRead read told = absurd told
no_program_held known text (why.Log fault) read told = absurd told
no_program_held known text (why.Replay fault) read told = absurd told
no_program_held known text why.TooLong read told = absurd told
no_program_held known text why.CannotStore read told = absurd told
no_program_held known text why.CannotStart read told = absurd told
no_program_held known text why.Commands read told = absurd told
no_program_held known text why.Answers read told = absurd told

-- why there is nothing to replay
pub unready_held : (known log : Option (List ℕ)) (text : List ℕ) (found : Failure) → IsReadOf known text
    → Held log (λ bytes. Declines text bytes (why.Program found))
    → Held known (λ t. Held log (λ bytes. Declines t bytes (why.Program found)))
unready_held known log text found read told =
    let h = reason_held known text found read told.are in
    record { bytes = h.bytes; held = h.held; are = record { bytes = told.bytes; held = told.held; are = h.are } }

pub declines_held : (known log : Option (List ℕ)) (text : List ℕ) (found : RecordFailure) → IsReadOf known text → Held log (λ bytes. Declines text bytes found)
    → Held known (λ t. Held log (λ bytes. Declines t bytes found))
declines_held known log text (why.Program found) read told = unready_held known log text found read told
declines_held known log text why.CannotRead read told = absurd told.are
declines_held known log text (why.Log fault) read told =
    whole_held known text (λ t. Held log (λ bytes. Declines t bytes (why.Log fault))) read told.are.ready.is.text.short told
declines_held known log text (why.Replay fault) read told =
    whole_held known text (λ t. Held log (λ bytes. Declines t bytes (why.Replay fault))) read told.are.is.ready.is.text.short told
declines_held known log text why.TooLong read told = absurd told.are
declines_held known log text why.CannotStore read told = absurd told.are
declines_held known log text why.CannotStart read told = absurd told.are
declines_held known log text why.Commands read told = absurd told.are
declines_held known log text why.Answers read told = absurd told.are

-- what is told of a program that can be run
pub follows_of : (text : List ℕ) (p : Program) (found : RecordFailure) → IsReady text p → FollowsProgram text found
follows_of text p (why.Program found) ready = tt
follows_of text p why.CannotRead ready = (p, ready)
follows_of text p (why.Log fault) ready = (p, ready)
follows_of text p (why.Replay fault) ready = (p, ready)
follows_of text p why.TooLong ready = (p, ready)
follows_of text p why.CannotStore ready = (p, ready)
follows_of text p why.CannotStart ready = (p, ready)
follows_of text p why.Commands ready = (p, ready)
follows_of text p why.Answers ready = (p, ready)

ready_held : (known : Option (List ℕ)) (text : List ℕ) → IsReadOf known text → (p : Program) × IsReady text p → Held known (λ t. (p : Program) × IsReady t p)
ready_held known text read there = whole_held known text (λ t. (p : Program) × IsReady t p) read there.1.is.text.short there

follows_held : (known : Option (List ℕ)) (text : List ℕ) (found : RecordFailure) → IsReadOf known text → FollowsProgram text found
    → Held known (λ t. FollowsProgram t found)
follows_held known text (why.Program found) read there = any_held known _ (λ t. tt)
follows_held known text why.CannotRead read there = ready_held known text read there
follows_held known text (why.Log fault) read there = ready_held known text read there
follows_held known text (why.Replay fault) read there = ready_held known text read there
follows_held known text why.TooLong read there = ready_held known text read there
follows_held known text why.CannotStore read there = ready_held known text read there
follows_held known text why.CannotStart read there = ready_held known text read there
follows_held known text why.Commands read there = ready_held known text read there
follows_held known text why.Answers read there = ready_held known text read there

told_behind : (explain : Bool) (known log : Option (List ℕ)) (text : List ℕ) (found : RecordFailure) (behind : List ℕ) → IsReadOf known text
    → IsBehind explain text found behind
    → IsToldBehind explain known log found behind
told_behind explain known log text (why.Program found) behind read is = record { text = text; read = read; is = is }
told_behind explain known log text why.CannotRead behind read is = is
told_behind explain known log text (why.Log fault) behind read is = is
told_behind explain known log text (why.Replay fault) behind read is = unsaid explain log (why.Replay fault) behind is
told_behind explain known log text why.TooLong behind read is = is
told_behind explain known log text why.CannotStore behind read is = is
told_behind explain known log text why.CannotStart behind read is = is
told_behind explain known log text why.Commands behind read is = is
told_behind explain known log text why.Answers behind read is = is

module _ (Reason : List ℕ → List ℕ → RecordFailure → Type 0) (explain : Bool) (program_name log_name : List ℕ) (ended : Status)
    (known log old new : Option (List ℕ)) where
  -- where the text of the program was read
  pub gave_up : (text : List ℕ) (found : RecordFailure) → IsReadOf known text
      → (status_of found ≡ status.Refused → Held known (λ t. Held log (λ bytes. Reason t bytes found))) → FollowsProgram text found → ended ≡ status_of found
      → (behind : List ℕ) × (IsBehind explain text found behind × TellsWith program_name log_name found behind old new)
      → GivesUp Reason explain program_name log_name ended known log old new
  gave_up text found read reason follows is told = record {
    why = found;
    status_is = is;
    declined = λ refused. reason (sym is ∙ refused);
    follows = follows_held known text found read follows;
    behind = told.0;
    explained = told_behind explain known log text found told.0 read told.1.0;
    told = told.1.1;
  }

  -- and of a log, with what was noted of it
  pub log_gave_up : (text note : List ℕ) (found : RecordFailure) → IsReadOf known text
      → (status_of found ≡ status.Refused → Held known (λ t. Held log (λ bytes. Reason t bytes found))) → FollowsProgram text found → ended ≡ status_of found
      → IsSaid explain log found note
      → (behind : List ℕ) × (IsBehindLog explain text note found behind × TellsWith program_name log_name found behind old new)
      → GivesUp Reason explain program_name log_name ended known log old new
  log_gave_up text note found read reason follows is said told = record {
    why = found;
    status_is = is;
    declined = λ refused. reason (sym is ∙ refused);
    follows = follows_held known text found read follows;
    behind = told.0;
    explained = behind_log explain known log text note found told.0 read said told.1.0;
    told = told.1.1;
  }

  -- where it was not
  pub not_read : (found : Failure) → status_of_program found ≢ status.Refused → ended ≡ status_of (why.Program found)
      → TellsWith program_name log_name (why.Program found) [] old new → GivesUp Reason explain program_name log_name ended known log old new
  not_read found other is told = record {
    why = why.Program found;
    status_is = is;
    declined = λ refused. absurd (other (sym is ∙ refused));
    follows = any_held known _ (λ t. tt);
    behind = [];
    explained = record { text = (some_read known).0; read = (some_read known).1; is = unexplained explain (some_read known).0 found other };
    told = told;
  }

-- the same of a run
module _ (workers : ℕ) (wanted explain : Bool) (program_name log_name : List ℕ) (ended : Status) (known old new : Option (List ℕ)) where
  pub run_gave_up : (text : List ℕ) (found : RecordFailure) → IsReadOf known text
      → (status_of found ≡ status.Refused → Held known (λ t. Held None (λ bytes. NoProgram t bytes found))) → FollowsProgram text found
      → IsOfRun workers wanted found → ended ≡ status_of found
      → (behind : List ℕ) × (IsBehind explain text found behind × TellsWith program_name log_name found behind old new)
      → GivesUpRun workers wanted explain program_name log_name ended known old new
  unfolding gave_up
  run_gave_up text found read reason follows of_run is told =
      record { is = gave_up NoProgram explain program_name log_name ended known None old new text found read reason follows is told; of_run = of_run }

  pub run_not_read : (found : Failure) → status_of_program found ≢ status.Refused → ended ≡ status_of (why.Program found)
      → TellsWith program_name log_name (why.Program found) [] old new → GivesUpRun workers wanted explain program_name log_name ended known old new
  unfolding not_read
  run_not_read found other is told = record { is = not_read NoProgram explain program_name log_name ended known None old new found other is told; of_run = tt }

-- by the same names
pub renamed : (workers : ℕ) (wanted explain : Bool) (program_name log_name program_same log_same : List ℕ) (ended : Status) (known old new : Option (List ℕ))
    → program_name ≡ program_same → log_name ≡ log_same → GivesUpRun workers wanted explain program_name log_name ended known old new
    → GivesUpRun workers wanted explain program_same log_same ended known old new
renamed workers wanted explain program_name log_name program_same log_same ended known old new program log told =
    subst (λ l. GivesUpRun workers wanted explain program_same l ended known old new) log
    (subst (λ p. GivesUpRun workers wanted explain p log_name ended known old new) program told)
