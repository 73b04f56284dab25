-- The status that tells of a failure.
use Rattle.std.proofs.Common.{◌≡◌, ◌∙◌, true, false, ℕ, List, refl, sym, ap}
use Rattle.std.specs.Prelude.{◌≢◌, Result, Ok, Err, OnErr}
use Rattle.cilk_log_replay.specs.log.declared.fault.LogFault.TheVariants as log
use Rattle.cilk_log_replay.specs.declared.replay_fault.ReplayFault.{ReplayFault}
use Rattle.cilk_log_replay.specs.declared.replay_fault.ReplayFault.TheVariants as replay
use Rattle.cilk_commands.specs.Loading.{Unready}
use Rattle.cilk_commands.specs.Status.{is_answer}
use Rattle.cilk_commands.proofs.Statuses.{not_both}
use Rattle.cilk_commands.specs.declared.failure.Failure.{Failure}
use Rattle.cilk_commands.specs.declared.failure.Failure.TheVariants as failure
use Rattle.cilk_commands.specs.declared.status.Status.{Status}
use Rattle.cilk_commands.specs.declared.status.Status.TheVariants as status
use Rattle.cilk_program_tapes.specs.Telling.{status_of}
use Rattle.cilk_program_tapes.specs.declared.failure.RecordFailure.{RecordFailure}
use Rattle.cilk_program_tapes.specs.declared.failure.RecordFailure.TheVariants as why

pub no_answer : (found : RecordFailure) → is_answer (status_of found) ≡ false
no_answer (why.Program (failure.Fault fault line column)) = refl
no_answer (why.Program failure.NotUtf8) = refl
no_answer (why.Program failure.TooMany) = refl
no_answer (why.Program failure.Memory) = refl
no_answer (why.Program failure.CannotRead) = refl
no_answer (why.Program failure.CannotWrite) = refl
no_answer why.CannotRead = refl
no_answer (why.Log log.Version) = refl
no_answer (why.Log (log.Line number)) = refl
no_answer (why.Log log.Truncated) = refl
no_answer (why.Log log.Count) = refl
no_answer (why.Log log.TooMany) = refl
no_answer (why.Log log.Memory) = refl
no_answer (why.Replay replay.OtherProgram) = refl
no_answer (why.Replay replay.Workers) = refl
no_answer (why.Replay (replay.BadChoice number refusal)) = refl
no_answer (why.Replay replay.Memory) = refl
no_answer why.TooLong = refl
no_answer why.CannotStore = refl
no_answer why.CannotStart = refl
no_answer why.Commands = refl
no_answer why.Answers = refl

no_usage : (found : RecordFailure) → status_of found ≢ status.Usage
no_usage (why.Program (failure.Fault fault line column)) bad = cc
no_usage (why.Program failure.NotUtf8) bad = cc
no_usage (why.Program failure.TooMany) bad = cc
no_usage (why.Program failure.Memory) bad = cc
no_usage (why.Program failure.CannotRead) bad = cc
no_usage (why.Program failure.CannotWrite) bad = cc
no_usage why.CannotRead bad = cc
no_usage (why.Log log.Version) bad = cc
no_usage (why.Log (log.Line number)) bad = cc
no_usage (why.Log log.Truncated) bad = cc
no_usage (why.Log log.Count) bad = cc
no_usage (why.Log log.TooMany) bad = cc
no_usage (why.Log log.Memory) bad = cc
no_usage (why.Replay replay.OtherProgram) bad = cc
no_usage (why.Replay replay.Workers) bad = cc
no_usage (why.Replay (replay.BadChoice number refusal)) bad = cc
no_usage (why.Replay replay.Memory) bad = cc
no_usage why.TooLong bad = cc
no_usage why.CannotStore bad = cc
no_usage why.CannotStart bad = cc
no_usage why.Commands bad = cc
no_usage why.Answers bad = cc

-- an answer is no failure
pub not_told : {P : Type 0} (ended : Status) (found : RecordFailure) → ended ≡ status_of found → is_answer ended ≡ true → P
not_told ended found is answered = not_both ended answered (ap is_answer is ∙ no_answer found)

pub no_usage_told : (ended : Status) (found : RecordFailure) → ended ≡ status_of found → ended ≢ status.Usage
no_usage_told ended found is bad = no_usage found (sym is ∙ bad)

-- what is not a failure of the output
pub unready_reads : (text : List ℕ) (found : Failure) → Unready text found → status_of (why.Program found) ≢ status.CannotWrite
unready_reads text (failure.Fault fault line column) is bad = cc
unready_reads text failure.NotUtf8 is bad = cc
unready_reads text failure.TooMany is bad = cc
unready_reads text failure.Memory is bad = cc
unready_reads text failure.CannotRead is bad = cc
unready_reads text failure.CannotWrite is bad = is.reason

pub replay_reads : (fault : ReplayFault) → status_of (why.Replay fault) ≢ status.CannotWrite
replay_reads replay.OtherProgram bad = cc
replay_reads replay.Workers bad = cc
replay_reads (replay.BadChoice number refusal) bad = cc
replay_reads replay.Memory bad = cc

-- what holds wherever it is asked
pub on_err : {A E P : Type 0} (r : Result A E) → P → OnErr r P
on_err (Ok x) holds = tt
on_err (Err e) holds = holds
