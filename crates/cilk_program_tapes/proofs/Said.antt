-- What is told of a choice that is not possible, and of a trap.
use Rattle.std.proofs.Common.{◌≡◌, ◌∙◌, inl, inr, ◌++◌, ℕ, Bool, true, false, List, [], Option, refl, sym, ap, subst}
use Rattle.std.proofs.KnownBytes.{Appends-nil}
use Rattle.cilk_log_replay.specs.log.choices.declared.refusal.Refusal.{Refusal}
use Rattle.cilk_log_replay.specs.machine.model.State.{TrapKind}
use Rattle.cilk_log_replay.specs.machine.model.End as model
use Rattle.cilk_log_replay.specs.log.choices.Words.{end_of}
use Rattle.cilk_log_replay.specs.log.choices.declared.end.End.{End}
use Rattle.cilk_log_replay.specs.log.choices.declared.end.End.TheVariants as ends
use Rattle.cilk_log_replay.specs.log.Reading.{log_read}
use Rattle.cilk_log_replay.specs.log.Text.{Log}
use Rattle.cilk_log_replay.specs.declared.replay_fault.ReplayFault.{ReplayFault}
use Rattle.cilk_log_replay.specs.declared.replay_fault.ReplayFault.TheVariants as replay
use Rattle.std.specs.Prelude.{◌≢◌, Ok, codes}
use Rattle.cilk_commands.specs.Front.{AppendsFront, Gains}
use Rattle.cilk_commands.specs.Held.{Held, IsReadOf}
use Rattle.cilk_commands.specs.Status.{is_answer, status_of}
use Rattle.cilk_commands.specs.Telling.{IsActionTold}
use Rattle.cilk_commands.specs.declared.failure.Failure.{Failure}
use Rattle.cilk_commands.specs.declared.failure.Failure.TheVariants as failure
use Rattle.cilk_commands.specs.declared.status.Status.{Status}
use Rattle.cilk_commands.specs.declared.status.Status.TheVariants as status
use Rattle.cilk_program_tapes.specs.GivingUp.{IsBehindLog, IsToldBehind}
use Rattle.cilk_program_tapes.specs.Meanings.{trap_meaning}
use Rattle.cilk_program_tapes.specs.Saying.{ClosesTrapped, ExplainsTrap, IsChoiceSaid, IsFaultTold, IsSaid, IsTrapOf, TellsTrap, tells_trap, trap_of}
use Rattle.cilk_program_tapes.specs.declared.trapped.Trapped.{Trapped}
use Rattle.cilk_program_tapes.specs.declared.failure.RecordFailure.{RecordFailure}
use Rattle.cilk_program_tapes.specs.declared.failure.RecordFailure.TheVariants as why

-- ---- a choice that is not possible

-- nothing may always be told
pub untold : (explain : Bool) (log : Log) (fault : ReplayFault) (told : List ℕ) → told ≡ [] → IsFaultTold explain log fault told
untold true log replay.OtherProgram told none = none
untold true log replay.Workers told none = none
untold true log (replay.BadChoice k reason) told none = inl none
untold true log replay.Memory told none = none
untold false log replay.OtherProgram told none = none
untold false log replay.Workers told none = none
untold false log (replay.BadChoice k reason) told none = none
untold false log replay.Memory told none = none

choice_unsaid : (explain : Bool) (log : Option (List ℕ)) (k : ℕ) (reason : Refusal) (said : List ℕ) → said ≡ [] → IsChoiceSaid explain log k reason said
choice_unsaid true log k reason said none = inl none
choice_unsaid false log k reason said none = none

pub unsaid : (explain : Bool) (log : Option (List ℕ)) (found : RecordFailure) (said : List ℕ) → said ≡ [] → IsSaid explain log found said
unsaid explain log (why.Program found) said none = none
unsaid explain log why.CannotRead said none = none
unsaid explain log (why.Log fault) said none = none
unsaid explain log (why.Replay replay.OtherProgram) said none = none
unsaid explain log (why.Replay replay.Workers) said none = none
unsaid explain log (why.Replay (replay.BadChoice k reason)) said none = choice_unsaid explain log k reason said none
unsaid explain log (why.Replay replay.Memory) said none = none
unsaid explain log why.TooLong said none = none
unsaid explain log why.CannotStore said none = none
unsaid explain log why.CannotStart said none = none
unsaid explain log why.Commands said none = none
unsaid explain log why.Answers said none = none

choice_said : (explain : Bool) (held : Option (List ℕ)) (log : Log) (k : ℕ) (reason : Refusal) (told : List ℕ) → Held held (λ bytes. log_read bytes ≡ Ok log)
    → IsFaultTold explain log (replay.BadChoice k reason) told → IsChoiceSaid explain held k reason told
choice_said true held log k reason told read (inl none) = inl none
choice_said true held log k reason told read (inr is) =
    inr (record { bytes = read.bytes; held = read.held; are = record { log = log; read = read.are; is = is } })
choice_said false held log k reason told read none = none

-- what was told of a log is said of the one that a reader held
pub fault_said : (explain : Bool) (held : Option (List ℕ)) (log : Log) (fault : ReplayFault) (told : List ℕ) → Held held (λ bytes. log_read bytes ≡ Ok log)
    → IsFaultTold explain log fault told → IsSaid explain held (why.Replay fault) told
fault_said explain held log (replay.BadChoice k reason) told read is = choice_said explain held log k reason told read is
fault_said true held log replay.OtherProgram told read none = none
fault_said false held log replay.OtherProgram told read none = none
fault_said true held log replay.Workers told read none = none
fault_said false held log replay.Workers told read none = none
fault_said true held log replay.Memory told read none = none
fault_said false held log replay.Memory told read none = none

-- by the same words
pub noted : (explain wanted : Bool) (log : Option (List ℕ)) (found : RecordFailure) (said note : List ℕ) → wanted ≡ explain → note ≡ said
    → IsSaid wanted log found said → IsSaid explain log found note
noted explain wanted log found said note asked same is =
    subst (λ b. IsSaid b log found note) asked (subst (λ s. IsSaid wanted log found s) (sym same) is)

-- what stands behind the line of a failure about a log
pub behind_log : (explain : Bool) (known log : Option (List ℕ)) (text note : List ℕ) (found : RecordFailure) (behind : List ℕ) → IsReadOf known text
    → IsSaid explain log found note → IsBehindLog explain text note found behind → IsToldBehind explain known log found behind
behind_log explain known log text note (why.Program found) behind read said is = record { text = text; read = read; is = is }
behind_log explain known log text note why.CannotRead behind read said is = is ∙ said
behind_log explain known log text note (why.Log fault) behind read said is = is ∙ said
behind_log explain known log text note (why.Replay fault) behind read said is = subst (λ s. IsSaid explain log (why.Replay fault) s) (sym is) said
behind_log explain known log text note why.TooLong behind read said is = is ∙ said
behind_log explain known log text note why.CannotStore behind read said is = is ∙ said
behind_log explain known log text note why.CannotStart behind read said is = is ∙ said
behind_log explain known log text note why.Commands behind read said is = is ∙ said
behind_log explain known log text note why.Answers behind read said is = is ∙ said

-- ---- a trap

-- a status of which a trap is told is an answer, and the answer is no other
pub trap_is_answer : (explain : Bool) (ended : Status) → tells_trap explain ended ≡ true → is_answer ended ≡ true
trap_is_answer explain status.Done told = cc
trap_is_answer explain status.Refused told = cc
trap_is_answer explain status.Usage told = cc
trap_is_answer explain status.Trapped told = refl
trap_is_answer explain status.Stuck told = cc
trap_is_answer explain status.Limit told = cc
trap_is_answer explain status.Memory told = cc
trap_is_answer explain status.CannotRead told = cc
trap_is_answer explain status.CannotWrite told = cc
trap_is_answer explain status.CannotRecord told = cc
trap_is_answer explain status.CannotStart told = cc
trap_is_answer explain status.Several told = cc

-- where the only answer is that all is done, no trap is told
pub no_trap : {P : Type 0} (explain : Bool) (ended : Status) → (is_answer ended ≡ true → ended ≡ status.Done) → tells_trap explain ended ≡ true → P
no_trap explain ended only told =
    let done : ended ≡ status.Done = only (trap_is_answer explain ended told) in
    let bad : false ≡ true = sym (ap (tells_trap explain) done) ∙ told in
    cc

pub never_trapped : {P : Type 0} (explain : Bool) (ended : Status) → ended ≢ status.Trapped → tells_trap explain ended ≡ true → P
never_trapped explain status.Done other told = cc
never_trapped explain status.Refused other told = cc
never_trapped explain status.Usage other told = cc
never_trapped explain status.Trapped other told = absurd (other refl)
never_trapped explain status.Stuck other told = cc
never_trapped explain status.Limit other told = cc
never_trapped explain status.Memory other told = cc
never_trapped explain status.CannotRead other told = cc
never_trapped explain status.CannotWrite other told = cc
never_trapped explain status.CannotRecord other told = cc
never_trapped explain status.CannotStart other told = cc
never_trapped explain status.Several other told = cc

pub nothing_told : (answer name text : List ℕ) (known : Option (List ℕ)) → TellsTrap answer name text known known
nothing_told answer name text known =
    record { told = []; is = inl refl; written = record { front = []; rest = []; split = refl; written = Appends-nil known } }

pub trap_told : (answer name text place meaning : List ℕ) (kind : TrapKind) (number : ℕ) (old new : Option (List ℕ)) → ClosesTrapped answer kind number
    → IsActionTold name text number place → meaning ≡ trap_meaning kind → AppendsFront old new (place ++ (meaning ++ codes ".\n"))
    → TellsTrap answer name text old new
trap_told answer name text place meaning kind number old new closes stands means written = record {
  told = place ++ (meaning ++ codes ".\n");
  is =
      inr
      (record {
        kind = kind;
        number = number;
        closes = closes;
        place = place;
        stands = stands;
        is = ap (λ m. place ++ (m ++ codes ".\n")) means;
      });
  written = written;
}

pub explains_trap : (name text : List ℕ) (known old new err_old err_new : Option (List ℕ)) (trap : Option Trapped)
    → Gains (λ answer. IsTrapOf answer trap) old new → IsReadOf known text
    → ((answer : List ℕ) → IsTrapOf answer trap → TellsTrap answer name text err_old err_new) → ExplainsTrap name known old new err_old err_new
explains_trap name text known old new err_old err_new trap gained read tells =
    record { answer = gained.answer; answered = gained.written; text = text; read = read; is = tells gained.answer gained.is }

-- the trap of an end, as the closing text tells it
trap_closes : (end : End) (printed : List ℕ) (choices : ℕ) (answer : List ℕ) → answer ≡ model.ending printed (end_of end) choices
    → IsTrapOf answer (trap_of end)
trap_closes (ends.Finished value) printed choices answer is = tt
trap_closes (ends.Trapped kind path n line) printed choices answer is =
    record { printed = printed; path = path; line = line; choices = choices; is = is }
trap_closes ends.Stuck printed choices answer is = tt
trap_closes ends.Limit printed choices answer is = tt

pub closes_by_trap : (end : End) (trap : Option Trapped) (printed : List ℕ) (choices : ℕ) (answer : List ℕ) → trap ≡ trap_of end
    → answer ≡ model.ending printed (end_of end) choices → IsTrapOf answer trap
closes_by_trap end trap printed choices answer same is =
    subst (λ (t : Option Trapped). IsTrapOf answer t) (sym same) (trap_closes end printed choices answer is)

-- no failure is a trap
pub failure_no_trap : {P : Type 0} (explain : Bool) (ended : Status) (found : Failure) → ended ≡ status_of found → tells_trap explain ended ≡ true → P
failure_no_trap {P = P} explain ended found is told = no_trap_of found (sym (ap (tells_trap explain) is) ∙ told)
  where
    no_trap_of : (found : Failure) → tells_trap explain (status_of found) ≡ true → P
    no_trap_of (failure.Fault fault line column) bad = cc
    no_trap_of failure.NotUtf8 bad = cc
    no_trap_of failure.TooMany bad = cc
    no_trap_of failure.Memory bad = cc
    no_trap_of failure.CannotRead bad = cc
    no_trap_of failure.CannotWrite bad = cc
