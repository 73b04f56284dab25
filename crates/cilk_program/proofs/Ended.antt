-- How the program ends where there is no answer.
use Rattle.std.proofs.Common.{◌≡◌, ◌⊎◌, ◌∙◌, inl, inr, refl, subst, sym, ℕ, Bool, true, false, List, [], Option, Some, None, IfSome}
use Rattle.std.specs.Prelude.{◌≢◌}
use Rattle.cilk_program_runs.specs.commands.Loading.{Unready}
use Rattle.cilk_program_runs.specs.commands.Status.{is_answer, status_of}
use Rattle.cilk_program_runs.specs.commands.Telling.{WritesFailure as TellsLine}
use Rattle.cilk_program_runs.proofs.commands_laws.WholeText.{nothing_read}
use Rattle.cilk_program_runs.specs.commands.declared.failure.Failure.{Failure}
use Rattle.cilk_program_runs.specs.commands.declared.failure.Failure.TheVariants as failure
use Rattle.cilk_program_runs.specs.commands.declared.status.Status.{Status}
use Rattle.cilk_program_runs.specs.commands.declared.status.Status.TheVariants as ended
use Rattle.cilk_program.specs.Picturing.{DeclinesToDraw}
use Rattle.cilk_program_runs.specs.Taped.{Declines}
use Rattle.cilk_program_runs.specs.tapes.declared.failure.RecordFailure.TheVariants as why
use Rattle.cilk_words.specs.CommandLine.{Asked, Wanted, printed, checked, run, explored, replayed, measured, raced, pictured, debugged, served, asked}
use Rattle.cilk_words.specs.Refusing.{IsNoRequest, asks_for_help, asks_for_version, asks_to_show}
use Rattle.cilk_words.specs.declared.refusal.NoRequest.{NoRequest}
use Rattle.cilk_words.specs.declared.refusal.NoRequest.TheVariants as refusal
use Rattle.cilk_program.specs.Ends.{Ends, Shows}
use Rattle.cilk_program_runs.specs.AsAsked.{log_name}
use Rattle.cilk_program_runs.proofs.NotRead.{no_program, no_run}
use Rattle.cilk_program.specs.Task.{Fails, Leaves}

-- ---- a text that was not read

pub unread : (wanted : Wanted) (explain : Bool) (name : List ℕ) (status : Status) (known : Option (List ℕ)) (held : List ℕ → Option (List ℕ))
    (old new : Option (List ℕ)) (found : Failure) → status_of found ≢ ended.Refused → status ≡ status_of found → TellsLine name found [] old new
    → Fails known held old new wanted explain name status
unread printed explain name status known held old new found other is told = nothing_read Unready explain name status known old new found other is told
unread checked explain name status known held old new found other is told = nothing_read Unready explain name status known old new found other is told
unread (run workers limit log seed runs) explain name status known held old new found other is told =
    no_run workers _ explain name (log_name log) status known old new found other is told
unread (explored workers limit logs) explain name status known held old new found other is told =
    inl (nothing_read Unready explain name status known old new found other is told)
unread (replayed log) explain name status known held old new found other is told =
    no_program Declines explain name log status known (held log) old new found other is told
unread (measured None) explain name status known held old new found other is told =
    nothing_read Unready explain name status known old new found other is told
unread (measured (Some log)) explain name status known held old new found other is told =
    no_program Declines explain name log status known (held log) old new found other is told
unread (raced None) explain name status known held old new found other is told =
    nothing_read Unready explain name status known old new found other is told
unread (raced (Some log)) explain name status known held old new found other is told =
    no_program Declines explain name log status known (held log) old new found other is told
unread (pictured log from to in_lines) explain name status known held old new found other is told =
    no_program DeclinesToDraw explain name log status known (held log) old new found other is told
unread (debugged log) explain name status known held old new found other is told =
    no_program Declines explain name log status known (held log) old new found other is told
unread served explain name status known held old new found other is told =
    record { why = why.Program found; status_is = is; of_serving = tt; told = told }

-- nothing was written
pub leaves_nothing : (wanted : Wanted) (status : Status) (known : Option (List ℕ)) (held : List ℕ → Option (List ℕ)) (entered old new : Option (List ℕ))
    → status ≢ ended.CannotWrite → new ≡ old → Leaves known held entered old new wanted status
leaves_nothing printed status known held entered old new other same = λ bad. absurd (other bad)
leaves_nothing checked status known held entered old new other same = λ bad. absurd (other bad)
leaves_nothing (run workers limit log seed runs) status known held entered old new other same = λ bad. absurd (other bad)
leaves_nothing (explored workers limit logs) status known held entered old new other same = λ bad. absurd (other bad)
leaves_nothing (replayed log) status known held entered old new other same = λ bad. absurd (other bad)
leaves_nothing (measured log) status known held entered old new other same = λ bad. absurd (other bad)
leaves_nothing (raced log) status known held entered old new other same = λ bad. absurd (other bad)
leaves_nothing (pictured log from to in_lines) status known held entered old new other same = λ bad. absurd (other bad)
leaves_nothing (debugged log) status known held entered old new other same = (λ bad. absurd (other bad), λ not. inl same)
leaves_nothing served status known held entered old new other same = tt

-- memory that ran out before a text was opened: the line has no name
memory_of : (wanted : Wanted) (explain : Bool) (name : List ℕ) (known : Option (List ℕ)) (held : List ℕ → Option (List ℕ)) (old new : Option (List ℕ))
    → TellsLine [] failure.Memory [] old new → Fails known held old new wanted explain name ended.Memory
memory_of wanted explain name known held old new told = unread wanted explain name ended.Memory known held old new failure.Memory (λ bad. cc) refl told

-- of a refusal
pub refused_no_answer : (status : Status) → status ≡ ended.Refused → is_answer status ≡ false
refused_no_answer status is = rw is refl

pub refused_writes : (status : Status) → status ≡ ended.Refused → status ≢ ended.CannotWrite
refused_writes status is bad = let worse : ended.Refused ≡ ended.CannotWrite = sym is ∙ bad in cc

is_memory_no_answer : (status : Status) → status ≡ ended.Memory → is_answer status ≡ false
is_memory_no_answer status is = rw is refl

-- ---- words that ask for nothing to be done

for_each : (o : Option Asked) (P : Asked → Type 0) → ((x : Asked) → P x) → IfSome o P
for_each None P each = tt
for_each (Some x) P each = each x

if_none : (o : Option Asked) (P : Asked → Type 0) → o ≡ None → IfSome o P
if_none None P none = tt
if_none (Some x) P none = cc

nothing_done : (words : List (List ℕ)) (held : List ℕ → Option (List ℕ)) (entered : Option (List ℕ)) (status : Status)
    (old new err_old err_new : Option (List ℕ)) → asked words ≡ None
    → status ≢ ended.Refused → status ≢ ended.CannotRead → (status ≡ ended.Usage → asks_to_show words ≡ false)
    → (is_answer status ≡ true → (status ≡ ended.Done) × ((asks_for_help words ≡ true) ⊎ (asks_for_version words ≡ true)))
    → (asks_for_help words ≡ false → asks_for_version words ≡ false → (status ≡ ended.Usage) ⊎ (status ≡ ended.Memory))
    → Ends words held entered status old new err_old err_new
nothing_done words held entered status old new err_old err_new none not_refused not_unread usage help wrong = record {
  done = if_none (asked words) _ none;
  told = if_none (asked words) _ none;
  begun = if_none (asked words) _ none;
  explained = if_none (asked words) _ none;
  reads = λ which. absurd (elim which [ inl is ↦ not_refused is | inr is ↦ not_unread is ]);
  usage = λ is. (none, usage is);
  help = λ none answer. help answer;
  wrong = λ none. wrong;
}

-- what is told of the words tells how the program ends
pub refused_words : (words : List (List ℕ)) (held : List ℕ → Option (List ℕ)) (entered : Option (List ℕ)) (r : NoRequest) (status : Status)
    (old new err_old err_new : Option (List ℕ)) → IsNoRequest words r
    → Shows r status old new → (r ≡ refusal.Memory → TellsLine [] failure.Memory [] err_old err_new)
    → (is_answer status ≡ false → status ≢ ended.CannotWrite → new ≡ old) → Ends words held entered status old new err_old err_new
refused_words words held entered (refusal.Help text) status old new err_old err_new tells (inl done) memory kept =
    subst (λ s. Ends words held entered s old new err_old err_new) (sym done.0)
    (nothing_done words held entered ended.Done old new err_old err_new tells.0 (λ bad. cc) (λ bad. cc) (λ bad. cc) (λ answer. (refl, inl tells.1))
    (λ no_help no_version. let bad : true ≡ false = sym tells.1 ∙ no_help in cc))
refused_words words held entered (refusal.Help text) status old new err_old err_new tells (inr failed) memory kept =
    subst (λ s. Ends words held entered s old new err_old err_new) (sym failed)
    (nothing_done words held entered ended.CannotWrite old new err_old err_new tells.0 (λ bad. cc) (λ bad. cc) (λ bad. cc)
    (λ answer. let bad : false ≡ true = answer in cc)
    (λ no_help no_version. let bad : true ≡ false = sym tells.1 ∙ no_help in cc))
refused_words words held entered (refusal.Version text) status old new err_old err_new tells (inl done) memory kept =
    subst (λ s. Ends words held entered s old new err_old err_new) (sym done.0)
    (nothing_done words held entered ended.Done old new err_old err_new tells.0 (λ bad. cc) (λ bad. cc) (λ bad. cc) (λ answer. (refl, inr tells.1))
    (λ no_help no_version. let bad : true ≡ false = sym tells.1 ∙ no_version in cc))
refused_words words held entered (refusal.Version text) status old new err_old err_new tells (inr failed) memory kept =
    subst (λ s. Ends words held entered s old new err_old err_new) (sym failed)
    (nothing_done words held entered ended.CannotWrite old new err_old err_new tells.0 (λ bad. cc) (λ bad. cc) (λ bad. cc)
    (λ answer. let bad : false ≡ true = answer in cc)
    (λ no_help no_version. let bad : true ≡ false = sym tells.1 ∙ no_version in cc))
refused_words words held entered (refusal.Usage text) status old new err_old err_new tells is_usage memory kept =
    subst (λ s. Ends words held entered s old new err_old err_new) (sym is_usage)
    (nothing_done words held entered ended.Usage old new err_old err_new tells.0 (λ bad. cc) (λ bad. cc) (λ same. tells.1)
    (λ answer. let bad : false ≡ true = answer in cc)
    (λ no_help no_version. inl refl))
refused_words words held entered (refusal.Clash clash) status old new err_old err_new tells is_usage memory kept =
    subst (λ s. Ends words held entered s old new err_old err_new) (sym is_usage)
    (nothing_done words held entered ended.Usage old new err_old err_new tells.1.0 (λ bad. cc) (λ bad. cc) (λ same. tells.1.1)
    (λ answer. let bad : false ≡ true = answer in cc)
    (λ no_help no_version. inl refl))
refused_words words held entered refusal.Memory status old new err_old err_new tells is_memory memory kept =
    subst (λ s. Ends words held entered s old new err_old err_new) (sym is_memory) (record {
      done = for_each (asked words) _ (λ request answer. let bad : false ≡ true = answer in cc);
      told = for_each (asked words) _ (λ request none.
          memory_of request.wanted request.explain request.name (held request.name) held err_old err_new (memory refl));
      begun = for_each (asked words) _ (λ request none. leaves_nothing request.wanted ended.Memory (held request.name) held entered old new
          (λ bad. cc) (kept (is_memory_no_answer status is_memory) (λ bad. let worse : ended.Memory ≡ ended.CannotWrite = sym is_memory ∙ bad in cc)));
      explained = for_each (asked words) _ (λ request told. let bad : false ≡ true = told in cc);
      reads = λ which none. elim which [ inl bad ↦ cc | inr bad ↦ cc ];
      usage = λ bad. cc;
      help = λ none answer. let bad : false ≡ true = answer in cc;
      wrong = λ none no_help no_version. inr refl;
    })
