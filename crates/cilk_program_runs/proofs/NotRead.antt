-- What is told where a text was not read.
use Rattle.std.proofs.Common.{◌≡◌, ◌∙◌, inl, refl, sym, ℕ, Bool, true, false, List, [], Option, Some, None, Bor, option_map, unwrap_or}
use Rattle.std.specs.Prelude.{◌≢◌}
use Rattle.cilk_program_tapes.specs.commands.Status.{status_of}
use Rattle.cilk_program_tapes.specs.commands.Telling.{IsExplanation, WritesFailure as TellsLine}
use Rattle.cilk_program_tapes.proofs.commands_laws.WholeText.{some_read}
use Rattle.cilk_program_tapes.specs.commands.declared.failure.Failure.{Failure}
use Rattle.cilk_program_tapes.specs.commands.declared.failure.Failure.TheVariants as failure
use Rattle.cilk_program_tapes.specs.commands.declared.status.Status.{Status}
use Rattle.cilk_program_tapes.specs.commands.declared.status.Status.TheVariants as ended
use Rattle.cilk_program_tapes.specs.GivingUp.{GivesUp, GivesUpRun, NoProgram}
use Rattle.cilk_program_tapes.proofs.Whole.{any_held}
use Rattle.cilk_program_tapes.specs.declared.failure.RecordFailure.{RecordFailure}
use Rattle.cilk_program_tapes.specs.declared.failure.RecordFailure.TheVariants as why
use Rattle.cilk_program_runs.specs.AsAsked.{log_name}

-- the name by which a log is told of
pub name_told : (log : Option (Bor (List ℕ))) (none : Bor (List ℕ)) → none.now ≡ [] → (unwrap_or log none).now ≡ log_name (option_map (λ it. it.now) log)
name_told None none empty = empty
name_told (Some name) none empty = refl

-- ---- a text that was not read

nothing_said : (explain : Bool) (text : List ℕ) (found : Failure) → status_of found ≢ ended.Refused → IsExplanation explain text found []
nothing_said true text (failure.Fault fault line column) other = inl refl
nothing_said false text (failure.Fault fault line column) other = refl
nothing_said true text failure.NotUtf8 other = refl
nothing_said false text failure.NotUtf8 other = refl
nothing_said true text failure.TooMany other = refl
nothing_said false text failure.TooMany other = refl
nothing_said true text failure.CannotRead other = refl
nothing_said false text failure.CannotRead other = refl
nothing_said true text failure.Memory other = refl
nothing_said false text failure.Memory other = refl
nothing_said true text failure.CannotWrite other = refl
nothing_said false text failure.CannotWrite other = refl

-- with a log
pub no_program : (Reason : List ℕ → List ℕ → RecordFailure → Type 0) (explain : Bool) (name log : List ℕ) (status : Status)
    (known held old new : Option (List ℕ))
    (found : Failure) → status_of found ≢ ended.Refused → status ≡ status_of found → TellsLine name found [] old new
    → GivesUp Reason explain name log status known held old new
no_program Reason explain name log status known held old new found other is told = record {
  why = why.Program found;
  status_is = is;
  declined = λ refused. absurd (other (sym is ∙ refused));
  follows = any_held known _ (λ t. tt);
  behind = [];
  explained = record { text = (some_read known).0; read = (some_read known).1; is = nothing_said explain (some_read known).0 found other };
  told = told;
}

-- of a run
pub no_run : (workers : ℕ) (wanted explain : Bool) (name log : List ℕ) (status : Status) (known old new : Option (List ℕ))
    (found : Failure) → status_of found ≢ ended.Refused → status ≡ status_of found → TellsLine name found [] old new
    → GivesUpRun workers wanted explain name log status known old new
unfolding no_program
no_run workers wanted explain name log status known old new found other is told =
    record { is = no_program NoProgram explain name log status known None old new found other is told; of_run = tt }
