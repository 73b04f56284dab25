-- The texts of a run.
use Rattle.std.proofs.Common.{◌≡◌, ◌≤◌, ℕ, Bool, true, false, refl, List, length, map, sym, ap, ◌∙◌, subst}
use Rattle.std.specs.Prelude.{◌≢◌, Option, Some, None, Result, Ok, Err, IfOk, IfSome}
use Rattle.std.specs.Io.KnownBytes.{Appends}
use Rattle.std.proofs.lemmas.List.{length-map}
use Rattle.std.proofs.Math.Seq.{take-length}
use Rattle.cilk_program_tapes.specs.commands.syntax.Tree.{Program}
use Rattle.cilk_program_tapes.specs.commands.labelled.Bodies.{label}
use Rattle.cilk_run.specs.model.Run.{after}
use Rattle.cilk_run.specs.model.End as end
use Rattle.cilk_run.specs.Runs as Runs
use Rattle.cilk_run.specs.declared.run_result.Run.{Run}
use Rattle.cilk_run.specs.choices.Words.{choice_of, end_of}
use Rattle.cilk_run.specs.Drawn.{drawn}
use Rattle.cilk_program_tapes.specs.replay.log.Text.{log_text}
use Rattle.cilk_program_tapes.specs.replay.log.Words.{log_of}
use Rattle.cilk_program_tapes.specs.replay.Tape.{Tape, tape_of}
use Rattle.cilk_program_tapes.specs.commands.Loading.{IsReady}
use Rattle.cilk_program_tapes.specs.commands.declared.status.Status.{Status}
use Rattle.cilk_program_runs.specs.Running.{IsRun, status_at}
use Rattle.cilk_program_runs.specs.declared.run.RunAnswer.{RunAnswer}
use Rattle.cilk_program_runs.specs.OnTapes.{IsOfRun, alone_limit}

-- the choices are those of the seed, if there is one
abbrev pub IsNamed : Option ℕ → Program → ℕ → ℕ → Run → Type 0
IsNamed seed p workers limit r = IfSome seed (λ s. map choice_of r.log.choices ≡ drawn (label p) workers s limit)

-- without a seed there is nothing to say of the choices, and else what was said of its number
pub unnamed : {E : Type 0} (seed : Option ℕ) (p : Program) (workers limit : ℕ) (result : Result Run E) → seed ≡ None
    → IfOk result (λ r. IsNamed seed p workers limit r)
unnamed None p workers limit (Ok r) none = tt
unnamed (Some s) p workers limit (Ok r) none = cc
unnamed seed p workers limit (Err e) none = tt

pub named_by : {E : Type 0} (seed : Option ℕ) (s at : ℕ) (p : Program) (workers limit : ℕ) (result : Result Run E) → seed ≡ Some s → at ≡ s
    → IfOk result (λ r. map choice_of r.log.choices ≡ drawn (label p) workers at limit) → IfOk result (λ r. IsNamed seed p workers limit r)
named_by seed s at p workers limit (Ok r) given same are =
    subst (λ (o : Option ℕ). IsNamed o p workers limit r) (sym given)
    (subst (λ n. map choice_of r.log.choices ≡ drawn (label p) workers n limit) same are)
named_by seed s at p workers limit (Err e) given same are = tt

-- the closing text of a run, and its log
pub ran : (workers limit : ℕ) (seed : Option ℕ) (bytes text : List ℕ) (p : Program) (r : Run) → IsReady bytes p → Runs.IsRun p workers limit r
    → IsNamed seed p workers limit r → text ≡ end.ending r.output (end_of r.end) (length r.log.choices)
    → IsRun workers limit seed (status_at (end_of r.end)) bytes (log_text (log_of r.log)) text
ran workers limit seed bytes text p r ready l named is =
    let count : length r.log.choices ≡ length (map choice_of r.log.choices) = sym (length-map r.log.choices choice_of) in
    record {
      program = p;
      ready = ready;
      choices = map choice_of r.log.choices;
      at = l.at;
      led = l.led;
      within = subst (λ n. n ≤ limit) count l.within;
      named = named;
      whole = λ e. sym count ∙ l.whole e;
      tells = ap status_at l.end;
      is = is ∙ (λ i. end.ending (l.output i) (l.end i) (count i));
      recorded = λ i. log_text (record { program = l.program i; workers = l.workers i; choices = map choice_of r.log.choices });
    }

-- the texts that are made of a run
pub told_of : {E : Type 0} (workers limit : ℕ) (seed : Option ℕ) (p : Program) (r : Run) (is_logged : Bool) (texts : Result RunAnswer E)
    → Runs.IsRun p workers limit r → IsNamed seed p workers limit r
    → IfOk texts (λ t. t.status ≡ status_at (end_of r.end)) → IfOk texts (λ t. t.answer.items ≡ end.ending r.output (end_of r.end) (length r.log.choices))
    → (is_logged ≡ true → IfOk texts (λ t. t.log.items ≡ log_text (log_of r.log)))
    → IfOk texts (λ t. (bytes : List ℕ) → IsReady bytes p
    → (log : List ℕ) × IsRun workers limit seed t.status bytes log t.answer.items × (is_logged ≡ true → t.log.items ≡ log))
told_of workers limit seed p r is_logged (Ok t) l named status text log = λ bytes ready. (
  log_text (log_of r.log),
  subst (λ s. IsRun workers limit seed s bytes (log_text (log_of r.log)) t.answer.items) (sym status)
      (ran workers limit seed bytes t.answer.items p r ready l named text),
  log,
)
told_of workers limit seed p r is_logged (Err e) l named status text log = tt

-- what a store gained is the log, where one is wanted; of a store that keeps none no byte is known
pub kept_log : (is_logged : Bool) (old new : Option (List ℕ)) (written log items : List ℕ) → (is_logged ≡ false → old ≡ None) → written ≡ items
    → (is_logged ≡ true → items ≡ log) → ((text : List ℕ) → (old ≢ None → written ≡ text) → Appends old new text) → Appends old new log
kept_log true old new written log items none same is kept = kept log (λ known. same ∙ is refl)
kept_log false old new written log items none same is kept = kept log (λ known. absurd (known (none refl)))

-- ---- what is told of a run by one worker

pub alone_is : (Of : Tape → Status → List ℕ → Type 0) (p : Program) (r : Run) (status : Status) (answer text : List ℕ) → Runs.IsRun p 1 alone_limit r
    → Of (tape_of p r.log.workers r.log.choices) status answer → IsReady text p → IsOfRun Of text status answer
alone_is Of p r status answer text l told ready =
    let choices = map choice_of r.log.choices in
    let count : length r.log.choices ≡ length choices = sym (length-map r.log.choices choice_of) in
    record {
      tape = tape_of p r.log.workers r.log.choices;
      ready = ready;
      alone = l.workers;
      at = l.at;
      led = (λ i. after (label p) (l.workers i) (take-length choices i)) ∙ l.led;
      within = subst (λ n. n ≤ alone_limit) count l.within;
      whole = λ e. sym count ∙ l.whole e;
      is = told;
    }
