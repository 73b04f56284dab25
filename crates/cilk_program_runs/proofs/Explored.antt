-- The logs of an exploration, one after another, and what is written of it.
use Rattle.std.proofs.Common.{◌≡◌, ◌<◌, ◌≤◌, ◌+◌, ◌∙◌, arith, inl, inr, refl, sym, ap, subst, ℕ, zero, suc, Bool, true, false, List, [], ◌∷◌, length}
use Rattle.std.proofs.Common.{Option, Some, IfSome, option_map}
use Rattle.std.specs.Prelude.{◌≢◌, slice_get, Result, Ok, Err, IfOk}
use Rattle.std.proofs.Math.Nat.{eq-or-lt_of_le}
use Rattle.std.proofs.lemmas.Option.{slice_get-map}
use Rattle.cilk_program_tapes.specs.commands.Held.{Held, IsReadOf}
use Rattle.cilk_program_tapes.specs.commands.Loading.{IsReady}
use Rattle.cilk_program_tapes.specs.commands.lex.declared.reading.TheConstants.{TEXT_LIMIT}
use Rattle.cilk_program_tapes.specs.commands.syntax.Tree.{Program}
use Rattle.cilk_program_tapes.specs.commands.Status.{is_answer}
use Rattle.cilk_program_tapes.specs.commands.declared.failure.Failure.TheVariants as failure
use Rattle.cilk_program_tapes.specs.commands.declared.status.Status.{Status}
use Rattle.cilk_program_tapes.specs.commands.declared.status.Status.TheVariants as status
use Rattle.cilk_program_tapes.proofs.commands_laws.WholeText.{gives_up, whole_held}
use Rattle.cilk_explore.specs.Exploring.{IsExploration}
use Rattle.cilk_explore.specs.declared.exploration.Exploration.{Exploration}
use Rattle.cilk_run.specs.model.Choice.{Choice}
use Rattle.cilk_program_runs.specs.Exploring.{exploration_text, status_by, recorded, logs_of}
use Rattle.cilk_program_runs.specs.Exploring.{AreKept, GivesUpExploring, IsExplored, Keeps, KeepsFront}
use Rattle.cilk_program_runs.specs.Outcomes.{Outcome, log_in, outcomes_by}
use Rattle.cilk_program_runs.specs.declared.explore.Answer.{Answer}
use Rattle.cilk_program_runs.specs.Unexplored.{IsUnexplored, TellsUnexplored, status_of}
use Rattle.cilk_program_runs.specs.declared.unexplored.Unexplored.{Unexplored}
use Rattle.cilk_program_runs.specs.declared.unexplored.Unexplored.TheVariants as why
use Rattle.cilk_program_tapes.proofs.commands_laws.Statuses.{not_both}

-- ---- the logs

-- those of the first k outcomes are kept
abbrev pub AreKeptTo : ℕ → Program → ℕ → List Outcome → (ℕ → Option (List ℕ)) → Type 0
AreKeptTo k program workers outcomes stored =
    (j : ℕ) (text : List ℕ) → slice_get (logs_of program workers outcomes) j ≡ Some text → j < k → IfSome (stored (j + 1)) (λ bytes. bytes ≡ text)

kept-as : (one other : List ℕ) (stored : Option (List ℕ)) → one ≡ other → IfSome stored (λ bytes. bytes ≡ one) → IfSome stored (λ bytes. bytes ≡ other)
kept-as one other stored same kept = subst (λ text. IfSome stored (λ bytes. bytes ≡ text)) same kept

log-there : (program : Program) (workers : ℕ) (outcomes : List Outcome) (k : ℕ) (o : Outcome) (text : List ℕ) → slice_get outcomes k ≡ Some o
    → slice_get (logs_of program workers outcomes) k ≡ Some text → recorded program workers (log_in o) ≡ text
log-there program workers outcomes k o text there is =
    let log_there : slice_get (logs_of program workers outcomes) k ≡ Some (recorded program workers (log_in o)) =
    slice_get-map (λ (x : Outcome). recorded program workers (log_in x)) outcomes k
    ∙ ap (option_map (λ (x : Outcome). recorded program workers (log_in x))) there in
    let same : Some (recorded program workers (log_in o)) ≡ Some text = sym log_there ∙ is in
    cc

-- one more is kept
pub kept-next : (program : Program) (workers : ℕ) (outcomes : List Outcome) (k : ℕ) (o : Outcome) (log : List Choice) (old new : ℕ → Option (List ℕ))
    → slice_get outcomes k ≡ Some o → log ≡ log_in o → AreKeptTo k program workers outcomes old
    → IfSome (new (k + 1)) (λ bytes. bytes ≡ recorded program workers log) → ((j : ℕ) → j ≢ k + 1 → new j ≡ old j)
    → AreKeptTo (k + 1) program workers outcomes new
kept-next program workers outcomes k o log old new there own kept last others = λ j text is within.
    elim (eq-or-lt_of_le {n = j} {m = k} (omega (arith, within))) [
      | inl same ↦ (
          let here : slice_get (logs_of program workers outcomes) k ≡ Some text =
          ap (slice_get (logs_of program workers outcomes)) (sym same) ∙ is in
          subst (λ i. IfSome (new (i + 1)) (λ bytes. bytes ≡ text)) (sym same)
          (kept-as (recorded program workers log) text (new (k + 1))
          (ap (recorded program workers) own ∙ log-there program workers outcomes k o text there here) last))
      | inr less ↦ (
          let apart = others (j + 1) (λ bad. omega (arith, bad, less)) in
          subst (λ (o : Option (List ℕ)). IfSome o (λ bytes. bytes ≡ text)) (sym apart) (kept j text is less))
    ]

-- none are
pub kept-none : (program : Program) (workers : ℕ) (outcomes : List Outcome) (stored : ℕ → Option (List ℕ)) → AreKeptTo 0 program workers outcomes stored
kept-none program workers outcomes stored = λ j text is within. absurd (omega (arith, within))

-- all are
within-logs : (program : Program) (workers : ℕ) (os : List Outcome) (j : ℕ) (text : List ℕ) → slice_get (logs_of program workers os) j ≡ Some text
    → j < length os
within-logs program workers [] j text is = cc
within-logs program workers (o ∷ os) zero text is = omega arith
within-logs program workers (o ∷ os) (suc j) text is = let less = within-logs program workers os j text is in omega (arith, less)

pub kept-all : (program : Program) (workers : ℕ) (outcomes : List Outcome) (k : ℕ) (stored : ℕ → Option (List ℕ)) → length outcomes ≤ k
    → AreKeptTo k program workers outcomes stored → AreKept (logs_of program workers outcomes) stored
kept-all program workers outcomes k stored all kept = λ j text is.
    let within = within-logs program workers outcomes j text is in
    kept j text is (omega (arith, within, all))

-- ---- what is written

pub explored-of : {E : Type 0} (workers limit : ℕ) (wanted : Bool) (program : Program) (e : Exploration) (stored : ℕ → Option (List ℕ))
    (answer : Result Answer E) → IsExploration program workers limit e → IfOk answer (λ a. a.status ≡ status_by e.whole (length (outcomes_by e)))
    → IfOk answer (λ a. a.text.items ≡ exploration_text workers e.whole e.or_more (outcomes_by e))
    → IfOk answer (λ a. wanted ≡ true → AreKept (logs_of program workers (outcomes_by e)) stored)
    → IfOk answer (λ a. (bytes : List ℕ) → IsReady bytes program → (logs : List (List ℕ))
    × IsExplored workers limit a.status bytes a.text.items logs × (wanted ≡ true → AreKept logs stored))
explored-of workers limit wanted program e stored (Ok a) found tells is kept = λ bytes ready. (
  logs_of program workers (outcomes_by e),
  record { program = program; ready = ready; exploration = e; found = found; tells = tells; is = is; kept = refl },
  kept,
)
explored-of workers limit wanted program e stored (Err why) found tells is kept = tt

module _ (known : Option (List ℕ)) (text : List ℕ) (wanted : Bool) (stored : ℕ → Option (List ℕ)) (old new : Option (List ℕ))
    (Are : List ℕ → List ℕ → List (List ℕ) → Type 0) (short : (answer : List ℕ) (logs : List (List ℕ)) → Are text answer logs → length text ≤ TEXT_LIMIT)
    (read : IsReadOf known text) where
  pub keeps-whole : Keeps (Are text) wanted stored old new → Keeps (λ answer logs. Held known (λ bytes. Are bytes answer logs)) wanted stored old new
  keeps-whole k = record {
    answer = k.answer;
    logs = k.logs;
    are = whole_held known text (λ bytes. Are bytes k.answer k.logs) read (short k.answer k.logs k.are) k.are;
    kept = k.kept;
    written = k.written;
  }

  pub keeps-front-whole : KeepsFront (Are text) wanted stored old new
      → KeepsFront (λ answer logs. Held known (λ bytes. Are bytes answer logs)) wanted stored old new
  keeps-front-whole k = record {
    answer = k.answer;
    logs = k.logs;
    are = whole_held known text (λ bytes. Are bytes k.answer k.logs) read (short k.answer k.logs k.are) k.are;
    kept = k.kept;
    begun = k.begun;
  }

-- ---- why nothing is

no-answer : (found : Unexplored) → is_answer (status_of found) ≡ false
no-answer (why.Program (failure.Fault fault line column)) = refl
no-answer (why.Program failure.NotUtf8) = refl
no-answer (why.Program failure.TooMany) = refl
no-answer (why.Program failure.Memory) = refl
no-answer (why.Program failure.CannotRead) = refl
no-answer (why.Program failure.CannotWrite) = refl
no-answer (why.CannotKeep number) = refl

pub not-explored : {P : Type 0} (ended : Status) (found : Unexplored) → ended ≡ status_of found → is_answer ended ≡ true → P
not-explored ended found is answered = not_both ended answered (ap is_answer is ∙ no-answer found)

no-usage-of : (found : Unexplored) → status_of found ≢ status.Usage
no-usage-of (why.Program (failure.Fault fault line column)) bad = cc
no-usage-of (why.Program failure.NotUtf8) bad = cc
no-usage-of (why.Program failure.TooMany) bad = cc
no-usage-of (why.Program failure.Memory) bad = cc
no-usage-of (why.Program failure.CannotRead) bad = cc
no-usage-of (why.Program failure.CannotWrite) bad = cc
no-usage-of (why.CannotKeep number) bad = cc

pub no-usage : (ended : Status) (found : Unexplored) → ended ≡ status_of found → ended ≢ status.Usage
no-usage ended found is bad = no-usage-of found (sym is ∙ bad)

-- what was trapped has an answer
pub no-trap : (ended : Status) (found : Unexplored) → ended ≡ status_of found → ended ≢ status.Trapped
no-trap ended found is trapped = not-explored ended found is (ap is_answer trapped)

pub gave-up : (wanted explain : Bool) (name folder : List ℕ) (ended : Status) (known old new : Option (List ℕ)) (text : List ℕ) (found : Unexplored)
    → IsReadOf known text → IsUnexplored wanted text found → ended ≡ status_of found → TellsUnexplored explain name folder text found old new
    → GivesUpExploring wanted explain name folder ended known old new
gave-up wanted explain name folder ended known old new text (why.Program found) read reason is told =
    inl (gives_up explain name ended known old new text found read reason is told)
gave-up wanted explain name folder ended known old new text (why.CannotKeep number) read reason is told = inr (record {
  asked = reason.0;
  status_is = is;
  ready = whole_held known text (λ bytes. (program : Program) × IsReady bytes program) read reason.1.1.is.text.short reason.1;
  number = number;
  told = told;
})
