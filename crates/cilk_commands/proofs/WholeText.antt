-- What is said of the bytes that were read of a text is said of the text.
use Rattle.std.proofs.Common.{◌≡◌, ◌≤◌, ◌<◌, ◌+◌, ◌∙◌, ℕ, List, length, take, subst, min, arith, Bool, true, false, Option, Some, None, IfSome, inl}
use Rattle.std.proofs.Common.{inr, [], ◌++◌, option_map, refl, sym}
use Rattle.std.specs.Prelude.{◌≢◌}
use Rattle.std.proofs.lemmas.List.{length-take, take_min}
use Rattle.std.proofs.Math.Seq.{take-length}
use Rattle.cilk_check_explain.specs.lex.declared.reading.TheConstants.{TEXT_LIMIT}
use Rattle.cilk_load.specs.Front.{Gains, GainsFront}
use Rattle.cilk_commands.specs.Held.{Held, IsReadOf}
use Rattle.cilk_commands.specs.Loading.{Unready}
use Rattle.cilk_commands.specs.Program.{Explains, IsReason, IsNoProgram, IsIllFormed}
use Rattle.cilk_commands.specs.Status.{status_of}
use Rattle.cilk_commands.specs.Telling.{GivesUp, IsExplanation, WritesFailure}
use Rattle.cilk_commands.specs.declared.failure.Failure.{Failure}
use Rattle.cilk_commands.specs.declared.failure.Failure.TheVariants as failure
use Rattle.cilk_commands.specs.declared.fault.Fault.TheVariants as fault
use Rattle.cilk_commands.specs.declared.status.Status.{Status}
use Rattle.cilk_commands.specs.declared.status.Status.TheVariants as status

-- a text of which so little was read was read whole
read_whole : (bytes text : List ℕ) → text ≡ take (TEXT_LIMIT + 1) bytes → length text ≤ TEXT_LIMIT → text ≡ bytes
read_whole bytes text read short =
    let cut : length (take (TEXT_LIMIT + 1) bytes) ≤ TEXT_LIMIT = rw (← read) short in
    let all : min (TEXT_LIMIT + 1) (length bytes) ≡ length bytes = omega (arith, length-take (TEXT_LIMIT + 1) bytes) in
    let whole : take (min (TEXT_LIMIT + 1) (length bytes)) bytes ≡ bytes = rw all (take-length bytes) in
    read ∙ (rw (← take_min (TEXT_LIMIT + 1) bytes) whole)

-- what a limited read adds to an empty buffer
pub read_of : (known held : Option (List ℕ)) (limit : ℕ) (start text : List ℕ) → held ≡ known → limit ≡ (TEXT_LIMIT + 1) → start ≡ []
    → IfSome (option_map (take limit) held) (λ bytes. text ≡ start ++ bytes) → IsReadOf known text
read_of None held limit start text same limited empty read = tt
read_of (Some bytes) held limit start text same limited empty read =
    let known_read : IfSome (option_map (take (TEXT_LIMIT + 1)) (Some bytes)) (λ xs. text ≡ [] ++ xs) =
    subst (λ s. IfSome (option_map (take (TEXT_LIMIT + 1)) (Some bytes)) (λ xs. text ≡ s ++ xs)) empty
    (subst (λ n. IfSome (option_map (take n) (Some bytes)) (λ xs. text ≡ start ++ xs)) limited
    (subst (λ k. IfSome (option_map (take limit) k) (λ xs. text ≡ start ++ xs)) same read)) in
    known_read

-- something was read of each text
pub some_read : (known : Option (List ℕ)) → (text : List ℕ) × IsReadOf known text
some_read None = ([], tt)
some_read (Some bytes) = (take (TEXT_LIMIT + 1) bytes, refl)

-- what is so only of texts that are short enough
pub whole_held : (known : Option (List ℕ)) (text : List ℕ) (Are : List ℕ → Type 0) → IsReadOf known text → length text ≤ TEXT_LIMIT → Are text → Held known Are
whole_held None text Are read short are = record { bytes = text; held = tt; are = are }
whole_held (Some bytes) text Are read short are =
    record { bytes = bytes; held = refl; are = subst Are (read_whole bytes text read short) are }

module _ (known : Option (List ℕ)) (text : List ℕ) (old new : Option (List ℕ)) (Answers : List ℕ → List ℕ → Type 0)
    (short : (answer : List ℕ) → Answers text answer → length text ≤ TEXT_LIMIT) (read : IsReadOf known text) where
  pub gains_whole : Gains (Answers text) old new → Gains (λ answer. Held known (λ bytes. Answers bytes answer)) old new
  gains_whole gained = record {
    answer = gained.answer;
    is = whole_held known text (λ bytes. Answers bytes gained.answer) read (short gained.answer gained.is) gained.is;
    written = gained.written;
  }

  pub gains_front_whole : GainsFront (Answers text) old new → GainsFront (λ answer. Held known (λ bytes. Answers bytes answer)) old new
  gains_front_whole gained = record {
    answer = gained.answer;
    is = whole_held known text (λ bytes. Answers bytes gained.answer) read (short gained.answer gained.is) gained.is;
    begun = gained.begun;
  }

-- ---- why a text has no answer

explained_whole : (bytes text : List ℕ) (why : Failure) → text ≡ take (TEXT_LIMIT + 1) bytes → Explains text why → Explains bytes why
explained_whole bytes text (failure.Fault (fault.Read found) line column) read told = elim told.reason [
  | inl too_long ↦ (let long : TEXT_LIMIT < length (take (TEXT_LIMIT + 1) bytes) = rw (← read) too_long.long in
      record {
        reason = inl
            (record {
              long = omega (arith, length-take (TEXT_LIMIT + 1) bytes);
              fault_is = too_long.fault_is;
              line_is = too_long.line_is;
              column_is = too_long.column_is;
            });
      })
  | inr none ↦ record { reason = inr (subst (λ t. IsNoProgram t found line column) (read_whole bytes text read none.short) none) }
]
explained_whole bytes text (failure.Fault (fault.Check found) line column) read told =
    record { reason = subst (λ t. IsIllFormed t found line column) (read_whole bytes text read told.reason.text.short) told.reason }
explained_whole bytes text failure.NotUtf8 read told =
    record { reason = subst (λ t. IsReason t failure.NotUtf8) (read_whole bytes text read told.reason.0) told.reason }
explained_whole bytes text failure.Memory read told = record { reason = tt }
explained_whole bytes text failure.TooMany read told = absurd told.reason
explained_whole bytes text failure.CannotRead read told = absurd told.reason
explained_whole bytes text failure.CannotWrite read told = absurd told.reason

unready_whole : (bytes text : List ℕ) (why : Failure) → text ≡ take (TEXT_LIMIT + 1) bytes → Unready text why → Unready bytes why
unready_whole bytes text failure.TooMany read told = subst (λ t. Unready t failure.TooMany) (read_whole bytes text read told.is.text.short) told
unready_whole bytes text (failure.Fault found line column) read told = explained_whole bytes text (failure.Fault found line column) read told
unready_whole bytes text failure.NotUtf8 read told = explained_whole bytes text failure.NotUtf8 read told
unready_whole bytes text failure.Memory read told = explained_whole bytes text failure.Memory read told
unready_whole bytes text failure.CannotRead read told = explained_whole bytes text failure.CannotRead read told
unready_whole bytes text failure.CannotWrite read told = explained_whole bytes text failure.CannotWrite read told

pub reason_held : (known : Option (List ℕ)) (text : List ℕ) (why : Failure) → IsReadOf known text → Unready text why → Held known (λ bytes. Unready bytes why)
reason_held None text why read told = record { bytes = text; held = tt; are = told }
reason_held (Some bytes) text why read told = record { bytes = bytes; held = refl; are = unready_whole bytes text why read told }

-- what is told of a failure with a text that was read
pub gives_up : (explain : Bool) (name : List ℕ) (ended : Status) (known old new : Option (List ℕ)) (text : List ℕ) (why : Failure) → IsReadOf known text
    → (status_of why ≡ status.Refused → Unready text why) → ended ≡ status_of why
    → (behind : List ℕ) × (IsExplanation explain text why behind × WritesFailure name why behind old new) → GivesUp Unready explain name ended known old new
gives_up explain name ended known old new text why read reason is told = record {
  why = why;
  status_is = is;
  declined = λ refused. reason_held known text why read (reason (sym is ∙ refused));
  behind = told.0;
  explained = record { text = text; read = read; is = told.1.0 };
  told = told.1.1;
}

pub unexplained : (explain : Bool) (text : List ℕ) (why : Failure) → status_of why ≢ status.Refused → IsExplanation explain text why []
unexplained true text (failure.Fault found line column) other = inl refl
unexplained false text (failure.Fault found line column) other = refl
unexplained true text failure.NotUtf8 other = refl
unexplained false text failure.NotUtf8 other = refl
unexplained true text failure.TooMany other = refl
unexplained false text failure.TooMany other = refl
unexplained true text failure.Memory other = refl
unexplained false text failure.Memory other = refl
unexplained true text failure.CannotRead other = refl
unexplained false text failure.CannotRead other = refl
unexplained true text failure.CannotWrite other = refl
unexplained false text failure.CannotWrite other = refl

-- where no text was read
pub nothing_read : (Reason : List ℕ → Failure → Type 0) (explain : Bool) (name : List ℕ) (ended : Status) (known old new : Option (List ℕ)) (why : Failure)
    → status_of why ≢ status.Refused → ended ≡ status_of why → WritesFailure name why [] old new → GivesUp Reason explain name ended known old new
nothing_read Reason explain name ended known old new why other is told = record {
  why = why;
  status_is = is;
  declined = λ refused. absurd (other (sym is ∙ refused));
  behind = [];
  explained = record { text = (some_read known).0; read = (some_read known).1; is = unexplained explain (some_read known).0 why other };
  told = told;
}
