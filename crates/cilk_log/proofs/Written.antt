-- The text of a recorded schedule is read as that schedule.
use Rattle.std.proofs.Common.{◌≡◌, ℕ, ◌^◌, ◌<◌, ◌≤◌, false, List, [], ◌∷◌, ◌++◌, map, length, Option, Some, None, Ok, refl, ap, ◌∙◌, arith, eq-eqb}
use Rattle.std.specs.List.{AllByRecursion}
use Rattle.std.proofs.lemmas.Bool.{le-leb}
use Rattle.std.proofs.lemmas.Bool.Decides.{nat_tests}
use Rattle.cilk_sched.specs.model.Choice.{Choice}
use Rattle.cilk_log.specs.Choices.{ChoiceFits, choice_text}
use Rattle.cilk_log.specs.Stretches.{Stretch, count_of, stretches_of, stretch_text, AreStretches}
use Rattle.cilk_log.specs.Text.{Log, LogFits, ProgramFits, most_choices, is_past_most, end_text, lines_by, log_text}
use Rattle.cilk_log.specs.Reading.{Lines, told_in, stretched_in, choice_in, stretch_in, stretches_read, lines_read, log_read}
use Rattle.cilk_log.proofs.Acts.{choice_written, count_written, workers_written, end_is_no_choice}
use Rattle.cilk_log.proofs.AllLines.{Fits, lines_written, stretches_fit, stretches_count}
use Rattle.cilk_log.proofs.Programs.{program_written}
use Rattle.cilk_log.proofs.Stretching.{choices_whole, are_apart}
use Rattle.cilk_log.proofs.StretchLines.{stretch_written}

-- ---- version 1

choices_written : (choices : List Choice) (line : List ℕ) → AllByRecursion ChoiceFits choices → choice_in line ≡ None
    → told_in (map choice_text choices ++ line ∷ []) ≡ record { choices = choices; others = line ∷ [] }
choices_written [] line f e = rw e refl
choices_written (choice ∷ choices) line f e = rw (choice_written choice f.0, choices_written choices line f.1 e) refl

first_written : (workers : ℕ) (choices : List Choice) → workers < 256 → AllByRecursion ChoiceFits choices → length choices < 2 ^ 64
    → lines_read (lines_by None workers choices) [] ≡ Ok (record { program = None; workers = workers; choices = choices })
first_written workers choices w f h =
    let n = length choices in
    rw (
      workers_written workers w,
      choices_written choices (end_text n) f (end_is_no_choice n),
      count_written n h,
      eq-eqb n n refl,
    ) refl

-- ---- version 2

end_is_no_stretch : (n : ℕ) → stretch_in (end_text n) ≡ None
end_is_no_stretch n = refl

stretches_written : (stretches : List Stretch) (line : List ℕ) → AreStretches stretches → AllByRecursion Fits stretches → count_of stretches ≤ most_choices
    → stretch_in line ≡ None → stretched_in (map stretch_text stretches ++ line ∷ []) ≡ record { stretches = stretches; others = line ∷ [] }
stretches_written [] line a f m e = rw e refl
stretches_written (s ∷ ss) line a f m e =
    rw (stretch_written s a.0 f.0 (omega arith), stretches_written ss line a.2 f.1 (omega arith) e, a.1) refl

all_written : (choices : List Choice) → AllByRecursion ChoiceFits choices → length choices ≤ most_choices
    → stretches_read (map stretch_text (stretches_of choices) ++ end_text (length choices) ∷ []) [] ≡ Ok choices
all_written choices f m =
    let n = length choices in
    let counted = stretches_count choices in
    let few : count_of (stretches_of choices) ≤ most_choices = omega (arith, counted, m) in
    rw (
      stretches_written (stretches_of choices) (end_text n) (are_apart choices) (stretches_fit choices f) few (end_is_no_stretch n),
      le-leb (count_of (stretches_of choices)) most_choices few,
      choices_whole choices,
      count_written n (omega arith),
      eq-eqb n n refl,
    ) refl

few_of : (digest : List ℕ) (n : ℕ) → is_past_most (Some digest) n ≡ false → n ≤ most_choices
few_of digest n e = grind (arith, nat_tests)

second_written : (digest : List ℕ) (workers : ℕ) (choices : List Choice) → ProgramFits (Some digest) → workers < 256 → AllByRecursion ChoiceFits choices
    → length choices ≤ most_choices
    → lines_read (lines_by (Some digest) workers choices) [] ≡ Ok (record { program = Some digest; workers = workers; choices = choices })
second_written digest workers choices p w f m =
    rw (workers_written workers w, program_written digest p, all_written choices f m) refl

-- ---- both

by_version : (program : Option (List ℕ)) (workers : ℕ) (choices : List Choice) → ProgramFits program → workers < 256 → AllByRecursion ChoiceFits choices
    → length choices < 2 ^ 64 → is_past_most program (length choices) ≡ false
    → lines_read (lines_by program workers choices) [] ≡ Ok (record { program = program; workers = workers; choices = choices })
by_version None workers choices p w f h e = first_written workers choices w f h
by_version (Some digest) workers choices p w f h e = second_written digest workers choices p w f (few_of digest (length choices) e)

pub read_back : (log : Log) → LogFits log → log_read (log_text log) ≡ Ok log
unfolding log_read log_text
read_back log f =
    ap (λ (l : Lines). lines_read l.whole l.rest) (lines_written log f)
    ∙ by_version log.program log.workers log.choices f.program f.workers f.choices f.count f.few
