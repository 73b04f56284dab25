-- What is read as a recorded schedule is its text.
use Rattle.std.proofs.Common.{◌≡◌, ℕ, ◌+◌, ◌<◌, ◌≤◌, Bool, true, false, cond, List, [], ◌∷◌, ◌++◌, map, length, flat_map, Option, Some, None, Result}
use Rattle.std.proofs.Common.{Ok, Err, refl, ap, ◌∙◌, arith}
use Rattle.std.specs.Prelude.{bytes_eq}
use Rattle.std.specs.List.{AllByRecursion}
use Rattle.std.proofs.lemmas.Bool.Decides.{nat_tests}
use Rattle.std.proofs.lemmas.Slice.Eq.{bytes_eq-Decides}
use Rattle.cilk_sched.specs.model.Choice.{Choice}
use Rattle.cilk_log.specs.Choices.{ChoiceFits, choice_text}
use Rattle.cilk_log.specs.Text.{Log, LogFits, most_choices, is_past_most, end_text, workers_text, digest_text, first_line, first_line_2}
use Rattle.cilk_log.specs.Text.{log_lines, log_text, with_newline}
use Rattle.cilk_log.specs.Reading.{lines_of, Fault, wrong_version, Told, told_by, told_in, choice_in, workers_in, program_in}
use Rattle.cilk_log.specs.Reading.{ended, with_head, choices_read, workers_read, stretches_read, program_read, third_read, second_read, lines_read, log_read}
use Rattle.cilk_log.proofs.Acts.{choice_told, workers_told}
use Rattle.cilk_log.proofs.Breaks.{text_of_lines}
use Rattle.cilk_log.proofs.Ended.{ended_told}
use Rattle.cilk_log.proofs.GoingOn.{append_nil}
use Rattle.cilk_log.proofs.Programs.{NamesProgram, program_told}
use Rattle.cilk_log.proofs.ToldStretched.{stretches_told}

record Leads (lines : List (List ℕ)) (told : Told) : Type 0 where
  spelling : lines ≡ map choice_text told.choices ++ told.others
  fits : AllByRecursion ChoiceFits told.choices

leads_by : (line : List ℕ) (lines : List (List ℕ)) (told : Told) → Leads lines told → (o : Option Choice) → choice_in line ≡ o
    → Leads (line ∷ lines) (told_by o line lines told)
leads_by line lines told l None e = record { spelling = refl; fits = tt }
leads_by line lines told l (Some choice) e =
    let c = choice_told line choice e in
    record {
      spelling = ap (λ t. t ∷ lines) c.text ∙ ap (λ t. choice_text choice ∷ t) l.spelling;
      fits = (c.fits, l.fits);
    }

leads : (lines : List (List ℕ)) → Leads lines (told_in lines)
leads [] = record { spelling = refl; fits = tt }
leads (line ∷ lines) = leads_by line lines (told_in lines) (leads lines) (choice_in line) refl

record Says (lines : List (List ℕ)) (rest : List ℕ) (log : Log) : Type 0 where
  lines_are : lines ≡ log_lines log
  rest_is : rest ≡ []
  fits : LogFits log

-- ---- version 1

with_told : (first second : List ℕ) (lines : List (List ℕ)) (rest : List ℕ) (log : Log) (n : ℕ) (told : Told) → first ≡ first_line
    → (second ≡ workers_text n) × (n < 256)
    → Leads lines told → (r : Result (List Choice) Fault) → ended (length told.choices + 3) told.choices told.others rest ≡ r → with_head None n r ≡ Ok log
    → Says (first ∷ second ∷ lines) rest log
with_told first second lines rest log n told f w l (Err fault) e o = absurd cc
with_told first second lines rest log n told f w l (Ok all) e o =
    let ends = ended_told (length told.choices + 3) told.choices told.others rest all e in
    let same : record { program = None; workers = n; choices = all } ≡ log = cc in
    let lines_same : lines ≡ map choice_text all ++ end_text (length all) ∷ [] =
    l.spelling ∙ ap (λ cs. map choice_text cs ++ told.others) ends.all_are ∙ ap (λ ls. map choice_text all ++ ls) ends.others_are in
    rw (← same) (record {
      lines_are = ap (λ t. t ∷ second ∷ lines) f ∙ ap (λ t. first_line ∷ t ∷ lines) w.0 ∙ ap (λ t. first_line ∷ workers_text n ∷ t) lines_same;
      rest_is = ends.rest_is;
      fits = record { program = tt; workers = w.1; choices = rw (← ends.all_are) l.fits; count = ends.count; few = refl };
    })

choices_told : (first second : List ℕ) (lines : List (List ℕ)) (rest : List ℕ) (log : Log) (o : Option ℕ) → first ≡ first_line → workers_in second ≡ o
    → choices_read o lines rest ≡ Ok log → Says (first ∷ second ∷ lines) rest log
choices_told first second lines rest log None f w o = absurd cc
choices_told first second lines rest log (Some n) f w o =
    with_told first second lines rest log n (told_in lines) f (workers_told second n w) (leads lines)
    (ended (length (told_in lines).choices + 3) (told_in lines).choices (told_in lines).others rest) refl o

second_told : (first : List ℕ) (lines : List (List ℕ)) (rest : List ℕ) (log : Log) → first ≡ first_line → workers_read lines rest ≡ Ok log
    → Says (first ∷ lines) rest log
second_told first [] rest log f o = absurd cc
second_told first (second ∷ lines) rest log f o = choices_told first second lines rest log (workers_in second) f refl o

-- ---- version 2

few_of : (digest : List ℕ) (n : ℕ) → n ≤ most_choices → is_past_most (Some digest) n ≡ false
few_of digest n m = grind (arith, nat_tests)

with_stretches : (first second third : List ℕ) (lines : List (List ℕ)) (rest : List ℕ) (log : Log) (n : ℕ) (digest : List ℕ) → first ≡ first_line_2
    → (second ≡ workers_text n) × (n < 256) → NamesProgram third digest → (r : Result (List Choice) Fault) → stretches_read lines rest ≡ r
    → with_head (Some digest) n r ≡ Ok log → Says (first ∷ second ∷ third ∷ lines) rest log
with_stretches first second third lines rest log n digest f w p (Err fault) e o = absurd cc
with_stretches first second third lines rest log n digest f w p (Ok all) e o =
    let said = stretches_told lines rest all e in
    let same : record { program = Some digest; workers = n; choices = all } ≡ log = cc in
    rw (← same) (record {
      lines_are =
          ap (λ t. t ∷ second ∷ third ∷ lines) f ∙ ap (λ t. first_line_2 ∷ t ∷ third ∷ lines) w.0
          ∙ ap (λ t. first_line_2 ∷ workers_text n ∷ t ∷ lines) p.text ∙ ap (λ ls. first_line_2 ∷ workers_text n ∷ digest_text digest ∷ ls) said.lines_are;
      rest_is = said.rest_is;
      fits = record {
        program = p.fits;
        workers = w.1;
        choices = said.fits;
        count = omega (arith, said.few);
        few = few_of digest (length all) said.few;
      };
    })

program_line_told : (first second third : List ℕ) (lines : List (List ℕ)) (rest : List ℕ) (log : Log) (n : ℕ) (o : Option (List ℕ)) → first ≡ first_line_2
    → (second ≡ workers_text n) × (n < 256) → program_in third ≡ o → program_read n o lines rest ≡ Ok log → Says (first ∷ second ∷ third ∷ lines) rest log
program_line_told first second third lines rest log n None f w p o = absurd cc
program_line_told first second third lines rest log n (Some digest) f w p o =
    with_stretches first second third lines rest log n digest f w (program_told third digest p) (stretches_read lines rest) refl o

third_told : (first second : List ℕ) (lines : List (List ℕ)) (rest : List ℕ) (log : Log) (o : Option ℕ) → first ≡ first_line_2 → workers_in second ≡ o
    → third_read o lines rest ≡ Ok log → Says (first ∷ second ∷ lines) rest log
third_told first second lines rest log None f w o = absurd cc
third_told first second [] rest log (Some n) f w o = absurd cc
third_told first second (third ∷ lines) rest log (Some n) f w o =
    program_line_told first second third lines rest log n (program_in third) f (workers_told second n w) refl o

second_told_2 : (first : List ℕ) (lines : List (List ℕ)) (rest : List ℕ) (log : Log) → first ≡ first_line_2 → second_read lines rest ≡ Ok log
    → Says (first ∷ lines) rest log
second_told_2 first [] rest log f o = absurd cc
second_told_2 first (second ∷ lines) rest log f o = third_told first second lines rest log (workers_in second) f refl o

-- ---- both

first_told : (first : List ℕ) (lines : List (List ℕ)) (rest : List ℕ) (log : Log) (c : Bool) → bytes_eq first first_line ≡ c
    → (d : Bool) → bytes_eq first first_line_2 ≡ d
    → cond c (workers_read lines rest) (cond d (second_read lines rest) (Err wrong_version)) ≡ Ok log → Says (first ∷ lines) rest log
first_told first lines rest log false e false g o = absurd cc
first_told first lines rest log false e true g o = second_told_2 first lines rest log ((bytes_eq-Decides first first_line_2).0 g) o
first_told first lines rest log true e d g o = second_told first lines rest log ((bytes_eq-Decides first first_line).0 e) o

lines_told : (lines : List (List ℕ)) (rest : List ℕ) (log : Log) → lines_read lines rest ≡ Ok log → Says lines rest log
lines_told [] rest log o = absurd cc
lines_told (first ∷ lines) rest log o = first_told first lines rest log (bytes_eq first first_line) refl (bytes_eq first first_line_2) refl o

pub told : (bytes : List ℕ) (log : Log) → log_read bytes ≡ Ok log → LogFits log × (bytes ≡ log_text log)
unfolding log_read log_text
told bytes log o =
    let s = lines_told (lines_of bytes).whole (lines_of bytes).rest log o in
    let e : bytes ≡ flat_map with_newline (log_lines log) ++ [] =
    text_of_lines bytes ∙ ap (λ ls. flat_map with_newline ls ++ (lines_of bytes).rest) s.lines_are
    ∙ ap (λ t. flat_map with_newline (log_lines log) ++ t) s.rest_is in
    (s.fits, e ∙ append_nil (flat_map with_newline (log_lines log)))
