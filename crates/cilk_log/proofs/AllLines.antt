-- The lines of a recorded schedule stand in its text.
use Rattle.std.proofs.Common.{◌≡◌, ℕ, ◌^◌, ◌<◌, ◌+◌, Bool, true, false, cond, List, [], ◌∷◌, ◌++◌, map, length, flat_map, Option, Some, None, refl, sym, ap}
use Rattle.std.proofs.Common.{◌∙◌, arith}
use Rattle.std.specs.List.{AllByRecursion}
use Rattle.cilk_sched.specs.model.Choice.{Choice}
use Rattle.cilk_log.specs.Choices.{ChoiceFits, choice_text}
use Rattle.cilk_log.specs.Stretches.{Stretch, once, count_of, are_joined, with_first, stretches_of, stretch_text}
use Rattle.cilk_log.specs.Text.{Log, LogFits, end_text, lines_by, log_lines, with_newline}
use Rattle.cilk_log.specs.Reading.{lines_of}
use Rattle.cilk_log.proofs.Breaks.{IsPlain, lines_flat, choice_is_plain, decimal_is_plain}
use Rattle.cilk_log.proofs.Programs.{program_is_plain}
use Rattle.cilk_log.proofs.Stretching.{counted_choices, choices_whole}
use Rattle.cilk_log.proofs.StretchLines.{stretch_is_plain}

-- ---- the stretches of choices that fit

abbrev pub Fits : Stretch → Type 0
Fits s = ChoiceFits s.choice

fits_at : (c : Choice) (s : Stretch) (ss : List Stretch) → ChoiceFits c → AllByRecursion Fits (s ∷ ss) → (b : Bool)
    → AllByRecursion Fits (cond b (record { choice = c; times = s.times + 1 } ∷ ss) (once c ∷ s ∷ ss))
fits_at c s ss f g true = (f, g.1)
fits_at c s ss f g false = (f, g)

fits_with : (c : Choice) (ss : List Stretch) → ChoiceFits c → AllByRecursion Fits ss → AllByRecursion Fits (with_first c ss)
fits_with c [] f g = (f, tt)
fits_with c (s ∷ ss) f g = fits_at c s ss f g (are_joined c s.choice)

pub stretches_fit : (choices : List Choice) → AllByRecursion ChoiceFits choices → AllByRecursion Fits (stretches_of choices)
stretches_fit [] f = tt
stretches_fit (c ∷ cs) f = fits_with c (stretches_of cs) f.0 (stretches_fit cs f.1)

pub stretches_count : (choices : List Choice) → count_of (stretches_of choices) ≡ length choices
stretches_count choices = sym (counted_choices (stretches_of choices)) ∙ ap length (choices_whole choices)

-- ---- the lines

choices_are_plain : (choices : List Choice) (line : List ℕ) → AllByRecursion ChoiceFits choices → IsPlain line
    → AllByRecursion IsPlain (map choice_text choices ++ line ∷ [])
choices_are_plain [] line f e = (e, tt)
choices_are_plain (choice ∷ choices) line f e = (choice_is_plain choice f.0, choices_are_plain choices line f.1 e)

stretches_are_plain : (stretches : List Stretch) (line : List ℕ) → AllByRecursion Fits stretches → count_of stretches < 2 ^ 64 → IsPlain line
    → AllByRecursion IsPlain (map stretch_text stretches ++ line ∷ [])
stretches_are_plain [] line f n e = (e, tt)
stretches_are_plain (s ∷ ss) line f n e = (stretch_is_plain s f.0 (omega arith), stretches_are_plain ss line f.1 (omega arith) e)

all_plain : (program : Option (List ℕ)) (workers : ℕ) (choices : List Choice) → workers < 256 → AllByRecursion ChoiceFits choices → length choices < 2 ^ 64
    → AllByRecursion IsPlain (lines_by program workers choices)
all_plain None workers choices w f n =
    (refl, (decimal_is_plain workers (omega arith), choices_are_plain choices (end_text (length choices)) f (decimal_is_plain (length choices) n)))
all_plain (Some digest) workers choices w f n =
    let few : count_of (stretches_of choices) < 2 ^ 64 = omega (arith, stretches_count choices, n) in (
      refl,
      (
        decimal_is_plain workers (omega arith),
        (
          program_is_plain digest,
          stretches_are_plain (stretches_of choices) (end_text (length choices)) (stretches_fit choices f) few (decimal_is_plain (length choices) n),
        ),
      ),
    )

pub lines_written : (log : Log) → LogFits log → lines_of (flat_map with_newline (log_lines log)) ≡ record { whole = log_lines log; rest = [] }
lines_written log f = lines_flat (log_lines log) (all_plain log.program log.workers log.choices f.workers f.choices f.count)
