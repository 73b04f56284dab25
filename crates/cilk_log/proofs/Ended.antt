-- What stands behind the choices of a recorded schedule.
use Rattle.std.proofs.Common.{◌≡◌, ℕ, ◌^◌, ◌<◌, Bool, true, false, cond, List, [], ◌∷◌, length, Option, Some, None, Ok, Err, refl, ap, ◌∙◌, eqb-true}
use Rattle.std.specs.Prelude.{◌==◌}
use Rattle.cilk_sched.specs.model.Choice.{Choice}
use Rattle.cilk_log.specs.Text.{end_text}
use Rattle.cilk_log.specs.Reading.{wrong_count, count_in, closed, counted, ended}
use Rattle.cilk_log.proofs.Acts.{count_told}

pub record Ends (choices : List Choice) (others : List (List ℕ)) (rest : List ℕ) (all : List Choice) : Type 0 where
  pub others_are : others ≡ end_text (length all) ∷ []
  pub count : length all < 2 ^ 64
  pub rest_is : rest ≡ []
  pub all_are : choices ≡ all

closed_told : (line : List ℕ) (number : ℕ) (lines : List (List ℕ)) (rest : List ℕ) (choices all : List Choice)
    → line ≡ end_text (length choices) → length choices < 2 ^ 64
    → closed number lines rest choices ≡ Ok all → Ends choices (line ∷ lines) rest all
closed_told line number [] [] choices all e h o =
    let same : choices ≡ all = cc in
    record { others_are = ap (λ t. t ∷ []) e ∙ ap (λ cs. end_text (length cs) ∷ []) same; count = rw (← same) h; rest_is = refl; all_are = same }
closed_told line number [] (b ∷ rest) choices all e h o = absurd cc
closed_told line number (after ∷ lines) rest choices all e h o = absurd cc

counted_at : (line : List ℕ) (n number : ℕ) (lines : List (List ℕ)) (rest : List ℕ) (choices all : List Choice) → (line ≡ end_text n)
    × (n < 2 ^ 64) → (c : Bool)
    → (n == length choices) ≡ c → cond c (closed number lines rest choices) (Err wrong_count) ≡ Ok all → Ends choices (line ∷ lines) rest all
counted_at line n number lines rest choices all t false e o = absurd cc
counted_at line n number lines rest choices all t true e o =
    let same : n ≡ length choices = eqb-true n (length choices) e in
    closed_told line number lines rest choices all (t.0 ∙ ap end_text same) (rw (← same) t.1) o

counted_told : (line : List ℕ) (number : ℕ) (lines : List (List ℕ)) (rest : List ℕ) (choices all : List Choice) (told : Option ℕ) → count_in line ≡ told
    → counted told number lines rest choices ≡ Ok all → Ends choices (line ∷ lines) rest all
counted_told line number lines rest choices all None e o = absurd cc
counted_told line number lines rest choices all (Some n) e o =
    counted_at line n number lines rest choices all (count_told line n e) (n == length choices) refl o

pub ended_told : (number : ℕ) (choices : List Choice) (others : List (List ℕ)) (rest : List ℕ) (all : List Choice)
    → ended number choices others rest ≡ Ok all → Ends choices others rest all
ended_told number choices [] rest all o = absurd cc
ended_told number choices (line ∷ lines) rest all o = counted_told line number lines rest choices all (count_in line) refl o
