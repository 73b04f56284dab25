-- The line of a stretch tells that stretch, and no other line does.
use Rattle.std.proofs.Common.{◌≡◌, ℕ, ◌^◌, ◌<◌, ◌≤◌, Bool, true, false, cond, not, List, ◌∷◌, ◌++◌, length, take, drop, Option, Some, None, decimal}
use Rattle.std.proofs.Common.{refl, sym, ap, ◌∙◌, arith, eqb-true, append_assoc}
use Rattle.std.specs.Prelude.{◌==◌, nat_le, codes}
use Rattle.std.specs.Char.{is_ascii_digit}
use Rattle.std.specs.List.{prefix_len, list_all}
use Rattle.std.proofs.lemmas.Bool.{le-leb, leb-true, and_from}
use Rattle.std.proofs.lemmas.Bool.Decides.{nat_tests}
use Rattle.std.proofs.lemmas.List.{take_at, drop_at, take-append-drop}
use Rattle.std.proofs.lemmas.List.Folds.{list_all-append}
use Rattle.cilk_sched.specs.model.Choice.{Act, step, pop, steal, Choice}
use Rattle.cilk_log.specs.Choices.{choice_text, ChoiceFits}
use Rattle.cilk_log.specs.Stretches.{Stretch, once, is_step, IsStretch, stretch_text}
use Rattle.cilk_log.specs.Text.{most_choices}
use Rattle.cilk_log.specs.Reading.{number_in, number_told, behind, several, times_in, steps_by, steps_in, choice_in, stretch_by, stretch_in}
use Rattle.cilk_log.proofs.Acts.{digits_run, choice_written, choice_told, number_behind}
use Rattle.cilk_log.proofs.Breaks.{choice_is_plain, decimal_is_plain}
use Rattle.cilk_log.proofs.Decimals.{decimal_digits, number_written, number_spelled}
use Rattle.cilk_log.proofs.Stretching.{is_once}

-- ---- written

several_text : ℕ → ℕ → List ℕ
several_text w n = decimal w ++ 32 ∷ (codes "step " ++ decimal n)

abbrev steps : ℕ → ℕ → Stretch
steps w n = record { choice = record { worker = w; act = step }; times = n }

no_choice : (w n : ℕ) → w < 256 → choice_in (several_text w n) ≡ None
unfolding several_text
no_choice w n h =
    let rest = 32 ∷ (codes "step " ++ decimal n) in
    let run : prefix_len is_ascii_digit (decimal w ++ rest) ≡ length (decimal w) =
    digits_run (decimal w) (codes "step " ++ decimal n) (decimal_digits w (omega arith)) in
    rw (
      run,
      take_at (decimal w) rest (length (decimal w)) refl,
      drop_at (decimal w) rest (length (decimal w)) refl,
      number_written 255 w (omega arith) (omega arith),
    ) refl

several_steps : (w n : ℕ) → w < 256 → 2 ≤ n → n ≤ most_choices → steps_in (several_text w n) ≡ Some (steps w n)
unfolding several_text
several_steps w n h l m =
    let rest = 32 ∷ (codes "step " ++ decimal n) in
    let run : prefix_len is_ascii_digit (decimal w ++ rest) ≡ length (decimal w) =
    digits_run (decimal w) (codes "step " ++ decimal n) (decimal_digits w (omega arith)) in
    rw (
      run,
      take_at (decimal w) rest (length (decimal w)) refl,
      drop_at (decimal w) rest (length (decimal w)) refl,
      number_written 255 w (omega arith) (omega arith),
      number_written most_choices n m (omega arith),
      le-leb 2 n l,
    ) refl

several_written : (w n : ℕ) → w < 256 → 2 ≤ n → n ≤ most_choices → stretch_in (several_text w n) ≡ Some (steps w n)
several_written w n h l m = rw (no_choice w n h, several_steps w n h l m) refl

several_is : (w n : ℕ) → choice_text (record { worker = w; act = step }) ++ (codes " " ++ decimal n) ≡ several_text w n
unfolding several_text
several_is w n = append_assoc (decimal w) (codes " step") (codes " " ++ decimal n)

stretch_of_act : (s : Stretch) (act : Act) → s.choice.act ≡ act → is_step act ≡ true → ChoiceFits s.choice → 2 ≤ s.times → s.times ≤ most_choices
    → stretch_in (choice_text s.choice ++ (codes " " ++ decimal s.times)) ≡ Some s
stretch_of_act s step e i f l m =
    let same : record { worker = s.choice.worker; act = step } ≡ s.choice = ap (λ a. record { worker = s.choice.worker; act = a }) (sym e) in
    ap (λ (c : Choice). stretch_in (choice_text c ++ (codes " " ++ decimal s.times))) (sym same)
    ∙ ap stretch_in (several_is s.choice.worker s.times)
    ∙ several_written s.choice.worker s.times f.worker l m
    ∙ ap (λ (c : Choice). Some (record { choice = c; times = s.times })) same
stretch_of_act s pop e i f l m = absurd cc
stretch_of_act s (steal v) e i f l m = absurd cc

written_at : (s : Stretch) → IsStretch s → ChoiceFits s.choice → s.times ≤ most_choices → (b : Bool) → (s.times == 1) ≡ b
    → stretch_in (cond b (choice_text s.choice) (choice_text s.choice ++ (codes " " ++ decimal s.times))) ≡ Some s
written_at s i f m true e =
    let one : s.times ≡ 1 = eqb-true s.times 1 e in
    rw (choice_written s.choice f) (ap (λ k. Some (record { choice = s.choice; times = k })) (sym one))
written_at s i f m false e =
    let more : 2 ≤ s.times = grind (arith, nat_tests, i.some) in
    stretch_of_act s s.choice.act refl (i.steps (omega (arith, more))) f more m

pub stretch_written : (s : Stretch) → IsStretch s → ChoiceFits s.choice → s.times ≤ most_choices → stretch_in (stretch_text s) ≡ Some s
stretch_written s i f m = written_at s i f m (s.times == 1) refl

-- ---- told

pub record Stretches (line : List ℕ) (s : Stretch) : Type 0 where
  pub text : line ≡ stretch_text s
  pub is : IsStretch s
  pub fits : ChoiceFits s.choice

several_told : (text : List ℕ) (n : ℕ) → times_in text ≡ Some n → (text ≡ codes " step " ++ decimal n) × (2 ≤ n)
several_told text n e = at (number_told most_choices (behind (codes " step ") text)) refl e
  where
    at : (o : Option ℕ) → number_told most_choices (behind (codes " step ") text) ≡ o → several o ≡ Some n → (text ≡ codes " step " ++ decimal n) × (2 ≤ n)
    at None f g = absurd cc
    at (Some m) f g = by (nat_le 2 m) refl g
      where
        by : (b : Bool) → nat_le 2 m ≡ b → cond b (Some m) None ≡ Some n → (text ≡ codes " step " ++ decimal n) × (2 ≤ n)
        by false h k = absurd cc
        by true h k =
            let same : m ≡ n = cc in
            let t = number_behind most_choices (codes " step ") text m (omega arith) f in
            (t.spelling ∙ ap (λ j. codes " step " ++ decimal j) same, omega (arith, leb-true 2 m h, same))

steps_told : (line : List ℕ) (s : Stretch) → steps_in line ≡ Some s → Stretches line s
unfolding several_text
steps_told line s e = at (number_in 255 (take k line)) refl (times_in (drop k line)) refl e
  where
    k : ℕ
    k = prefix_len is_ascii_digit line

    at : (w : Option ℕ) → number_in 255 (take k line) ≡ w → (t : Option ℕ) → times_in (drop k line) ≡ t → steps_by w t ≡ Some s → Stretches line s
    at None f t g h = absurd cc
    at (Some w) f None g h = absurd cc
    at (Some w) f (Some n) g h =
        let p = number_spelled 255 (take k line) w (omega arith) f in
        let q = several_told (drop k line) n g in
        let same : steps w n ≡ s = cc in
        let other : (n == 1) ≡ false = grind (arith, nat_tests, q.1) in
        let text : line ≡ several_text w n =
        sym (take-append-drop k line) ∙ ap (λ t. t ++ drop k line) p.spelling ∙ ap (λ t. decimal w ++ t) q.0 in
        rw (← same) (record {
          text =
              text ∙ sym (several_is w n)
              ∙ sym (ap (λ b. cond b (choice_text (steps w n).choice) (choice_text (steps w n).choice ++ (codes " " ++ decimal n))) other);
          is = record { some = omega (arith, q.1); steps = λ _. refl };
          fits = record { worker = omega (arith, p.small); act = tt };
        })

pub stretch_told : (line : List ℕ) (s : Stretch) → stretch_in line ≡ Some s → Stretches line s
stretch_told line s e = at (choice_in line) refl e
  where
    at : (o : Option Choice) → choice_in line ≡ o → stretch_by o (steps_in line) ≡ Some s → Stretches line s
    at None f g = steps_told line s g
    at (Some c) f g =
        let same : once c ≡ s = cc in
        let t = choice_told line c f in
        rw (← same) (record { text = t.text; is = is_once c; fits = t.fits })

-- ---- no newline

plain_by : (s : Stretch) → ChoiceFits s.choice → s.times < 2 ^ 64 → (b : Bool)
    → list_all (λ b. not (b == 10)) (cond b (choice_text s.choice) (choice_text s.choice ++ (codes " " ++ decimal s.times))) ≡ true
plain_by s f h true = choice_is_plain s.choice f
plain_by s f h false =
    list_all-append (λ b. not (b == 10)) (choice_text s.choice) (codes " " ++ decimal s.times)
    ∙ and_from _ _ (choice_is_plain s.choice f) (decimal_is_plain s.times h)

pub stretch_is_plain : (s : Stretch) → ChoiceFits s.choice → s.times < 2 ^ 64 → list_all (λ b. not (b == 10)) (stretch_text s) ≡ true
stretch_is_plain s f h = plain_by s f h (s.times == 1)
