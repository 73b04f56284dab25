-- On which line a log tells a choice.
use Rattle.std.proofs.Common.{◌≡◌, ◌≤◌, ℕ, ◌+◌, ◌-◌, Bool, true, false, cond, List, [], ◌∷◌, length, map, take, Option, Some, None, refl, sym, ap, ◌∙◌, arith}
use Rattle.std.proofs.Common.{length-append, option_map, zero, suc, ◌++◌}
use Rattle.std.proofs.lemmas.Option.{slice_get-map, slice_get_within}
use Rattle.std.proofs.lemmas.List.{length-map, length-take-le}
use Rattle.cilk_log_replay.specs.machine.model.Choice.{Choice}
use Rattle.cilk_log_replay.specs.log.choices.declared.choice.Choice as code
use Rattle.cilk_log_replay.specs.log.choices.Words.{choice_of}
use Rattle.cilk_log_replay.specs.log.Choices.{choice_text}
use Rattle.cilk_log_replay.specs.log.Stretches.{Stretch, once, are_joined, stretch_text, stretches_of, with_first}
use Rattle.cilk_log_replay.specs.log.Text.{Log, end_text, lines_by}
use Rattle.cilk_log_replay.specs.log.choices.declared.refusal.Refusal.{Refusal}
use Rattle.cilk_program_tapes.specs.ChoiceLines.{choice_words, line_of_choice, new_lines, nth_choice}

-- how many lines of version 2 tell choices behind another one, if one stands before them
abbrev pub lines_behind : Option Choice → List Choice → ℕ
lines_behind last [] = 0
lines_behind last (c ∷ cs) = new_lines last c + lines_behind (Some c) cs

front_at : (x : Choice) (s : Stretch) (ss : List Stretch) (b : Bool)
    → length (cond b (record { choice = x; times = s.times + 1 } ∷ ss) (once x ∷ s ∷ ss)) ≡ cond b 0 1 + length (s ∷ ss)
front_at x s ss true = omega arith
front_at x s ss false = omega arith

-- a choice in front of another one
pub front_counted : (x y : Choice) (ss : List Stretch) → length (with_first x (with_first y ss)) ≡ cond (are_joined x y) 0 1 + length (with_first y ss)
front_counted x y [] = front_at x (once y) [] (are_joined x y)
front_counted x y (s ∷ ss) = at (are_joined y s.choice)
  where
    at : (b : Bool) → length (with_first x (cond b (record { choice = y; times = s.times + 1 } ∷ ss) (once y ∷ s ∷ ss)))
        ≡ cond (are_joined x y) 0 1 + length (cond b (record { choice = y; times = s.times + 1 } ∷ ss) (once y ∷ s ∷ ss))
    at true = front_at x (record { choice = y; times = s.times + 1 }) ss (are_joined x y)
    at false = front_at x (once y) (s ∷ ss) (are_joined x y)

counted_behind : (x : Choice) (cs : List Choice) → 1 + lines_behind (Some x) cs ≡ length (stretches_of (x ∷ cs))
counted_behind x [] = refl
counted_behind x (y ∷ ys) = omega (arith, front_counted x y (stretches_of ys), counted_behind y ys)

pub lines_counted : (cs : List Choice) → lines_behind None cs ≡ length (stretches_of cs)
lines_counted [] = refl
lines_counted (c ∷ cs) = counted_behind c cs

-- ---- the number of the line

first_version : (workers k : ℕ) (choices : List Choice) → k ≤ length choices → k + 2 ≡ length (lines_by None workers (take k choices)) - 1
first_version workers k choices within =
    omega (
      arith,
      length-append (map choice_text (take k choices)) (end_text (length (take k choices)) ∷ []),
      length-map (take k choices) choice_text,
      length-take-le k choices within,
    )

second_version : (digest : List ℕ) (workers : ℕ) (choices : List Choice)
    → length (stretches_of choices) + 3 ≡ length (lines_by (Some digest) workers choices) - 1
second_version digest workers choices =
    omega
    (arith, length-append (map stretch_text (stretches_of choices)) (end_text (length choices) ∷ []), length-map (stretches_of choices) stretch_text)

pub in_first_version : (log : Log) (k : ℕ) → log.program ≡ None → k ≤ length log.choices → k + 2 ≡ line_of_choice log k
in_first_version log k none within = rw none (first_version log.workers k log.choices within)

pub in_second_version : (log : Log) (digest : List ℕ) (k n : ℕ) → log.program ≡ Some digest → n ≡ length (stretches_of (take k log.choices))
    → n + 3 ≡ line_of_choice log k
in_second_version log digest k n named count =
    ap (λ m. m + 3) count ∙ (rw named (second_version digest log.workers (take k log.choices)))

-- ---- the choice, and what is told of it

pub nth_within : (choices : List code.Choice) (k : ℕ) (choice : code.Choice) → Some choice ≡ nth_choice choices k → (1 ≤ k) × (k ≤ length choices)
nth_within choices zero choice is = absurd cc
nth_within choices (suc k) choice is = (omega arith, omega (arith, slice_get_within choices k choice (sym is)))

pub nth_seen : (choices : List code.Choice) (k : ℕ) (choice : code.Choice) → Some choice ≡ nth_choice choices k
    → nth_choice (map choice_of choices) k ≡ Some (choice_of choice)
nth_seen choices zero choice is = absurd cc
nth_seen choices (suc k) choice is = slice_get-map choice_of choices k ∙ ap (option_map choice_of) (sym is)

pub words_told : (old new : List ℕ) (k line at : ℕ) (choice : Choice) (why : Refusal) → old ≡ [] → line ≡ at → new ≡ old ++ choice_words k line choice why
    → new ≡ choice_words k at choice why
words_told old new k line at choice why empty same is =
    is ∙ ap (λ l. l ++ choice_words k line choice why) empty ∙ ap (λ n. choice_words k n choice why) same
