-- What is looked for among the actions that were noted is what is looked for among the choices.
use Rattle.std.proofs.Common.{◌≡◌, ◌<◌, ◌≤◌, ℕ, zero, suc, ◌+◌, ◌-◌, Bool, List, Option, Some, None, option_map}
use Rattle.std.proofs.Common.{length, refl, ap, ◌∙◌, arith, if◌then◌else◌}
use Rattle.std.proofs.Common.{unwrap_or, slice_index_or}
use Rattle.std.specs.List.{find, range_with_len}
use Rattle.cilk_machine.specs.model.Event.{Event}
use Rattle.cilk_log_replay.specs.Breaks.{number_of, is_set, stops, stops_at, stops_by, down_from, next_stop, last_stop}
use Rattle.cilk_log_replay.specs.Tape.{Tape, did_at}
use Rattle.cilk_log_replay.specs.Tracks.{action_of, action_at, meets}

-- two tests that agree find the same, up and down
pub find-up : (f g : ℕ → Bool) (a n : ℕ) → ((i : ℕ) → a ≤ i → i < a + n → f i ≡ g i) → find f (range_with_len a n) ≡ find g (range_with_len a n)
find-up f g a zero same = refl
find-up f g a (suc n) same =
    ap (λ (b : Bool). if b then Some a else find f (range_with_len (a + 1) n)) (same a (omega arith) (omega arith))
    ∙ ap (λ (o : Option ℕ). if g a then Some a else o) (find-up f g (a + 1) n (λ i low high. same i (omega arith) (omega arith)))

pub find-down : (f g : ℕ → Bool) (n : ℕ) → ((i : ℕ) → i < n → f i ≡ g i) → find f (down_from n) ≡ find g (down_from n)
find-down f g zero same = refl
find-down f g (suc n) same =
    ap (λ (b : Bool). if b then Some n else find f (down_from n)) (same n (omega arith))
    ∙ ap (λ (o : Option ℕ). if g n then Some n else o) (find-down f g n (λ i h. same i (omega arith)))

by-number : (marks : List Bool) (o : Option ℕ) → is_set marks (unwrap_or o 0) ≡ stops_at marks o
by-number marks None = refl
by-number marks (Some n) = refl

by-event : (marks : List Bool) (o : Option Event) → is_set marks (action_of o) ≡ stops_by marks o
by-event marks None = refl
by-event marks (Some did) = by-number marks (number_of did)

module _ (t : Tape) (marks : List Bool) (actions : List ℕ) (count : length actions ≡ length t.choices)
    (acted : (i : ℕ) → i < length t.choices → slice_index_or actions i 0 ≡ action_at t i) where
  meets-stops : (i : ℕ) → i < length t.choices → meets actions marks i ≡ stops t marks i
  meets-stops i h = ap (is_set marks) (acted i h) ∙ by-event marks (did_at t i)

  pub next-met : (from : ℕ) → from ≤ length t.choices
      → option_map (λ (k : ℕ). k + 1) (find (meets actions marks) (range_with_len from (length actions - from))) ≡ next_stop t marks from
  next-met from within =
      ap (λ (n : ℕ). option_map (λ (k : ℕ). k + 1) (find (meets actions marks) (range_with_len from (n - from)))) count
      ∙ ap (option_map (λ (k : ℕ). k + 1))
      (find-up (meets actions marks) (stops t marks) from (length t.choices - from) (λ i low high. meets-stops i (omega (arith, high, within))))

  pub last-met : (from : ℕ) → from ≤ length t.choices
      → option_map (λ (k : ℕ). k + 1) (find (meets actions marks) (down_from (from - 1))) ≡ last_stop t marks from
  last-met from within =
      ap (option_map (λ (k : ℕ). k + 1)) (find-down (meets actions marks) (stops t marks) (from - 1) (λ i h. meets-stops i (omega (arith, h, within))))
