-- No choice is possible where each one of the workers' is refused.
use Rattle.std.proofs.Common.{◌≡◌, ◌≢◌, inl, inr, ℕ, zero, suc, ◌≤◌, Bool, true, false, not, ◌&&◌, ◌||◌, ◌==◌, nat_le, List, [], ◌∷◌, ◌++◌, map}
use Rattle.std.proofs.Common.{length, Option, Some, None, is_some, refl, sym, ap, subst, ◌∙◌, if◌then◌else◌, arith}
use Rattle.std.specs.List.{list_all}
use Rattle.std.proofs.lemmas.Bool.{and_parts, and_from, leb-true, cases_eq}
use Rattle.cilk_model.specs.labelled.Labelled.{Labelled}
use Rattle.cilk_model.specs.Scheduler.{Worker}
use Rattle.cilk_model.specs.Choice.{Act, step, pop, steal, Choice, Refusal, no_worker}
use Rattle.cilk_model.specs.Run.{Standing, is_running, is_worker, act_refusal, refusal_of}
use Rattle.cilk_model.specs.End.{numbers, choices_of, choices_below, all_choices}
use Rattle.cilk_laws_model.specs.Laws.{StuckExactly}
use Rattle.cilk_laws_model.proofs.Possible.{possible, is_running-true}

and_in : (a b c d : Bool) → b ≡ (c && d) → (a && b) ≡ ((a && c) && d)
and_in true b c d e = e
and_in false b c d e = refl

all_append : {A : Type 0} (test : A → Bool) (xs ys : List A) → list_all test (xs ++ ys) ≡ (list_all test xs && list_all test ys)
all_append test [] ys = refl
all_append test (x ∷ xs) ys =
    and_in (test x) (list_all test (xs ++ ys)) (list_all test xs) (list_all test ys) (all_append test xs ys)

all_map : {A B : Type 0} (test : B → Bool) (f : A → B) (xs : List A) → list_all test (map f xs) ≡ list_all (λ x. test (f x)) xs
all_map test f [] = refl
all_map test f (x ∷ xs) = ap (λ b. test (f x) && b) (all_map test f xs)

split : {A : Type 0} (test : A → Bool) (xs ys : List A) → list_all test (xs ++ ys) ≡ true → (list_all test xs ≡ true) × (list_all test ys ≡ true)
split test xs ys h = and_parts (list_all test xs) (list_all test ys) (sym (all_append test xs ys) ∙ h)

one : {A : Type 0} (test : A → Bool) (x : A) → list_all test (x ∷ []) ≡ true → test x ≡ true
one test x h = (and_parts (test x) true h).0

at_number : (test : ℕ → Bool) (n k : ℕ) → list_all test (numbers n) ≡ true → 1 ≤ k → k ≤ n → test k ≡ true
at_number test zero k h above below = absurd (omega arith)
at_number test (suc n) k h above below =
    let parts = split test (numbers n) (suc n ∷ []) h in
    elim (cases_eq k (suc n)) [
      | inl e ↦ subst (λ j. test j ≡ true) (sym e) (one test (suc n) parts.1)
      | inr ne ↦ at_number test n k parts.0 above (omega arith)
    ]

-- whether there are such a worker and such a victim
abbrev WithinAct : ℕ → Act → Type 0
WithinAct n step = Unit {0}
WithinAct n pop = Unit {0}
WithinAct n (steal v) = (1 ≤ v) × (v ≤ n)

at_act : (test : Choice → Bool) (w n : ℕ) (act : Act) → list_all test (choices_of w n) ≡ true → WithinAct n act → test (record { worker = w; act = act }) ≡ true
at_act test w n step h there = (and_parts (test (record { worker = w; act = step })) _ h).0
at_act test w n pop h there =
    let others = (and_parts (test (record { worker = w; act = step })) _ h).1 in
    (and_parts (test (record { worker = w; act = pop })) _ others).0
at_act test w n (steal v) h there =
    let others = (and_parts (test (record { worker = w; act = step })) _ h).1 in
    let steals = (and_parts (test (record { worker = w; act = pop })) _ others).1 in
    at_number (λ k. test (record { worker = w; act = steal k })) n v
    (sym (all_map test (λ k. record { worker = w; act = steal k }) (numbers n)) ∙ steals) there.0 there.1

at_worker : (test : Choice → Bool) (m n w : ℕ) (act : Act) → list_all test (choices_below m n) ≡ true → 1 ≤ w → w ≤ m → WithinAct n act
    → test (record { worker = w; act = act }) ≡ true
at_worker test zero n w act h above below there = absurd (omega arith)
at_worker test (suc m) n w act h above below there =
    let parts = split test (choices_below m n) (choices_of (suc m) n) h in
    elim (cases_eq w (suc m)) [
      | inl e ↦ subst (λ j. test (record { worker = j; act = act }) ≡ true) (sym e) (at_act test (suc m) n act parts.1 there)
      | inr ne ↦ at_worker test m n w act parts.0 above (omega arith) there
    ]

pub within : (places : List Worker) (w : ℕ) → is_worker places w ≡ true → (1 ≤ w) × (w ≤ length places)
within places w h =
    let parts = and_parts (nat_le 1 w) (nat_le w (length places)) h in
    (leb-true 1 w parts.0, leb-true w (length places) parts.1)

victim_by : (places : List Worker) (v : ℕ) (a b : Bool) (x : Option Refusal) → is_worker places v ≡ a
    → (if not a || b then Some no_worker else x) ≡ None → (1 ≤ v) × (v ≤ length places)
victim_by places v true b x e h = within places v e
victim_by places v false b x e h = cc

within_act : (program : Labelled) (at : Standing) (w : ℕ) (act : Act) → act_refusal program at w act ≡ None → WithinAct (length at.scheduler.places) act
within_act program at w step h = tt
within_act program at w pop h = tt
within_act program at w (steal v) h =
    victim_by at.scheduler.places v (is_worker at.scheduler.places v) (v == w) _ refl h

none_some : (o : Option Refusal) → is_some o ≡ true → o ≢ None
none_some None h = λ e. cc
none_some (Some r) h = λ e. cc

some_none : (o : Option Refusal) → o ≢ None → is_some o ≡ true
some_none None h = absurd (h refl)
some_none (Some r) h = refl

refused : (program : Labelled) (at : Standing) → list_all (λ c. is_some (refusal_of program at c)) (all_choices (length at.scheduler.places)) ≡ true
    → (choice : Choice) → refusal_of program at choice ≢ None
refused program at h choice = λ e.
    let p = possible program at choice e in
    let there = within at.scheduler.places choice.worker p.worker in
    let some = at_worker (λ c. is_some (refusal_of program at c)) (length at.scheduler.places) (length at.scheduler.places) choice.worker
    choice.act h there.0 there.1 (within_act program at choice.worker choice.act p.act) in
    none_some (refusal_of program at choice) some e

all_refused : (program : Labelled) (at : Standing) → ((choice : Choice) → refusal_of program at choice ≢ None) → (cs : List Choice)
    → list_all (λ c. is_some (refusal_of program at c)) cs ≡ true
all_refused program at h [] = refl
all_refused program at h (c ∷ cs) =
    and_from (is_some (refusal_of program at c)) _ (some_none (refusal_of program at c) (h c)) (all_refused program at h cs)

pub stuck_exactly : StuckExactly
stuck_exactly program at = (
  λ h.
      let parts = and_parts (is_running at.state.outcome) _ h in
      (is_running-true at.state.outcome parts.0, refused program at parts.1),
  λ h. and_from (is_running at.state.outcome) _ (ap is_running h.0) (all_refused program at h.1 (all_choices (length at.scheduler.places))),
)
