-- Choices are told by one list of stretches.
use Rattle.std.proofs.Common.{◌≡◌, ℕ, suc, ◌+◌, ◌≤◌, Bool, true, false, cond, not, List, [], ◌∷◌, ◌++◌, length, replicate, refl, sym, ap, ◌∙◌}
use Rattle.std.proofs.Common.{subst, zero, arith, add-one, eqb-true, eq-eqb, length-append}
use Rattle.std.proofs.lemmas.Bool.{and_parts}
use Rattle.std.proofs.lemmas.List.{length-replicate}
use Rattle.cilk_sched.specs.model.Choice.{Act, step, pop, steal, Choice}
use Rattle.cilk_log.specs.Stretches.{Stretch, once, choices_of, count_of, is_step, are_joined, is_apart, with_first, stretches_of, IsStretch, AreStretches}

-- ---- steps of one worker

same_acts : (a b : Act) → is_step a ≡ true → is_step b ≡ true → a ≡ b
same_acts step step e f = refl
same_acts step pop e f = absurd cc
same_acts step (steal v) e f = absurd cc
same_acts pop b e f = absurd cc
same_acts (steal v) b e f = absurd cc

choice_at : ℕ → Act → Choice
choice_at worker act = record { worker = worker; act = act }

pub joined_same : (a b : Choice) → are_joined a b ≡ true → a ≡ b
unfolding choice_at
joined_same a b e =
    let p = and_parts (is_step a.act) _ e in
    let q = and_parts (is_step b.act) _ p.1 in
    ap (λ w. choice_at w a.act) (eqb-true a.worker b.worker q.1) ∙ ap (choice_at b.worker) (same_acts a.act b.act p.0 q.0)

pub joined_steps : (a b : Choice) → are_joined a b ≡ true → is_step a.act ≡ true
joined_steps a b e = (and_parts (is_step a.act) _ e).0

pub joined_itself : (a : Choice) → is_step a.act ≡ true → are_joined a a ≡ true
joined_itself a e = rw (e, eq-eqb a.worker a.worker refl) refl

-- ---- one choice more in front

replicate_one : (n : ℕ) (c : Choice) → replicate (n + 1) c ≡ c ∷ replicate n c
replicate_one n c = rw (add-one n) refl

whole_at : (c : Choice) (s : Stretch) (ss : List Stretch) (b : Bool) → are_joined c s.choice ≡ b
    → choices_of (cond b (record { choice = c; times = s.times + 1 } ∷ ss) (once c ∷ s ∷ ss)) ≡ c ∷ choices_of (s ∷ ss)
whole_at c s ss true e =
    ap (λ cs. cs ++ choices_of ss) (replicate_one s.times c) ∙ ap (λ d. c ∷ (replicate s.times d ++ choices_of ss)) (joined_same c s.choice e)
whole_at c s ss false e = refl

whole_with : (c : Choice) (ss : List Stretch) → choices_of (with_first c ss) ≡ c ∷ choices_of ss
whole_with c [] = refl
whole_with c (s ∷ ss) = whole_at c s ss (are_joined c s.choice) refl

pub choices_whole : (choices : List Choice) → choices_of (stretches_of choices) ≡ choices
choices_whole [] = refl
choices_whole (c ∷ cs) = whole_with c (stretches_of cs) ∙ ap (λ r. c ∷ r) (choices_whole cs)

pub is_once : (c : Choice) → IsStretch (once c)
is_once c = record { some = omega arith; steps = λ h. absurd (omega (arith, h)) }

apart_at : (c : Choice) (s : Stretch) (ss : List Stretch) → AreStretches (s ∷ ss) → (b : Bool) → are_joined c s.choice ≡ b
    → AreStretches (cond b (record { choice = c; times = s.times + 1 } ∷ ss) (once c ∷ s ∷ ss))
apart_at c s ss a true e = (
  record { some = omega arith; steps = λ h. joined_steps c s.choice e },
  subst (λ d. is_apart d ss ≡ true) (sym (joined_same c s.choice e)) a.1,
  a.2,
)
apart_at c s ss a false e = (is_once c, ap not e, a)

apart_with : (c : Choice) (ss : List Stretch) → AreStretches ss → AreStretches (with_first c ss)
apart_with c [] a = (is_once c, refl, tt)
apart_with c (s ∷ ss) a = apart_at c s ss a (are_joined c s.choice) refl

pub are_apart : (choices : List Choice) → AreStretches (stretches_of choices)
are_apart [] = tt
are_apart (c ∷ cs) = apart_with c (stretches_of cs) (are_apart cs)

-- ---- no other list

pub first_alone : (c : Choice) (ss : List Stretch) → is_apart c ss ≡ true → with_first c ss ≡ once c ∷ ss
first_alone c [] a = refl
first_alone c (s ∷ ss) a = at (are_joined c s.choice) a
  where
    at : (b : Bool) → not b ≡ true → cond b (record { choice = c; times = s.times + 1 } ∷ ss) (once c ∷ s ∷ ss) ≡ once c ∷ s ∷ ss
    at true h = absurd cc
    at false h = refl

pub first_joined : (c : Choice) (n : ℕ) (ss : List Stretch) → is_step c.act ≡ true
    → with_first c (record { choice = c; times = n } ∷ ss) ≡ record { choice = c; times = n + 1 } ∷ ss
first_joined c n ss e = rw (joined_itself c e) refl

repeated : (n : ℕ) (c : Choice) (cs : List Choice) (ss : List Stretch) → stretches_of cs ≡ ss → is_apart c ss ≡ true → (1 ≤ n → is_step c.act ≡ true)
    → stretches_of (replicate (suc n) c ++ cs) ≡ record { choice = c; times = suc n } ∷ ss
repeated zero c cs ss e a steps = ap (with_first c) e ∙ first_alone c ss a
repeated (suc n) c cs ss e a steps =
    let more : suc n + 1 ≡ suc (suc n) = add-one (suc n) in
    ap (with_first c) (repeated n c cs ss e a (λ h. steps (omega arith))) ∙ first_joined c (suc n) ss (steps (omega arith))
    ∙ ap (λ k. record { choice = c; times = k } ∷ ss) more

repeated_by : (s : Stretch) (n : ℕ) (cs : List Choice) (ss : List Stretch) → s.times ≡ n → IsStretch s → stretches_of cs ≡ ss → is_apart s.choice ss ≡ true
    → stretches_of (replicate n s.choice ++ cs) ≡ record { choice = s.choice; times = n } ∷ ss
repeated_by s zero cs ss t i e a = absurd (omega (arith, i.some, t))
repeated_by s (suc n) cs ss t i e a = repeated n s.choice cs ss e a (λ h. i.steps (omega (arith, t, h)))

pub no_other : (stretches : List Stretch) → AreStretches stretches → stretches_of (choices_of stretches) ≡ stretches
no_other [] a = refl
no_other (s ∷ ss) a = repeated_by s s.times (choices_of ss) ss refl a.0 (no_other ss a.2) a.1

-- ---- how many

pub counted_choices : (stretches : List Stretch) → length (choices_of stretches) ≡ count_of stretches
counted_choices [] = refl
counted_choices (s ∷ ss) =
    let one = length-append (replicate s.times s.choice) (choices_of ss) in
    let n = length-replicate s.times s.choice in
    omega (arith, one, n, counted_choices ss)
