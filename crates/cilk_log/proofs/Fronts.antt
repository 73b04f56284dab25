-- The stretch in front of choices.
use Rattle.std.proofs.Common.{◌≡◌, ℕ, suc, ◌+◌, Bool, true, false, cond, not, List, [], ◌∷◌, map, drop, refl, sym, ap, ◌∙◌, arith}
use Rattle.std.specs.List.{prefix_len}
use Rattle.cilk_sched.specs.model.Choice.{Choice}
use Rattle.cilk_sched.specs.declared.choice.Choice as code
use Rattle.cilk_sched.specs.Words.{choice_of}
use Rattle.cilk_log.specs.Stretches.{Stretch, once, are_joined, is_apart, with_first, stretches_of}
use Rattle.cilk_log.proofs.Stretching.{joined_same, joined_steps, first_alone, first_joined}

-- a stretch that begins with a choice is apart where that choice is
apart_from : (c d : Choice) (ss : List Stretch) → are_joined c d ≡ false → is_apart c (with_first d ss) ≡ true
apart_from c d [] e = ap not e
apart_from c d (s ∷ ss) e = at (are_joined d s.choice)
  where
    at : (b : Bool) → is_apart c (cond b (record { choice = d; times = s.times + 1 } ∷ ss) (once d ∷ s ∷ ss)) ≡ true
    at true = ap not e
    at false = ap not e

abbrev pub joined_front : Choice → List code.Choice → ℕ
joined_front c cs = prefix_len (λ d. are_joined c (choice_of d)) cs

front_at : (c : Choice) (d : code.Choice) (cs : List code.Choice)
    → (stretches_of (c ∷ map choice_of cs) ≡ record { choice = c; times = joined_front c cs + 1 } ∷ stretches_of (map choice_of (drop (joined_front c cs) cs)))
    → (b : Bool) → are_joined c (choice_of d) ≡ b
    → stretches_of (c ∷ choice_of d ∷ map choice_of cs)
    ≡ record { choice = c; times = cond b (1 + joined_front c cs) 0 + 1 } ∷ stretches_of (map choice_of (drop (cond b (1 + joined_front c cs) 0) (d ∷ cs)))
front_at c d cs below true e =
    let same : choice_of d ≡ c = sym (joined_same c (choice_of d) e) in
    let n = joined_front c cs in
    let one : 1 + n ≡ suc n = omega arith in
    let more : n + 1 + 1 ≡ suc n + 1 = omega arith in
    rw one (
    ap (λ x. with_first c (stretches_of (x ∷ map choice_of cs))) same ∙ ap (with_first c) below
    ∙ first_joined c (n + 1) (stretches_of (map choice_of (drop n cs))) (joined_steps c (choice_of d) e)
    ∙ ap (λ k. record { choice = c; times = k } ∷ stretches_of (map choice_of (drop n cs))) more
    )
front_at c d cs below false e = first_alone c (stretches_of (choice_of d ∷ map choice_of cs)) (apart_from c (choice_of d) (stretches_of (map choice_of cs)) e)

pub front_stretch : (c : Choice) (cs : List code.Choice)
    → stretches_of (c ∷ map choice_of cs) ≡ record { choice = c; times = joined_front c cs + 1 } ∷ stretches_of (map choice_of (drop (joined_front c cs) cs))
front_stretch c [] = refl
front_stretch c (d ∷ cs) = front_at c d cs (front_stretch c cs) (are_joined c (choice_of d)) refl

-- a first choice, the others, and those that the line of the first does not tell
pub first_of : (all : List code.Choice) (first : code.Choice) (behind rest : List code.Choice) (joined : ℕ) → all ≡ first ∷ behind
    → joined ≡ joined_front (choice_of first) behind → rest ≡ drop joined behind
    → stretches_of (map choice_of all) ≡ record { choice = choice_of first; times = joined + 1 } ∷ stretches_of (map choice_of rest)
first_of all first behind rest joined a j r = rw (a, r, j) (front_stretch (choice_of first) behind)
