-- The line of a choice tells it.
use Rattle.std.proofs.Common.{◌≡◌, ◌≤◌, ◌<◌, ℕ, zero, suc, ◌+◌, Bool, true, false, cond, List, [], ◌∷◌, ◌++◌, length, map, take, Option, Some, None}
use Rattle.std.proofs.Common.{refl, sym, ap, ◌∙◌, subst, arith}
use Rattle.cilk_log_replay.specs.machine.model.Choice.{Choice}
use Rattle.cilk_log_replay.specs.log.Stretches.{Stretch, once, are_joined, count_of, stretches_of, with_first}
use Rattle.cilk_log_replay.specs.log.Text.{Log}
use Rattle.cilk_program_tapes.specs.ChoiceLines.{TellsChoice, line_of_choice}
use Rattle.cilk_program_tapes.proofs.ChoiceLines.{front_counted, in_first_version, in_second_version}

-- ---- version 1

-- of stretches, the one of choice k, which so many lines tell with those before it
record At (all : List Stretch) (k lines : ℕ) : Type 0 where
  before : List Stretch
  stretch : Stretch
  behind : List Stretch
  split : all ≡ before ++ stretch ∷ behind
  counted : lines ≡ length before + 1
  fewer : count_of before < k
  reached : k ≤ count_of before + stretch.times

alone_at : (choices : List Choice) (k : ℕ) → 1 ≤ k → k ≤ length choices → At (map once choices) k k
alone_at [] k some within = absurd (omega (arith, some, within))
alone_at (c ∷ cs) zero some within = absurd (omega (arith, some))
alone_at (c ∷ cs) (suc zero) some within = record {
  before = [];
  stretch = once c;
  behind = map once cs;
  split = refl;
  counted = omega arith;
  fewer = omega arith;
  reached = omega arith;
}
alone_at (c ∷ cs) (suc (suc j)) some within =
    let h = alone_at cs (suc j) (omega arith) (omega (arith, within)) in
    record {
      before = once c ∷ h.before;
      stretch = h.stretch;
      behind = h.behind;
      split = ap (λ ss. once c ∷ ss) h.split;
      counted = omega (arith, h.counted);
      fewer = omega (arith, h.fewer);
      reached = omega (arith, h.reached);
    }

-- ---- version 2

-- the first stretch is of the first choice
first_choice : (d : Choice) (ss : List Stretch) (x : Stretch) (xs : List Stretch) → with_first d ss ≡ x ∷ xs → x.choice ≡ d
first_choice d [] x xs is = let same : once d ≡ x = cc in ap (λ (s : Stretch). s.choice) (sym same)
first_choice d (s ∷ ss) x xs is = at (are_joined d s.choice) is
  where
    at : (b : Bool) → cond b (record { choice = d; times = s.times + 1 } ∷ ss) (once d ∷ s ∷ ss) ≡ x ∷ xs → x.choice ≡ d
    at true same = let one : record { choice = d; times = s.times + 1 } ≡ x = cc in ap (λ (t : Stretch). t.choice) (sym one)
    at false same = let one : once d ≡ x = cc in ap (λ (t : Stretch). t.choice) (sym one)

-- a choice in front of some whose first stretch is known
in_front : (c : Choice) (x : Stretch) (xs : List Stretch) (b : Bool) → are_joined c x.choice ≡ b
    → with_first c (x ∷ xs) ≡ cond b (record { choice = c; times = x.times + 1 } ∷ xs) (once c ∷ x ∷ xs)
in_front c x xs b is = ap (λ j. cond j (record { choice = c; times = x.times + 1 } ∷ xs) (once c ∷ x ∷ xs)) is

first_at : (c : Choice) (ss : List Stretch) → At (with_first c ss) 1 1
first_at c [] = record {
  before = [];
  stretch = once c;
  behind = [];
  split = refl;
  counted = omega arith;
  fewer = omega arith;
  reached = omega arith;
}
first_at c (s ∷ ss) = at (are_joined c s.choice)
  where
    at : (b : Bool) → At (cond b (record { choice = c; times = s.times + 1 } ∷ ss) (once c ∷ s ∷ ss)) 1 1
    at true = record {
      before = [];
      stretch = record { choice = c; times = s.times + 1 };
      behind = ss;
      split = refl;
      counted = omega arith;
      fewer = omega arith;
      reached = omega arith;
    }
    at false = record {
      before = [];
      stretch = once c;
      behind = s ∷ ss;
      split = refl;
      counted = omega arith;
      fewer = omega arith;
      reached = omega arith;
    }

-- with one choice more in front of the first stretch, or of the lines before
behind_at : (c : Choice) (all : List Stretch) (j n : ℕ) (b : Bool) (before : List Stretch) (stretch : Stretch) (behind : List Stretch)
    → all ≡ before ++ stretch ∷ behind → ((x : Stretch) (xs : List Stretch) → all ≡ x ∷ xs → are_joined c x.choice ≡ b)
    → n ≡ length before + 1 → count_of before < suc j → suc j ≤ count_of before + stretch.times → At (with_first c all) (suc (suc j)) (cond b 0 1 + n)
behind_at c all j n true [] stretch behind split joined counted fewer reached = record {
  before = [];
  stretch = record { choice = c; times = stretch.times + 1 };
  behind = behind;
  split = ap (with_first c) split ∙ in_front c stretch behind true (joined stretch behind split);
  counted = omega (arith, counted);
  fewer = omega arith;
  reached = omega (arith, reached);
}
behind_at c all j n false [] stretch behind split joined counted fewer reached = record {
  before = once c ∷ [];
  stretch = stretch;
  behind = behind;
  split = ap (with_first c) split ∙ in_front c stretch behind false (joined stretch behind split);
  counted = omega (arith, counted);
  fewer = omega arith;
  reached = omega (arith, reached);
}
behind_at c all j n true (x ∷ xs) stretch behind split joined counted fewer reached = record {
  before = record { choice = c; times = x.times + 1 } ∷ xs;
  stretch = stretch;
  behind = behind;
  split = ap (with_first c) split ∙ in_front c x (xs ++ stretch ∷ behind) true (joined x (xs ++ stretch ∷ behind) split);
  counted = omega (arith, counted);
  fewer = omega (arith, fewer);
  reached = omega (arith, reached);
}
behind_at c all j n false (x ∷ xs) stretch behind split joined counted fewer reached = record {
  before = once c ∷ x ∷ xs;
  stretch = stretch;
  behind = behind;
  split = ap (with_first c) split ∙ in_front c x (xs ++ stretch ∷ behind) false (joined x (xs ++ stretch ∷ behind) split);
  counted = omega (arith, counted);
  fewer = omega (arith, fewer);
  reached = omega (arith, reached);
}

stretch_at : (choices : List Choice) (k : ℕ) → 1 ≤ k → k ≤ length choices → At (stretches_of choices) k (length (stretches_of (take k choices)))
stretch_at [] k some within = absurd (omega (arith, some, within))
stretch_at (c ∷ cs) zero some within = absurd (omega (arith, some))
stretch_at (c ∷ cs) (suc zero) some within = first_at c (stretches_of cs)
stretch_at (c ∷ []) (suc (suc j)) some within = absurd (omega (arith, within))
stretch_at (c ∷ d ∷ ds) (suc (suc j)) some within =
    let h = stretch_at (d ∷ ds) (suc j) (omega arith) (omega (arith, within)) in
    let same : (x : Stretch) (xs : List Stretch) → stretches_of (d ∷ ds) ≡ x ∷ xs → are_joined c x.choice ≡ are_joined c d =
    λ x xs is. ap (are_joined c) (first_choice d (stretches_of ds) x xs is) in
    subst (At (stretches_of (c ∷ d ∷ ds)) (suc (suc j))) (sym (front_counted c d (stretches_of (take j ds))))
    (behind_at c (stretches_of (d ∷ ds)) j (length (stretches_of (take (suc j) (d ∷ ds)))) (are_joined c d) h.before h.stretch h.behind h.split same
    h.counted h.fewer h.reached)

-- ---- both

told_by : (program : Option (List ℕ)) (workers : ℕ) (choices : List Choice) (k : ℕ) → 1 ≤ k → k ≤ length choices
    → TellsChoice (record { program = program; workers = workers; choices = choices }) k
    (line_of_choice (record { program = program; workers = workers; choices = choices }) k)
told_by None workers choices k some within =
    let log : Log = record { program = None; workers = workers; choices = choices } in
    let h = alone_at choices k some within in
    record {
      before = h.before;
      stretch = h.stretch;
      behind = h.behind;
      split = h.split;
      number_is = omega (arith, in_first_version log k refl within, h.counted);
      fewer = h.fewer;
      reached = h.reached;
    }
told_by (Some digest) workers choices k some within =
    let log : Log = record { program = Some digest; workers = workers; choices = choices } in
    let h = stretch_at choices k some within in
    record {
      before = h.before;
      stretch = h.stretch;
      behind = h.behind;
      split = h.split;
      number_is = omega (arith, in_second_version log digest k (length (stretches_of (take k choices))) refl refl, h.counted);
      fewer = h.fewer;
      reached = h.reached;
    }

pub choice_on_its_line : (log : Log) (k : ℕ) → 1 ≤ k → k ≤ length log.choices → TellsChoice log k (line_of_choice log k)
choice_on_its_line log k some within = told_by log.program log.workers log.choices k some within
