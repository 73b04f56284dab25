-- What is left out of the links, and where streaks lead past, with one access more at the front.
use Rattle.std.proofs.Common.{◌≡◌, ◌<◌, ℕ, suc, Bool, true, false, List, length, set, sym, ap, ◌∙◌, subst, inl, inr, arith}
use Rattle.std.proofs.Common.{get_or-set_same, get_or-set_other}
use Rattle.std.specs.Prelude.{slice_index, slice_index_or}
use Rattle.std.proofs.lemmas.Bool.{cases_eq, cases_lt, false≢true}
use Rattle.cilk_races.specs.declared.streak.Streak.{Streak}
use Rattle.cilk_races.specs.declared.streak.Streak.TheVariants.{Thread, Locks}
use Rattle.cilk_races.specs.Links.{AreInStreak, AreLeftOut, ArePast, AreRead, IsFirst, IsLeftOut, IsPassed, bucket_at}
use Rattle.cilk_races.specs.Paired.{touch_at}
use Rattle.cilk_races.specs.Races.{Touch}
use Rattle.cilk_races.proofs.Likeness.{thread-on}

module _ (count : ℕ) (touches : List Touch) (place bucket : ℕ) (is : bucket ≡ bucket_at count touches place) (written : List Bool)
    (there : bucket < length written) (h : AreRead count touches (suc place) written) where
  pub written-more : AreRead count touches place (set written bucket true)
  written-more other k none above under same =
      elim (cases_eq other bucket) [
        | inl e ↦
            absurd (false≢true (sym none ∙ ap (λ n. slice_index_or (set written bucket true) n false) e ∙ get_or-set_same written bucket true false there))
        | inr differs ↦
            elim (cases_eq k place) [
              | inl e ↦ absurd (differs (sym same ∙ ap (bucket_at count touches) e ∙ sym is))
              | inr apart ↦ h other k (sym (get_or-set_other written bucket other true false differs) ∙ none) (omega arith) under same
            ]
      ]

  module _ (reads : (touch_at touches place).access.writes ≡ false) where
    pub read-more : AreRead count touches place written
    read-more other k none above under same =
        elim (cases_eq k place) [
          | inl e ↦ ap (λ n. (touch_at touches n).access.writes) e ∙ reads
          | inr apart ↦ h other k none (omega arith) under same
        ]

    pub left-out-more : slice_index_or written bucket false ≡ false → (marks : List Bool) → AreLeftOut count touches marks
        → AreLeftOut count touches (set marks place true)
    left-out-more none marks old k so =
        elim (cases_eq k place) [
          | inl same ↦
              subst (IsLeftOut count touches) (sym same)
              (inl (record { reads = reads; behind = λ j above under e. h bucket j none above under (e ∙ sym is) }))
          | inr differs ↦ old k (sym (get_or-set_other marks place k true false differs) ∙ so)
        ]

streak-on : (streak : Streak) (a b c : Touch) → AreInStreak streak a b → AreInStreak streak b c → AreInStreak streak a c
streak-on Thread a b c h k = thread-on a b c h k
streak-on Locks a b c h k = h ∙ k

module _ (streak : Streak) (count : ℕ) (touches : List Touch) (place behind : ℕ) (pasts : List ℕ) (h : ArePast streak count touches (suc place) pasts)
    (f : IsFirst count touches (IsLeftOut count touches) (bucket_at count touches place) (suc place) behind) where
  abbrev IsPastOf : ℕ → Type 0
  IsPastOf past = IsFirst count touches (IsPassed streak count touches place) (bucket_at count touches place) (suc place) past

  -- where the next one is not of the streak
  pub past-here : IsPastOf behind
  past-here = record { behind = f.behind; within = f.within; none = λ k above under same. inl (f.none k above under same); falls = f.falls }

  -- where it is
  module _ (there : behind < count) (alike : AreInStreak streak (touch_at touches place) (touch_at touches behind)) where
    g : IsFirst count touches (IsPassed streak count touches behind) (bucket_at count touches behind) (suc behind) (slice_index pasts behind)
    g = h.each behind f.behind there

    passed-on : (k : ℕ) → IsPassed streak count touches behind k → IsPassed streak count touches place k
    passed-on k (inl left) = inl left
    passed-on k (inr on) = inr (streak-on streak (touch_at touches place) (touch_at touches behind) (touch_at touches k) alike on)

    pub past-on : IsPastOf (slice_index pasts behind)
    past-on = record {
      behind = let e = g.behind in let d = f.behind in omega (arith, e, d);
      within = g.within;
      none = λ k above under same.
          elim (cases_lt k behind) [
            | inl below ↦ inl (f.none k above below same)
            | inr past ↦
                elim (cases_eq k behind) [
                  | inl e ↦ inr (subst (λ n. AreInStreak streak (touch_at touches place) (touch_at touches n)) (sym e) alike)
                  | inr differs ↦ passed-on k (g.none k (omega arith) under (same ∙ sym (f.falls there)))
                ]
          ];
      falls = λ under. g.falls under ∙ f.falls there;
    }

  pub pasts-more : (past : ℕ) → IsPastOf past → place < length pasts → ArePast streak count touches place (set pasts place past)
  pasts-more past is low = record {
    each = λ other above under.
        elim (cases_eq other place) [
          | inl same ↦
              subst
              (λ n. IsFirst count touches (IsPassed streak count touches n) (bucket_at count touches n) (suc n) (slice_index (set pasts place past) n))
              (sym same) (subst IsPastOf (sym (get_or-set_same pasts place past 0 low)) is)
          | inr differs ↦
              subst (IsFirst count touches (IsPassed streak count touches other) (bucket_at count touches other) (suc other))
              (sym (get_or-set_other pasts place other past 0 differs)) (h.each other (omega arith) under)
        ];
  }
