-- The greatest ranks of steps that pass a test, and what one step more makes of them.
use Rattle.std.proofs.Common.{◌≡◌, ℕ, suc, Bool, true, false, ◌||◌, List, [], ◌∷◌, ◌++◌, refl, ap, ◌∙◌, max, arith, if◌then◌else◌}
use Rattle.cilk_races.specs.Steps.{Step}
use Rattle.cilk_races.specs.Span.{follows, Ranked, top, ranked, ranked_from, all_ranked, span_of}

abbrev pub if_so : Bool → ℕ → ℕ
if_so b n = if b then n else 0

pub max-assoc : (a b c : ℕ) → max a (max b c) ≡ max (max a b) c
max-assoc a b c = omega arith

pub top-push : (f : Step → Bool) (rs : List Ranked) (r : Ranked) → top f (rs ++ r ∷ []) ≡ max (top f rs) (if_so (f r.step) r.rank)
top-push f [] r = omega arith
top-push f (x ∷ rs) r = ap (max (if_so (f x.step) x.rank)) (top-push f rs r) ∙ max-assoc (if_so (f x.step) x.rank) (top f rs) (if_so (f r.step) r.rank)

ranked_from-push : (before : List Ranked) (steps : List Step) (s : Step)
    → ranked_from before (steps ++ s ∷ []) ≡ ranked_from before steps ++ ranked (ranked_from before steps) s ∷ []
ranked_from-push before [] s = refl
ranked_from-push before (x ∷ steps) s = ranked_from-push (before ++ ranked before x ∷ []) steps s

pub ranked-push : (steps : List Step) (s : Step) → all_ranked (steps ++ s ∷ []) ≡ all_ranked steps ++ ranked (all_ranked steps) s ∷ []
ranked-push steps s = ranked_from-push [] steps s

-- the rank of the next step
abbrev pub next_rank : List Step → Step → ℕ
next_rank steps s = suc (top (follows s) (all_ranked steps))

pub top-more : (f : Step → Bool) (steps : List Step) (s : Step)
    → top f (all_ranked (steps ++ s ∷ [])) ≡ max (top f (all_ranked steps)) (if_so (f s) (next_rank steps s))
top-more f steps s = ap (top f) (ranked-push steps s) ∙ top-push f (all_ranked steps) (ranked (all_ranked steps) s)

pub span-more : (steps : List Step) (s : Step) → span_of (steps ++ s ∷ []) ≡ max (span_of steps) (next_rank steps s)
span-more steps s = top-more (λ x. true) steps s

either : (b c : Bool) (n x y : ℕ) → max (if_so (b || c) n) (max x y) ≡ max (max (if_so b n) x) (max (if_so c n) y)
either true true n x y = omega arith
either true false n x y = omega arith
either false true n x y = omega arith
either false false n x y = omega arith

-- of two tests
pub top-either : (f g : Step → Bool) (rs : List Ranked) → top (λ s. f s || g s) rs ≡ max (top f rs) (top g rs)
top-either f g [] = refl
top-either f g (r ∷ rs) =
    ap (max (if_so (f r.step || g r.step) r.rank)) (top-either f g rs) ∙ either (f r.step) (g r.step) r.rank (top f rs) (top g rs)

none-by : (b : Bool) (n k : ℕ) → b ≡ false → k ≡ 0 → max (if_so b n) k ≡ 0
none-by true n k e h = absurd (true-false e)
  where
    true-false : true ≡ false → ⊥
    true-false e = cc
none-by false n k e h = omega (arith, h)

-- of a test that none passes
pub top-none : (f : Step → Bool) → ((s : Step) → f s ≡ false) → (rs : List Ranked) → top f rs ≡ 0
top-none f none [] = refl
top-none f none (r ∷ rs) = none-by (f r.step) r.rank (top f rs) (none r.step) (top-none f none rs)
