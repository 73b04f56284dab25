-- Steps whose instances are known, and tests that none of them passes.
use Rattle.std.proofs.Common.{◌≡◌, ◌<◌, ◌≤◌, ℕ, suc, max, Bool, true, false, List, [], ◌∷◌, ◌++◌, Option, Some, None, option_map, refl, sym, ap, ◌∙◌, arith}
use Rattle.cilk_log_replay.specs.machine.model.Path.{Path}
use Rattle.cilk_races.specs.Steps.{Step}
use Rattle.cilk_races.specs.Span.{follows, Ranked, top, ranked, ranked_from}
use Rattle.cilk_races.proofs.Tops.{if_so, top-push}
use Rattle.cilk_races.specs.CellsKept.{IsThere, Known, Each}

pub map-same : (up now : ℕ → Path) (count : ℕ) → ((i : ℕ) → i < count → now i ≡ up i) → (o : Option ℕ) → IsThere count o
    → option_map now o ≡ option_map up o
map-same up now count same None h = refl
map-same up now count same (Some i) h = ap Some (same i h)

pub there-more : (count more : ℕ) → count ≤ more → (o : Option ℕ) → IsThere count o → IsThere more o
there-more count more le None h = tt
there-more count more le (Some i) h = omega (arith, le, h)

-- the steps that were known are known
pub known-same : (up now : ℕ → Path) (count more : ℕ) → ((i : ℕ) → i < count → now i ≡ up i) → count ≤ more → (x : Step) → Known up count x → Known now more x
known-same up now count more same grows x k = record {
  place = k.place;
  within = let low = k.within in omega (arith, low, grows);
  path = k.path ∙ sym (same k.place k.within);
  taking = k.taking;
  taking_is = k.taking_is ∙ sym (map-same up now count same k.taking k.taking_there);
  taking_there = there-more count more grows k.taking k.taking_there;
  child = k.child;
  child_is = k.child_is ∙ sym (map-same up now count same k.child k.child_there);
  child_there = there-more count more grows k.child k.child_there;
}

pub each-push : (P : Step → Type 0) (steps : List Step) (s : Step) → Each P steps → P s → Each P (steps ++ s ∷ [])
each-push P [] s h p = (p, tt)
each-push P (x ∷ steps) s h p = (h.0, each-push P steps s h.1 p)

pub each-more : (P Q : Step → Type 0) → ((s : Step) → P s → Q s) → (steps : List Step) → Each P steps → Each Q steps
each-more P Q f [] h = tt
each-more P Q f (s ∷ steps) h = (f s h.0, each-more P Q f steps h.1)

unseen-by : (b : Bool) (n k : ℕ) → b ≡ false → max k (if_so b n) ≡ k
unseen-by true n k e = cc
unseen-by false n k e = omega arith

-- of a test that no step passes
pub unseen : (f : Step → Bool) (before : List Ranked) (steps : List Step) → Each (λ s. f s ≡ false) steps → top f (ranked_from before steps) ≡ top f before
unseen f before [] h = refl
unseen f before (s ∷ steps) h =
    unseen f (before ++ ranked before s ∷ []) steps h.1 ∙ top-push f before (ranked before s)
    ∙ unseen-by (f s) (suc (top (follows s) before)) (top f before) h.0
