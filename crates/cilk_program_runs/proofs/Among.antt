-- Where an outcome stands among all, and how they are gone through.
use Rattle.std.proofs.Common.{◌≡◌, ◌<◌, ◌≤◌, ◌+◌, ◌∙◌, arith, refl, sym, ap, ℕ, zero, suc, Bool, true, false, if◌then◌else◌, List, [], ◌∷◌, ◌++◌, length}
use Rattle.std.proofs.Common.{map, drop, Option, Some, None, option_map, slice_get, append_assoc, add-one}
use Rattle.std.proofs.lemmas.List.{length-map}
use Rattle.std.proofs.lemmas.Option.{slice_get-map}
use Rattle.cilk_explore.specs.Exploring.{endless_of}
use Rattle.cilk_explore.specs.Telling.{told_by}
use Rattle.cilk_explore.specs.declared.exploration.Exploration.{Exploration}
use Rattle.cilk_explore.specs.declared.told.Told as code
use Rattle.cilk_explore.specs.explore.Search.{Told}
use Rattle.cilk_run.specs.model.Choice.{Choice}
use Rattle.cilk_program_runs.specs.Exploring.{outcome_text, outcomes_text}
use Rattle.cilk_program_runs.specs.Outcomes.{Outcome, with_end, without_end, stands_before, with_endless, outcomes_of, outcomes_by, before_endless}
use Rattle.cilk_program_runs.specs.Outcomes.{ended_before, before_by}

module _ (log : List Choice) where
  abbrev First : List Told → Type 0
  First told = (k : ℕ) (x : Told) → slice_get told k ≡ Some x → k < before_endless log told → slice_get (with_endless log told) k ≡ Some (with_end x)

  first-by : (b : Bool) (t : Told) (told : List Told) → First told → (k : ℕ) (x : Told) → slice_get (t ∷ told) k ≡ Some x
      → k < (if b then suc (before_endless log told) else 0)
      → slice_get (if b then with_end t ∷ with_endless log told else without_end log ∷ map with_end (t ∷ told)) k ≡ Some (with_end x)
  first-by true t told rest zero x h lt = ap (option_map with_end) h
  first-by true t told rest (suc k) x h lt = rest k x h (omega (arith, lt))
  first-by false t told rest k x h lt = absurd (omega (arith, lt))

  first : (told : List Told) → First told
  first [] k x h lt = cc
  first (t ∷ told) k x h lt = first-by (stands_before t.log log) t told (first told) k x h lt

  here-by : (b : Bool) (t : Told) (told : List Told) → slice_get (with_endless log told) (before_endless log told) ≡ Some (without_end log)
      → slice_get (if b then with_end t ∷ with_endless log told else without_end log ∷ map with_end (t ∷ told))
      (if b then suc (before_endless log told) else 0) ≡ Some (without_end log)
  here-by true t told rest = rest
  here-by false t told rest = refl

  -- the log without an end
  here : (told : List Told) → slice_get (with_endless log told) (before_endless log told) ≡ Some (without_end log)
  here [] = refl
  here (t ∷ told) = here-by (stands_before t.log log) t told (here told)

  abbrev Behind : List Told → Type 0
  Behind told =
      (k : ℕ) (x : Told) → slice_get told k ≡ Some x → before_endless log told ≤ k → slice_get (with_endless log told) (suc k) ≡ Some (with_end x)

  behind-by : (b : Bool) (t : Told) (told : List Told) → Behind told → (k : ℕ) (x : Told) → slice_get (t ∷ told) k ≡ Some x
      → (if b then suc (before_endless log told) else 0) ≤ k
      → slice_get (if b then with_end t ∷ with_endless log told else without_end log ∷ map with_end (t ∷ told)) (suc k) ≡ Some (with_end x)
  behind-by true t told rest zero x h le = absurd (omega (arith, le))
  behind-by true t told rest (suc k) x h le = rest k x h (omega (arith, le))
  behind-by false t told rest k x h le = slice_get-map with_end (t ∷ told) k ∙ ap (option_map with_end) h

  -- an ending behind it
  behind : (told : List Told) → Behind told
  behind [] k x h le = cc
  behind (t ∷ told) k x h le = behind-by (stands_before t.log log) t told (behind told) k x h le

  size-by : (b : Bool) (t : Told) (told : List Told) → length (with_endless log told) ≡ length told + 1
      → length (if b then with_end t ∷ with_endless log told else without_end log ∷ map with_end (t ∷ told)) ≡ length (t ∷ told) + 1
  size-by true t told rest = omega (arith, rest)
  size-by false t told rest = let same = length-map (t ∷ told) with_end in omega (arith, same)

  -- it is one more than the endings
  one-more : (told : List Told) → length (with_endless log told) ≡ length told + 1
  one-more [] = refl
  one-more (t ∷ told) = size-by (stands_before t.log log) t told (one-more told)

  within-by : (b : Bool) (t : Told) (told : List Told) → before_endless log told ≤ length told
      → (if b then suc (before_endless log told) else 0) ≤ length (t ∷ told)
  within-by true t told rest = omega (arith, rest)
  within-by false t told rest = omega arith

  within : (told : List Told) → before_endless log told ≤ length told
  within [] = omega arith
  within (t ∷ told) = within-by (stands_before t.log log) t told (within told)

-- ---- of an exploration

module _ (e : Exploration) where
  abbrev endings : List Told
  endings = map told_by e.told.items

  size : length endings ≡ length e.told.items
  size = length-map e.told.items told_by

  read : (k : ℕ) (x : code.Told) → slice_get e.told.items k ≡ Some x → slice_get endings k ≡ Some (told_by x)
  read k x h = slice_get-map told_by e.told.items k ∙ ap (option_map told_by) h

  first-of : (endless : Option (List Choice)) (k : ℕ) (x : Told) → slice_get endings k ≡ Some x → k < ended_before endings endless
      → slice_get (outcomes_of endings endless) k ≡ Some (with_end x)
  first-of None k x h lt = slice_get-map with_end endings k ∙ ap (option_map with_end) h
  first-of (Some log) k x h lt = first log endings k x h lt

  before-within : (endless : Option (List Choice)) → ended_before endings endless ≤ length endings
  before-within None = omega arith
  before-within (Some log) = within log endings

  -- an ending before the log without an end
  pub is-within : (k : ℕ) → k < before_by e → k < length e.told.items
  is-within k lt = let low = before-within (endless_of e) in let same = size in omega arith

  pub at-first : (k : ℕ) (x : code.Told) → slice_get e.told.items k ≡ Some x → k < before_by e
      → slice_get (outcomes_by e) k ≡ Some (with_end (told_by x))
  at-first k x h lt = first-of (endless_of e) k (told_by x) (read k x h) lt

  module _ (log : List Choice) (some : endless_of e ≡ Some log) where
    are : outcomes_by e ≡ with_endless log endings
    are = ap (outcomes_of endings) some

    pub before-is : before_by e ≡ before_endless log endings
    before-is = ap (ended_before endings) some

    pub count-some : length e.told.items + 1 ≡ length (outcomes_by e)
    count-some = let all = ap length are in let more = one-more log endings in let same = size in omega arith

    -- the log without an end
    pub at-endless : (k : ℕ) → k ≡ before_by e → slice_get (outcomes_by e) k ≡ Some (without_end log)
    at-endless k here_is = ap (λ (os : List Outcome). slice_get os k) are ∙ ap (slice_get (with_endless log endings)) (here_is ∙ before-is) ∙ here log endings

    -- and an ending behind it
    pub at-last : (k j : ℕ) (x : code.Told) → k ≡ suc j → slice_get e.told.items j ≡ Some x → before_by e ≤ j
        → slice_get (outcomes_by e) k ≡ Some (with_end (told_by x))
    at-last k j x next h le =
        ap (λ (os : List Outcome). slice_get os k) are ∙ ap (slice_get (with_endless log endings)) next
        ∙ behind log endings j (told_by x) (read j x h) (let same = before-is in omega arith)

-- ---- how they are gone through

drop-next : {A : Type 0} (xs : List A) (k : ℕ) (x : A) → slice_get xs k ≡ Some x → drop k xs ≡ x ∷ drop (suc k) xs
drop-next [] k x h = cc
drop-next (y ∷ xs) zero x h = cc
drop-next (y ∷ xs) (suc k) x h = drop-next xs k x h

-- what is written grows by one that is read
pub text-more : (outcomes : List Outcome) (k : ℕ) (o : Outcome) (all before now : List ℕ) → slice_get outcomes k ≡ Some o
    → before ++ outcomes_text (k + 1) (drop k outcomes) ≡ all → now ≡ before ++ outcome_text (k + 1) o
    → now ++ outcomes_text (k + 1 + 1) (drop (k + 1) outcomes) ≡ all
text-more outcomes k o all before now there old new =
    let rest : outcomes_text (suc (k + 1)) (drop (suc k) outcomes) ≡ outcomes_text (k + 1 + 1) (drop (k + 1) outcomes) =
    ap (λ (j : ℕ). outcomes_text j (drop (suc k) outcomes)) (sym (add-one (k + 1)))
    ∙ ap (λ (j : ℕ). outcomes_text (k + 1 + 1) (drop j outcomes)) (sym (add-one k)) in
    let next : outcomes_text (k + 1) (drop k outcomes) ≡ outcome_text (k + 1) o ++ outcomes_text (k + 1 + 1) (drop (k + 1) outcomes) =
    ap (outcomes_text (k + 1)) (drop-next outcomes k o there) ∙ ap (λ (xs : List ℕ). outcome_text (k + 1) o ++ xs) rest in
    ap (λ (xs : List ℕ). xs ++ outcomes_text (k + 1 + 1) (drop (k + 1) outcomes)) new
    ∙ append_assoc before (outcome_text (k + 1) o) (outcomes_text (k + 1 + 1) (drop (k + 1) outcomes)) ∙ sym (ap (λ (xs : List ℕ). before ++ xs) next) ∙ old
