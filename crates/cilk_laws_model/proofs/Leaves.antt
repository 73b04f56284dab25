-- Each live instance without a live child is in a hand, or at the bottom of a deque beside an empty hand.
use Rattle.std.proofs.Common.{◌≡◌, ℕ, suc, ◌+◌, ◌-◌, ◌<◌, ◌≤◌, Bool, true, false, List, [], ◌∷◌, length, Option, Some, None, inl, inr, refl, sym, ap}
use Rattle.std.proofs.Common.{subst, ◌∙◌, arith, count_by}
use Rattle.std.specs.Prelude.{slice_index_or}
use Rattle.std.proofs.lemmas.Bool.{cases_lt}
use Rattle.std.proofs.lemmas.List.Sums.{sum_by-cons, sum_by-append}
use Rattle.cilk_model.specs.Path.{Path, same_path, is_that, is_child}
use Rattle.cilk_model.specs.State.{is_live, has_live_child}
use Rattle.cilk_model.specs.Scheduler.{Worker, no_place, worker_at, hand_of, bottom_of}
use Rattle.cilk_model.specs.Run.{Standing, is_worker}
use Rattle.cilk_laws_model.specs.Hands.{times_held, EachInItsPlace, Descends, in_hand, worker_paths}
use Rattle.cilk_laws_model.specs.Laws.{EachLeafIsBusy}
use Rattle.cilk_laws_model.proofs.Stuck.{within}
use Rattle.cilk_laws_model.proofs.Entries.{same-is, same-self}
use Rattle.cilk_laws_model.proofs.Family.{child_seen}
use Rattle.cilk_laws_model.proofs.Hands.{once, held, seat}
use Rattle.cilk_laws_model.proofs.Kept.{always}

-- a worker's place in which a path stands
record StandsAt (p : Path) (places : List Worker) : Type 0 where
  index : ℕ
  there : index < length places
  some : 1 ≤ times_held p (slice_index_or places index no_place)

some_place : (p : Path) (places : List Worker) → 1 ≤ held p places → StandsAt p places
some_place p [] h = absurd (omega arith)
some_place p (x ∷ places) h =
    let c = sum_by-cons (times_held p) x places in
    elim (cases_lt 0 (times_held p x)) [
      | inl here ↦ record { index = 0; there = omega arith; some = here }
      | inr none ↦
          let rest = some_place p places (omega arith) in
          let within = rest.there in
          record { index = suc rest.index; there = omega arith; some = rest.some }
    ]

in_line : (p : Path) (at : Worker) → count_by (same_path p) (worker_paths at) ≡ times_held p at
in_line p at =
    let c = sum_by-append (λ (x : Path). once (same_path p x)) at.deque (in_hand at.hand) in
    let h = hand_count at.hand in
    omega arith
  where
    hand_count : (o : Option Path) → count_by (same_path p) (in_hand o) ≡ once (is_that p o)
    hand_count None = refl
    hand_count (Some x) = let c = sum_by-cons (λ (y : Path). once (same_path p y)) x [] in omega arith

once_some : (b : Bool) → 1 ≤ once b → b ≡ true
once_some true h = refl
once_some false h = absurd (omega arith)

-- the path of a line none of whose children stand in it is its last
last_by : (p x y : Path) (ps : List Path) (b : Bool) → same_path p x ≡ b → is_child x y ≡ true
    → ((c : Path) → is_child p c ≡ true → 1 ≤ count_by (same_path c) (x ∷ (y ∷ ps)) → ⊥)
    → (1 ≤ count_by (same_path p) (y ∷ ps) → bottom_of (y ∷ ps) ≡ Some p) → 1 ≤ count_by (same_path p) (x ∷ (y ∷ ps)) → bottom_of (y ∷ ps) ≡ Some p
last_by p x y ps true same is none rest h =
    let child : is_child p y ≡ true = ap (λ q. is_child q y) (same-is p x same) ∙ is in
    let self : once (same_path y y) ≡ 1 = ap once (same-self y) in
    let c = sum_by-cons (λ (z : Path). once (same_path y z)) x (y ∷ ps) in
    let d = sum_by-cons (λ (z : Path). once (same_path y z)) y ps in
    absurd (none y child (omega arith))
last_by p x y ps false other is none rest h =
    let zero_here : once (same_path p x) ≡ 0 = ap once other in
    let c = sum_by-cons (λ (z : Path). once (same_path p z)) x (y ∷ ps) in
    rest (omega arith)

last_of : (p : Path) (ps : List Path) → Descends ps → ((c : Path) → is_child p c ≡ true → 1 ≤ count_by (same_path c) ps → ⊥)
    → 1 ≤ count_by (same_path p) ps → bottom_of ps ≡ Some p
last_of p [] line none h = absurd (omega arith)
last_of p (x ∷ []) line none h =
    let c = sum_by-cons (λ (z : Path). once (same_path p z)) x [] in
    let same = once_some (same_path p x) (omega arith) in
    ap Some (sym (same-is p x same))
last_of p (x ∷ y ∷ ps) line none h =
    last_by p x y ps (same_path p x) refl line.0 none
    (last_of p (y ∷ ps) line.1 (λ c is some. let e = sum_by-cons (λ (z : Path). once (same_path c z)) x (y ∷ ps) in none c is (omega arith))) h

-- what stands at a place lives
held_lives : (at : Standing) (k : ℕ) (c : Path) → EachInItsPlace at → k < length at.scheduler.places
    → 1 ≤ times_held c (slice_index_or at.scheduler.places k no_place) → is_live at.state.instances c ≡ true
held_lives at k c kept there some =
    let one : k + 1 - 1 ≡ k = omega arith in
    let s = seat c at.scheduler.places (k + 1) no_place (omega arith) in
    let same : times_held c (worker_at at.scheduler.places (k + 1))
    ≡ times_held c (slice_index_or at.scheduler.places k no_place) = ap (λ j. times_held c (slice_index_or at.scheduler.places j no_place))
    one in
    let e = kept.once c in
    once_some (is_live at.state.instances c) (omega arith)

-- what is in a hand lives
pub in_hand_lives : (at : Standing) → EachInItsPlace at → (w : ℕ) (p : Path) → is_worker at.scheduler.places w ≡ true
    → hand_of at.scheduler.places w ≡ Some p → is_live at.state.instances p ≡ true
in_hand_lives at kept w p worker full =
    let size = within at.scheduler.places w worker in
    let first = size.0 in
    let last = size.1 in
    let here : once (is_that p (hand_of at.scheduler.places w)) ≡ 1 = ap (λ o. once (is_that p o)) full ∙ ap once (same-self p) in
    held_lives at (w - 1) p kept (omega arith) (omega arith)

not_parked : (b : Bool) → (b ≡ true → ⊥) → once b ≡ 0
not_parked true h = absurd (h refl)
not_parked false h = refl

-- where each instance is in its place, one without a live child is the last of a worker's line
pub leaf_is_busy : (at : Standing) → EachInItsPlace at → (p : Path) → is_live at.state.instances p ≡ true → has_live_child at.state.instances p ≡ false
    → (w : ℕ) × (w - 1 < length at.scheduler.places) × (1 ≤ w) × (bottom_of (worker_paths (worker_at at.scheduler.places w)) ≡ Some p)
leaf_is_busy at kept p live childless =
    let places = at.scheduler.places in
    let idle = not_parked (at.scheduler.parked p) (λ parked. let one = kept.parked p parked in let both : true ≡ false = sym one ∙ childless in cc) in
    let e = kept.once p in
    let lives : once (is_live at.state.instances p) ≡ 1 = ap once live in
    let s = some_place p places (omega arith) in
    let there = s.there in
    let one : s.index + 1 - 1 ≡ s.index = omega arith in
    let here : worker_at places (s.index + 1) ≡ slice_index_or places s.index no_place = ap (λ j. slice_index_or places j no_place) one in
    let none : (c : Path) → is_child p c ≡ true → 1 ≤ count_by (same_path c) (worker_paths (slice_index_or places s.index no_place)) → ⊥ = λ c is some.
    let l = in_line c (slice_index_or places s.index no_place) in
    let seen = child_seen p c at.state.instances is (held_lives at s.index c kept there (omega arith)) in
    let both : true ≡ false = sym seen ∙ childless in
    cc in
    let l = in_line p (slice_index_or places s.index no_place) in
    let some = s.some in (
      s.index + 1,
      omega arith,
      omega arith,
      ap (λ x. bottom_of (worker_paths x)) here
          ∙ last_of p (worker_paths (slice_index_or places s.index no_place)) (subst (λ x. Descends (worker_paths x)) here (kept.lines (s.index + 1)))
          none (omega arith),
    )

pub each_leaf_is_busy : EachLeafIsBusy
each_leaf_is_busy program n choices at h p live childless =
    let busy = leaf_is_busy at.standing (always program n choices at h) p live childless in
    (busy.0, busy.3)
