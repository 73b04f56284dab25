-- In a deque each path is the parent of the next below, and the lowest is the parent of the path in a full hand.
use Rattle.std.proofs.Common.{◌≡◌, ◌≢◌, ℕ, zero, suc, ◌+◌, ◌-◌, ◌<◌, ◌≤◌, Bool, true, false, not, ◌&&◌, List, [], ◌∷◌, ◌++◌, length, replicate}
use Rattle.std.proofs.Common.{Option, Some, None, ◌⊎◌, inl, inr, refl, sym, ap, subst, ◌∙◌, if◌then◌else◌, arith, slice_set, count_by, length-set}
use Rattle.std.proofs.Common.{append-nil}
use Rattle.std.specs.Prelude.{slice_index_or}
use Rattle.std.proofs.lemmas.Bool.{cases_eq, eqb-false}
use Rattle.std.proofs.lemmas.List.{length-replicate}
use Rattle.std.proofs.lemmas.List.Sums.{sum_by-cons}
use Rattle.cilk_model.specs.labelled.Labelled.{Labelled}
use Rattle.cilk_model.specs.Path.{Path, same_path, parent_of, is_that, is_child}
use Rattle.cilk_model.specs.State.{State, is_live}
use Rattle.cilk_model.specs.Pick.{Step, waits, parks, goes_on, ends, spawns, step_of}
use Rattle.cilk_model.specs.Scheduler.{Worker, no_place, worker_at, hand_of, deque_of, with_hand, with_deque, top_of, below_top, bottom_of}
use Rattle.cilk_model.specs.Scheduler.{above_bottom, can_go_on, woken, with_empty_hand}
use Rattle.cilk_model.specs.Choice.{Act, step, pop, steal}
use Rattle.cilk_model.specs.Run.{Standing, is_worker, act_refusal, stepped, next_by_hand, next_by, opening}
use Rattle.cilk_laws_model.specs.Hands.{Descends, in_hand, worker_paths}
use Rattle.cilk_laws_model.proofs.Stuck.{within}
use Rattle.cilk_laws_model.proofs.Entries.{same-sym}
use Rattle.cilk_laws_model.proofs.Live.{Lives, step_lives}
use Rattle.cilk_laws_model.proofs.Family.{is-child}
use Rattle.cilk_laws_model.proofs.Hands.{once, Once, seat, seated, beside, apart, free_pop, steal_free}

-- the parts of a line
front_descends : (ps qs : List Path) → Descends (ps ++ qs) → Descends ps
front_descends [] qs h = tt
front_descends (p ∷ []) qs h = tt
front_descends (p ∷ q ∷ ps) qs h = (h.0, front_descends (q ∷ ps) qs h.1)

back_descends : (p : Path) (ps : List Path) → Descends (p ∷ ps) → Descends ps
back_descends p [] h = tt
back_descends p (q ∷ ps) h = h.1

more_descends : (ps : List Path) (p c : Path) → Descends (ps ++ p ∷ []) → is_child p c ≡ true → Descends ((ps ++ p ∷ []) ++ c ∷ [])
more_descends [] p c h is = (is, tt)
more_descends (q ∷ []) p c h is = (h.0, (is, tt))
more_descends (q ∷ r ∷ ps) p c h is = (h.0, more_descends (r ∷ ps) p c h.1 is)

-- the parent of what stands behind a deque stands in it, if anything does
parent_inside : (ps : List Path) (p q : Path) → parent_of p ≡ Some q → Descends (ps ++ p ∷ []) → (ps ≡ []) ⊎ (1 ≤ count_by (same_path q) ps)
parent_inside [] p q e h = inl refl
parent_inside (x ∷ []) p q e h =
    let is : same_path x q ≡ true = sym (ap (is_that x) e) ∙ h.0 in
    let one : once (same_path q x) ≡ 1 = ap once (same-sym q x ∙ is) in
    let c = sum_by-cons (λ (y : Path). once (same_path q y)) x [] in
    inr (omega arith)
parent_inside (x ∷ y ∷ ps) p q e h =
    let c = sum_by-cons (λ (z : Path). once (same_path q z)) x (y ∷ ps) in
    elim (parent_inside (y ∷ ps) p q e h.1) [ inl none ↦ cc | inr some ↦ inr (omega arith) ]

bottom_line : (ps : List Path) → above_bottom ps ++ in_hand (bottom_of ps) ≡ ps
bottom_line [] = refl
bottom_line (p ∷ []) = refl
bottom_line (p ∷ q ∷ ps) = ap (λ qs. p ∷ qs) (bottom_line (q ∷ ps))

-- the lines of all workers
abbrev pub Lines : List Worker → Type 0
Lines places = (v : ℕ) → Descends (worker_paths (worker_at places v))

-- where only worker w's place is another
but_for : (places after : List Worker) (w : ℕ) → Lines places → ((v : ℕ) → v - 1 ≢ w - 1 → worker_at after v ≡ worker_at places v)
    → Descends (worker_paths (worker_at after w)) → Lines after
but_for places after w lines others here v =
    elim (cases_eq (v - 1) (w - 1)) [
      | inl e ↦ subst (λ k. Descends (worker_paths (slice_index_or after k no_place))) (sym e) here
      | inr ne ↦ subst (λ x. Descends (worker_paths x)) (sym (others v ne)) (lines v)
    ]

set_line : (places : List Worker) (w : ℕ) (x : Worker) → w - 1 < length places → Lines places → Descends (worker_paths x) → Lines (slice_set places (w - 1) x)
set_line places w x there lines h =
    but_for places (slice_set places (w - 1) x) w lines (λ v ne. beside places w v x ne)
    (subst (λ y. Descends (worker_paths y)) (sym (seated places w x there)) h)

-- where the place of one worker is set twice
twice_line : (places : List Worker) (w : ℕ) (x y : Worker) → w - 1 < length places → Lines places → Descends (worker_paths y)
    → Lines (slice_set (slice_set places (w - 1) x) (w - 1) y)
twice_line places w x y there lines h =
    let size : length (slice_set places (w - 1) x) ≡ length places = simp length-set in
    but_for places (slice_set (slice_set places (w - 1) x) (w - 1) y) w lines
    (λ v ne. beside (slice_set places (w - 1) x) w v y ne ∙ beside places w v x ne)
    (subst (λ z. Descends (worker_paths z)) (sym (seated (slice_set places (w - 1) x) w y (omega arith))) h)

full_line : (places : List Worker) (w : ℕ) (p : Path) → hand_of places w ≡ Some p → Lines places → Descends (deque_of places w ++ p ∷ [])
full_line places w p full lines = subst (λ o. Descends (deque_of places w ++ in_hand o)) full (lines w)

empty_line : (places : List Worker) (w : ℕ) → hand_of places w ≡ None → Lines places → Descends (deque_of places w)
empty_line places w empty lines =
    subst Descends (append-nil (deque_of places w)) (subst (λ o. Descends (deque_of places w ++ in_hand o)) empty (lines w))

without_hand : (ps : List Path) → Descends ps → Descends (ps ++ [])
without_hand ps h = subst Descends (sym (append-nil ps)) h

emptied_lines : (places : List Worker) (w : ℕ) (p : Path) → w - 1 < length places → hand_of places w ≡ Some p → Lines places → Lines (with_hand places w None)
emptied_lines places w p there full lines =
    set_line places w (record { hand = None; deque = deque_of places w }) there lines
    (without_hand (deque_of places w) (front_descends (deque_of places w) (p ∷ []) (full_line places w p full lines)))

pushed_lines : (places : List Worker) (w : ℕ) (p c : Path) → w - 1 < length places → hand_of places w ≡ Some p → is_child p c ≡ true → Lines places
    → Lines (with_hand (with_deque places w (deque_of places w ++ p ∷ [])) w (Some c))
pushed_lines places w p c there full is lines =
    let x : Worker = record { hand = hand_of places w; deque = deque_of places w ++ p ∷ [] } in
    let deque : deque_of (slice_set places (w - 1) x) w ≡ deque_of places w ++ p ∷ [] = ap (λ (y : Worker). y.deque) (seated places w x there) in
    twice_line places w x (record { hand = Some c; deque = deque_of (slice_set places (w - 1) x) w }) there lines
    (subst (λ ps. Descends (ps ++ c ∷ [])) (sym deque) (more_descends (deque_of places w) p c (full_line places w p full lines) is))

-- a path that is parked stands in no deque
not_queued : (at : Standing) (w : ℕ) (q : Path) → w - 1 < length at.scheduler.places → Once at → at.scheduler.parked q ≡ true
    → count_by (same_path q) (deque_of at.scheduler.places w) ≡ 0
not_queued at w q there kept parked =
    let s = seat q at.scheduler.places w no_place there in
    let k = kept q in
    let p : once (at.scheduler.parked q) ≡ 1 = ap once parked in
    let l = at_most (is_live at.state.instances q) in
    omega arith
  where
    at_most : (b : Bool) → once b ≤ 1
    at_most true = omega arith
    at_most false = omega arith

-- the parent of an instance that has ended comes to the hand
woken_line : (at : Standing) (w : ℕ) (p q : Path) → w - 1 < length at.scheduler.places → hand_of at.scheduler.places w ≡ Some p → Once at
    → Lines at.scheduler.places → parent_of p ≡ Some q → at.scheduler.parked q ≡ true
    → Descends (deque_of at.scheduler.places w ++ q ∷ [])
woken_line at w p q there full kept lines e parked =
    let none = not_queued at w q there kept parked in
    elim (parent_inside (deque_of at.scheduler.places w) p q e (full_line at.scheduler.places w p full lines)) [
      | inl empty ↦ subst (λ ps. Descends (ps ++ q ∷ [])) (sym empty) tt
      | inr some ↦ absurd (omega arith)
    ]

woken_lines_by : (at : Standing) (w : ℕ) (p q : Path) (a b : Bool) → at.scheduler.parked q ≡ a → w - 1 < length at.scheduler.places
    → hand_of at.scheduler.places w ≡ Some p → Once at → Lines at.scheduler.places → parent_of p ≡ Some q
    → Lines
    (if a && b then record {
      places = with_hand (with_hand at.scheduler.places w None) w (Some q);
      parked = λ x. not (same_path x q)
          && at.scheduler.parked x;
    } else with_empty_hand at.scheduler w).places
woken_lines_by at w p q true true parked there full kept lines e =
    let x : Worker = record { hand = None; deque = deque_of at.scheduler.places w } in
    let deque : deque_of (slice_set at.scheduler.places (w - 1) x) w
    ≡ deque_of at.scheduler.places w = ap (λ (y : Worker). y.deque) (seated at.scheduler.places w x there) in
    twice_line at.scheduler.places w x (record { hand = Some q; deque = deque_of (slice_set at.scheduler.places (w - 1) x) w }) there lines
    (subst (λ ps. Descends (ps ++ q ∷ [])) (sym deque) (woken_line at w p q there full kept lines e parked))
woken_lines_by at w p q true false parked there full kept lines e = emptied_lines at.scheduler.places w p there full lines
woken_lines_by at w p q false b parked there full kept lines e = emptied_lines at.scheduler.places w p there full lines

ended_lines : (at : Standing) (t : State) (w : ℕ) (p : Path) → w - 1 < length at.scheduler.places → hand_of at.scheduler.places w ≡ Some p
    → Once at → Lines at.scheduler.places → (o : Option Path) → parent_of p ≡ o
    → Lines (woken t.instances (with_empty_hand at.scheduler w) w o).places
ended_lines at t w p there full kept lines None e = emptied_lines at.scheduler.places w p there full lines
ended_lines at t w p there full kept lines (Some q) e =
    woken_lines_by at w p q (at.scheduler.parked q) (can_go_on t.instances q) refl there full kept lines e

step_lines : (at : Standing) (w : ℕ) (p : Path) (taken : Step) → w - 1 < length at.scheduler.places → hand_of at.scheduler.places w ≡ Some p
    → Once at → Lines at.scheduler.places → Lives at.state p taken
    → Lines (stepped at w p taken).scheduler.places
step_lines at w p waits there full kept lines lives = lines
step_lines at w p parks there full kept lines lives = emptied_lines at.scheduler.places w p there full lines
step_lines at w p (goes_on t did) there full kept lines lives = lines
step_lines at w p (ends t did) there full kept lines lives = ended_lines at t w p there full kept lines (parent_of p) refl
step_lines at w p (spawns c t did) there full kept lines lives =
    pushed_lines at.scheduler.places w p c there full (ap (is_child p) lives.child ∙ is-child p (lives.number + 1)) lines

hand_lines : (program : Labelled) (at : Standing) (w : ℕ) (o : Option Path) → hand_of at.scheduler.places w ≡ o
    → w - 1 < length at.scheduler.places → Once at → Lines at.scheduler.places
    → Lines (next_by_hand program at w o).scheduler.places
hand_lines program at w None e there kept lines = lines
hand_lines program at w (Some p) e there kept lines =
    step_lines at w p (step_of program at.state p) there e kept lines (step_lives program at.state p)

popped_lines : (places : List Worker) (w : ℕ) → w - 1 < length places → hand_of places w ≡ None → Lines places
    → Lines (with_hand (with_deque places w (above_bottom (deque_of places w))) w (bottom_of (deque_of places w)))
popped_lines places w there empty lines =
    let x : Worker = record { hand = hand_of places w; deque = above_bottom (deque_of places w) } in
    let deque : deque_of (slice_set places (w - 1) x) w ≡ above_bottom (deque_of places w) = ap (λ (y : Worker). y.deque) (seated places w x there) in
    twice_line places w x (record { hand = bottom_of (deque_of places w); deque = deque_of (slice_set places (w - 1) x) w }) there lines
    (subst Descends (sym (ap (λ ps. ps ++ in_hand (bottom_of (deque_of places w))) deque ∙ bottom_line (deque_of places w))) (empty_line places w empty lines))

lowered : (ps qs : List Path) → Descends (ps ++ qs) → Descends (below_top ps ++ qs)
lowered [] qs h = h
lowered (p ∷ ps) qs h = back_descends p (ps ++ qs) h

one_descends : (o : Option Path) → Descends (in_hand o)
one_descends None = tt
one_descends (Some p) = tt

stolen_lines : (places : List Worker) (w v : ℕ) → w - 1 < length places → v - 1 < length places → w - 1 ≢ v - 1 → deque_of places w ≡ [] → Lines places
    → Lines (with_hand (with_deque places v (below_top (deque_of places v))) w (top_of (deque_of places v)))
stolen_lines places w v there victim other own lines =
    let x : Worker = record { hand = hand_of places v; deque = below_top (deque_of places v) } in
    let size : length (slice_set places (v - 1) x) ≡ length places = simp length-set in
    let deque : deque_of (slice_set places (v - 1) x) w ≡ [] = ap (λ (y : Worker). y.deque) (beside places v w x other) ∙ own in
    set_line (slice_set places (v - 1) x) w (record { hand = top_of (deque_of places v); deque = deque_of (slice_set places (v - 1) x) w }) (omega arith)
    (set_line places v x victim lines (lowered (deque_of places v) (in_hand (hand_of places v)) (lines v)))
    (subst (λ ps. Descends (ps ++ in_hand (top_of (deque_of places v)))) (sym deque) (one_descends (top_of (deque_of places v))))

pub act_lines : (program : Labelled) (at : Standing) (w : ℕ) (act : Act) → is_worker at.scheduler.places w ≡ true
    → act_refusal program at w act ≡ None → Once at → Lines at.scheduler.places
    → Lines (next_by program at w act).scheduler.places
act_lines program at w step worker free kept lines =
    let a = within at.scheduler.places w worker in
    hand_lines program at w (hand_of at.scheduler.places w) refl (omega arith) kept lines
act_lines program at w pop worker free kept lines =
    let a = within at.scheduler.places w worker in
    popped_lines at.scheduler.places w (omega arith) (free_pop (hand_of at.scheduler.places w) _ free) lines
act_lines program at w (steal v) worker free kept lines =
    let f = steal_free at.scheduler.places w v free in
    let a = within at.scheduler.places w worker in
    let b = within at.scheduler.places v f.victim in
    stolen_lines at.scheduler.places w v (omega arith) (omega arith) (apart w v a.0 b.0 (eqb-false v w f.other)) f.own lines

no_lines : (n : ℕ) → Lines (replicate n no_place)
no_lines n v = by n (v - 1)
  where
    by : (n k : ℕ) → Descends (worker_paths (slice_index_or (replicate n no_place) k no_place))
    by zero k = tt
    by (suc n) zero = tt
    by (suc n) (suc k) = by n k

no_deque : (n : ℕ) → deque_of {A = Path} (replicate n no_place) 1 ≡ []
no_deque zero = refl
no_deque (suc n) = refl

pub opening_lines : (program : Labelled) (main n : ℕ) → 1 ≤ n → Lines (opening program main n).scheduler.places
opening_lines program main n some =
    let size : length (replicate n (no_place {A = Path})) ≡ n = length-replicate n no_place in
    set_line (replicate n no_place) 1 (record { hand = Some []; deque = deque_of (replicate n no_place) 1 }) (omega arith) (no_lines n)
    (subst (λ (ps : List Path). Descends (ps ++ [] ∷ [])) (sym (no_deque n)) tt)
