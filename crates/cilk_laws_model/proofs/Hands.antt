-- Each live instance is in one place after each choice.
use Rattle.std.proofs.Common.{◌≡◌, ◌≢◌, ℕ, ◌+◌, ◌-◌, ◌<◌, ◌≤◌, ◌==◌, Bool, true, false, not, ◌&&◌, ◌||◌, cond, List, [], ◌∷◌, ◌++◌, length, Option}
use Rattle.std.proofs.Common.{Some, None, is_some, refl, sym, ap, ◌∙◌, if◌then◌else◌, arith, slice_set, sum_by, count_by, get_or-set_same}
use Rattle.std.proofs.Common.{get_or-set_other, length-set}
use Rattle.std.proofs.lemmas.Bool.{eqb-false}
use Rattle.std.proofs.lemmas.List.Sums.{sum_by-set, sum_by-cons, sum_by-append}
use Rattle.cilk_model.specs.labelled.Labelled.{Labelled}
use Rattle.cilk_model.specs.Path.{Path, same_path, is_that, parent_of}
use Rattle.cilk_model.specs.State.{PathsAreApart, State, is_live, is_empty}
use Rattle.cilk_model.specs.Pick.{Step, waits, parks, goes_on, ends, spawns, step_of}
use Rattle.cilk_model.specs.Scheduler.{Worker, Scheduler, no_place, worker_at, hand_of, deque_of, with_hand, with_deque, top_of, below_top, bottom_of}
use Rattle.cilk_model.specs.Scheduler.{above_bottom, popped, stolen, pushed, parked_from, can_go_on, woken, with_empty_hand}
use Rattle.cilk_model.specs.Choice.{Act, step, pop, steal, Choice, Refusal, no_worker, busy}
use Rattle.cilk_model.specs.Run.{Standing, is_worker, act_refusal, pop_refusal, steal_refusal, refusal_of, state_after, stepped, next_by_hand, next_by, next_of}
use Rattle.cilk_laws_model.specs.Hands.{times_held, times_placed}
use Rattle.cilk_laws_model.proofs.Possible.{possible}
use Rattle.cilk_laws_model.proofs.Stuck.{within}
use Rattle.cilk_laws_model.proofs.Entries.{same-is, same-sym, times}
use Rattle.cilk_laws_model.proofs.Live.{Alike, Fewer, More, Lives, step_lives, step_waited}
use Rattle.cilk_laws_model.proofs.Family.{Family, step_family, fresh}

-- 1 where it holds
abbrev pub once : Bool → ℕ
once b = cond b 1 0

once_le : (b : Bool) → once b ≤ 1
once_le true = omega arith
once_le false = omega arith

once_or : (a b : Bool) → once a + once b ≤ 1 → once (a || b) ≡ once a + once b
once_or true true h = absurd (omega arith)
once_or true false h = refl
once_or false b h = omega arith

once_but : (a l : Bool) → once a ≤ once l → once (not a && l) + once a ≡ once l
once_but true true h = refl
once_but true false h = absurd (omega arith)
once_but false l h = omega arith

once_from : (a b : Bool) → (a ≡ true → b ≡ true) → once a + once (not a && b) ≡ once b
once_from true b h = ap once (sym (h refl))
once_from false b h = omega arith

-- a live instance is in one place, and nothing else is in any
abbrev pub Once : Standing → Type 0
Once at = (p : Path) → times_placed p at.scheduler ≡ once (is_live at.state.instances p)

-- how often p is with the workers
abbrev pub held : Path → List Worker → ℕ
held p places = sum_by (times_held p) places

pub seat : (p : Path) (places : List Worker) (w : ℕ) (x : Worker) → w - 1 < length places
    → held p (slice_set places (w - 1) x) + times_held p (worker_at places w) ≡ held p places + times_held p x
seat p places w x there = sum_by-set (times_held p) places (w - 1) x no_place there

-- what a hand gives up, and what comes to one that was empty
pub emptied : (q : Path) (places : List Worker) (w : ℕ) (p : Path) → w - 1 < length places → hand_of places w ≡ Some p
    → held q (with_hand places w None) + once (same_path q p) ≡ held q places
emptied q places w p there full =
    let a = seat q places w (record { hand = None; deque = deque_of places w }) there in
    let h : once (is_that q (hand_of places w)) ≡ once (same_path q p) = ap (λ (o : Option Path). once (is_that q o)) full in
    omega arith

pub given : (q : Path) (places : List Worker) (w : ℕ) (p : Path) → w - 1 < length places → hand_of places w ≡ None
    → held q (with_hand places w (Some p)) ≡ held q places + once (same_path q p)
given q places w p there empty =
    let a = seat q places w (record { hand = Some p; deque = deque_of places w }) there in
    let h : once (is_that q (hand_of places w)) ≡ 0 = ap (λ (o : Option Path). once (is_that q o)) empty in
    omega arith

pub seated : (places : List Worker) (w : ℕ) (x : Worker) → w - 1 < length places → worker_at (slice_set places (w - 1) x) w ≡ x
seated places w x there = get_or-set_same places (w - 1) x no_place there

hand_emptied : (places : List Worker) (w : ℕ) → w - 1 < length places → hand_of (with_hand places w None) w ≡ None
hand_emptied places w there =
    ap (λ (x : Worker). x.hand) (seated places w (record { hand = None; deque = deque_of places w }) there)

-- an instance leaves its hand and is parked
parks_places : (at : Standing) (w : ℕ) (p : Path) → w - 1 < length at.scheduler.places → hand_of at.scheduler.places w ≡ Some p → Once at
    → Once (record { state = at.state; scheduler = parked_from at.scheduler w p })
parks_places at w p there full kept q =
    let a = emptied q at.scheduler.places w p there full in
    let k = kept q in
    let l = once_le (is_live at.state.instances q) in
    let o = once_or (same_path q p) (at.scheduler.parked q) (omega arith) in
    omega arith

-- an instance leaves its hand and is no more
ends_places : (at : Standing) (t : State) (w : ℕ) (p : Path) → w - 1 < length at.scheduler.places → hand_of at.scheduler.places w ≡ Some p → Once at
    → Fewer p at.state.instances t.instances
    → Once (record { state = t; scheduler = with_empty_hand at.scheduler w })
ends_places at t w p there full kept fewer q =
    let a = emptied q at.scheduler.places w p there full in
    let k = kept q in
    let l : once (is_live t.instances q) ≡ once (not (same_path q p) && is_live at.state.instances q) = ap once (fewer.live q) in
    let b = once_but (same_path q p) (is_live at.state.instances q) (omega arith) in
    omega arith

-- a parked instance comes to an empty hand
wakes_places : (t : State) (sched : Scheduler) (w : ℕ) (p : Path) → w - 1 < length sched.places → hand_of sched.places w ≡ None → sched.parked p ≡ true
    → Once (record { state = t; scheduler = sched })
    → Once (record { state = t; scheduler = record { places = with_hand sched.places w (Some p); parked = λ q. not (same_path q p) && sched.parked q } })
wakes_places t sched w p there empty parked kept q =
    let a = given q sched.places w p there empty in
    let k = kept q in
    let f = once_from (same_path q p) (sched.parked q) (λ same. ap sched.parked (same-is q p same) ∙ parked) in
    omega arith

woken_by : (t : State) (sched : Scheduler) (w : ℕ) (p : Path) (a b : Bool) → sched.parked p ≡ a → w - 1 < length sched.places → hand_of sched.places w ≡ None
    → Once (record { state = t; scheduler = sched })
    → Once
    (record {
      state = t;
      scheduler = if a && b then record
          { places = with_hand sched.places w (Some p); parked = λ q. not (same_path q p) && sched.parked q } else sched;
    })
woken_by t sched w p true true e there empty kept = wakes_places t sched w p there empty e kept
woken_by t sched w p true false e there empty kept = kept
woken_by t sched w p false b e there empty kept = kept

woken_places : (t : State) (sched : Scheduler) (w : ℕ) (o : Option Path) → w - 1 < length sched.places → hand_of sched.places w ≡ None
    → Once (record { state = t; scheduler = sched })
    → Once (record { state = t; scheduler = woken t.instances sched w o })
woken_places t sched w None there empty kept = kept
woken_places t sched w (Some p) there empty kept =
    woken_by t sched w p (sched.parked p) (can_go_on t.instances p) refl there empty kept

alike_places : (at : Standing) (t : State) → Once at → Alike at.state.instances t.instances → Once (record { state = t; scheduler = at.scheduler })
alike_places at t kept same q = kept q ∙ ap once (sym (same.live q))

-- an instance leaves its hand for the deque, and its child comes to the hand
pushed_held : (q : Path) (places : List Worker) (w : ℕ) (p c : Path) → w - 1 < length places → hand_of places w ≡ Some p
    → held q (with_hand (with_deque places w (deque_of places w ++ p ∷ [])) w (Some c)) ≡ held q places + once (same_path q c)
pushed_held q places w p c there full =
    let x : Worker = record { hand = hand_of places w; deque = deque_of places w ++ p ∷ [] } in
    let size : length (slice_set places (w - 1) x) ≡ length places = simp length-set in
    let at = seated places w x there in
    let a = seat q places w x there in
    let b = seat q (slice_set places (w - 1) x) w (record { hand = Some c; deque = (worker_at (slice_set places (w - 1) x) w).deque }) (omega arith) in
    let e : times_held q (worker_at (slice_set places (w - 1) x) w) ≡ times_held q x = ap (times_held q) at in
    let d : count_by (same_path q) (worker_at (slice_set places (w - 1) x) w).deque
    ≡ count_by (same_path q) (deque_of places w ++ p ∷ []) = ap (λ (y : Worker). count_by (same_path q) y.deque) at in
    let more = sum_by-append (λ (y : Path). once (same_path q y)) (deque_of places w) (p ∷ []) in
    let last = sum_by-cons (λ (y : Path). once (same_path q y)) p [] in
    let h : once (is_that q (hand_of places w)) ≡ once (same_path q p) = ap (λ (o : Option Path). once (is_that q o)) full in
    omega arith

once_fresh : (a l : Bool) → (a ≡ true → l ≡ false) → once (a || l) ≡ once a + once l
once_fresh true l h = let e = ap once (h refl) in omega arith
once_fresh false l h = omega arith

-- where c is new, it lives once
new_once : (s t : State) (p c : Path) → Family s.instances → More p c s.instances t.instances → (q : Path)
    → once (is_live t.instances q) ≡ once (same_path c q) + once (is_live s.instances q)
new_once s t p c family more q =
    ap once (more.live q)
    ∙ once_fresh (same_path c q) (is_live s.instances q)
    (λ same. ap (is_live s.instances) (sym (same-is c q same)) ∙ fresh p c s.instances t.instances family more)

spawns_places : (at : Standing) (t : State) (w : ℕ) (p c : Path) → w - 1 < length at.scheduler.places → hand_of at.scheduler.places w ≡ Some p → Once at
    → Family at.state.instances → More p c at.state.instances t.instances
    → Once (record { state = t; scheduler = pushed at.scheduler w p c })
spawns_places at t w p c there full kept family more q =
    let a = pushed_held q at.scheduler.places w p c there full in
    let k = kept q in
    let l = new_once at.state t p c family more q in
    let turned : once (same_path c q) ≡ once (same_path q c) = ap once (same-sym c q) in
    omega arith

step_places : (at : Standing) (w : ℕ) (p : Path) (taken : Step) → w - 1 < length at.scheduler.places → hand_of at.scheduler.places w ≡ Some p → Once at
    → Family at.state.instances → Lives at.state p taken → Once (stepped at w p taken)
step_places at w p waits there full kept family lives = kept
step_places at w p parks there full kept family lives = parks_places at w p there full kept
step_places at w p (spawns c t did) there full kept family lives = spawns_places at t w p c there full kept family lives
step_places at w p (goes_on t did) there full kept family lives = alike_places at t kept lives
step_places at w p (ends t did) there full kept family lives =
    let size : length (with_hand at.scheduler.places w None) ≡ length at.scheduler.places = simp length-set in
    woken_places t (with_empty_hand at.scheduler w) w (parent_of p) (omega arith) (hand_emptied at.scheduler.places w there)
    (ends_places at t w p there full kept lives)

hand_places : (program : Labelled) (at : Standing) (w : ℕ) (o : Option Path) → hand_of at.scheduler.places w ≡ o
    → w - 1 < length at.scheduler.places → Once at → Family at.state.instances
    → Once (next_by_hand program at w o)
hand_places program at w None e there kept family = kept
hand_places program at w (Some p) e there kept family =
    step_places at w p (step_of program at.state p) there e kept family (step_lives program at.state p)

-- a deque and its ends
bottom_times : (q : Path) (ps : List Path) → once (is_that q (bottom_of ps)) + count_by (same_path q) (above_bottom ps) ≡ count_by (same_path q) ps
bottom_times q [] = refl
bottom_times q (p ∷ []) = omega (arith, sum_by-cons (λ (x : Path). once (same_path q x)) p [])
bottom_times q (p ∷ r ∷ ps) =
    omega (
      arith,
      bottom_times q (r ∷ ps),
      sum_by-cons (λ (x : Path). once (same_path q x)) p (r ∷ ps),
      sum_by-cons
          (λ (x : Path). once (same_path q x)) p (above_bottom (r ∷ ps)),
    )

top_times : (q : Path) (ps : List Path) → once (is_that q (top_of ps)) + count_by (same_path q) (below_top ps) ≡ count_by (same_path q) ps
top_times q [] = refl
top_times q (p ∷ ps) = sym (sum_by-cons (λ (x : Path). once (same_path q x)) p ps)

popped_held : (q : Path) (places : List Worker) (w : ℕ) → w - 1 < length places → hand_of places w ≡ None
    → held q (with_hand (with_deque places w (above_bottom (deque_of places w))) w (bottom_of (deque_of places w))) ≡ held q places
popped_held q places w there empty =
    let x : Worker = record { hand = hand_of places w; deque = above_bottom (deque_of places w) } in
    let size : length (slice_set places (w - 1) x) ≡ length places = simp length-set in
    let at = seated places w x there in
    let a = seat q places w x there in
    let b = seat q (slice_set places (w - 1) x) w
    (record { hand = bottom_of (deque_of places w); deque = (worker_at (slice_set places (w - 1) x) w).deque }) (omega arith) in
    let c : times_held q (worker_at (slice_set places (w - 1) x) w) ≡ times_held q x = ap (times_held q) at in
    let d : count_by (same_path q) (worker_at (slice_set places (w - 1) x) w).deque
    ≡ count_by (same_path q) (above_bottom (deque_of places w)) = ap (λ (y : Worker). count_by (same_path q) y.deque) at in
    let e = bottom_times q (deque_of places w) in
    let h : once (is_that q (hand_of places w)) ≡ 0 = ap (λ (o : Option Path). once (is_that q o)) empty in
    omega arith

pub beside : (places : List Worker) (v w : ℕ) (x : Worker) → w - 1 ≢ v - 1 → worker_at (slice_set places (v - 1) x) w ≡ worker_at places w
beside places v w x other = get_or-set_other places (v - 1) (w - 1) x no_place other

stolen_held : (q : Path) (places : List Worker) (w v : ℕ) → w - 1 < length places → v - 1 < length places → w - 1 ≢ v - 1 → hand_of places w ≡ None
    → held q (with_hand (with_deque places v (below_top (deque_of places v))) w (top_of (deque_of places v))) ≡ held q places
stolen_held q places w v there victim other empty =
    let x : Worker = record { hand = hand_of places v; deque = below_top (deque_of places v) } in
    let size : length (slice_set places (v - 1) x) ≡ length places = simp length-set in
    let at = beside places v w x other in
    let a = seat q places v x victim in
    let b = seat q (slice_set places (v - 1) x) w
    (record { hand = top_of (deque_of places v); deque = (worker_at (slice_set places (v - 1) x) w).deque }) (omega arith) in
    let c : times_held q (worker_at (slice_set places (v - 1) x) w) ≡ times_held q (worker_at places w) = ap (times_held q) at in
    let d : count_by (same_path q) (worker_at (slice_set places (v - 1) x) w).deque
    ≡ count_by (same_path q) (deque_of places w) = ap (λ (y : Worker). count_by (same_path q) y.deque) at in
    let e = top_times q (deque_of places v) in
    let h : once (is_that q (hand_of places w)) ≡ 0 = ap (λ (o : Option Path). once (is_that q o)) empty in
    omega arith

-- the hand is empty where a pop or a steal is possible
free_deque : (o : Option Path) (ps : List Path) (x : Option Refusal) → (if is_some o || not (is_empty ps) then Some busy else x) ≡ None → ps ≡ []
free_deque None [] x h = refl
free_deque None (p ∷ ps) x h = cc
free_deque (Some q) ps x h = cc

free_hand : (o : Option Path) (b : Bool) (x : Option Refusal) → (if is_some o || b then Some busy else x) ≡ None → o ≡ None
free_hand None b x h = refl
free_hand (Some p) b x h = cc

pub free_pop : (o : Option Path) (x : Option Refusal) → (if is_some o then Some busy else x) ≡ None → o ≡ None
free_pop None x h = refl
free_pop (Some p) x h = cc

pub record Free (places : List Worker) (w v : ℕ) : Type 0 where
  pub victim : is_worker places v ≡ true
  pub other : (v == w) ≡ false
  pub empty : hand_of places w ≡ None
  pub own : deque_of places w ≡ []

free_by : (places : List Worker) (w v : ℕ) (a b : Bool) (x : Option Refusal) → is_worker places v ≡ a → (v == w) ≡ b
    → (if not a || b then Some no_worker else (if is_some (hand_of places w) || not (is_empty (deque_of places w)) then Some busy else x))
    ≡ None → Free places w v
free_by places w v false b x e f h = cc
free_by places w v true true x e f h = cc
free_by places w v true false x e f h =
    record { victim = e; other = f; empty = free_hand (hand_of places w) _ x h; own = free_deque (hand_of places w) (deque_of places w) x h }

pub steal_free : (places : List Worker) (w v : ℕ) → steal_refusal places w v ≡ None → Free places w v
steal_free places w v free = free_by places w v (is_worker places v) (v == w) _ refl refl free

pub apart : (w v : ℕ) → 1 ≤ w → 1 ≤ v → (v ≡ w → ⊥) → w - 1 ≢ v - 1
apart w v a b other = λ (e : w - 1 ≡ v - 1). other (omega arith)

steal_places : (at : Standing) (w v : ℕ) → is_worker at.scheduler.places w ≡ true → steal_refusal at.scheduler.places w v ≡ None → Once at
    → Once (record at { scheduler = stolen at.scheduler w v })
steal_places at w v worker free kept q =
    let f = steal_free at.scheduler.places w v free in
    let a = within at.scheduler.places w worker in
    let b = within at.scheduler.places v f.victim in
    let s = stolen_held q at.scheduler.places w v (omega arith) (omega arith) (apart w v a.0 b.0 (eqb-false v w f.other)) f.empty in
    let k = kept q in
    omega arith

pop_places : (at : Standing) (w : ℕ) → w - 1 < length at.scheduler.places → pop_refusal at.scheduler.places w ≡ None → Once at
    → Once (record at { scheduler = popped at.scheduler w })
pop_places at w there free kept q =
    let s = popped_held q at.scheduler.places w there (free_pop (hand_of at.scheduler.places w) _ free) in
    let k = kept q in
    omega arith

act_places : (program : Labelled) (at : Standing) (w : ℕ) (act : Act) → is_worker at.scheduler.places w ≡ true
    → act_refusal program at w act ≡ None → Once at → Family at.state.instances
    → Once (next_by program at w act)
act_places program at w step worker free kept family =
    let a = within at.scheduler.places w worker in
    hand_places program at w (hand_of at.scheduler.places w) refl (omega arith) kept family
act_places program at w pop worker free kept family =
    let a = within at.scheduler.places w worker in
    pop_places at w (omega arith) free kept
act_places program at w (steal v) worker free kept family = steal_places at w v worker free kept

-- the paths stay apart
fewer_apart : (n : ℕ) (a l : Bool) → n ≡ once l → cond a 0 n ≡ once (not a && l)
fewer_apart n true l h = refl
fewer_apart n false l h = h

step_apart : (s : State) (p : Path) (taken : Step) → PathsAreApart s.instances → Family s.instances → Lives s p taken
    → PathsAreApart (state_after s taken).instances
step_apart s p waits kept family lives = kept
step_apart s p parks kept family lives = kept
step_apart s p (goes_on t did) kept family lives = λ q. lives.times q ∙ kept q ∙ ap once (sym (lives.live q))
step_apart s p (ends t did) kept family lives = λ q.
    lives.times q ∙ fewer_apart (times q s.instances) (same_path q p) (is_live s.instances q) (kept q) ∙ ap once (sym (lives.live q))
step_apart s p (spawns c t did) kept family lives = λ q.
    lives.times q ∙ ap (λ n. once (same_path c q) + n) (kept q) ∙ sym (new_once s t p c family lives q)

-- what is kept of the instances, and where they are
pub record Placed (at : Standing) : Type 0 where
  pub each : Once at
  pub paths : PathsAreApart at.state.instances
  pub family : Family at.state.instances

-- what is kept by a step of the instance in a hand
record Kept (at : Standing) : Type 0 where
  paths : PathsAreApart at.state.instances
  family : Family at.state.instances

hand_kept : (program : Labelled) (at : Standing) (w : ℕ) (o : Option Path) → Placed at → Kept (next_by_hand program at w o)
hand_kept program at w None placed = record { paths = placed.paths; family = placed.family }
hand_kept program at w (Some p) placed =
    let taken = step_of program at.state p in
    let lives = step_lives program at.state p in
    record {
      paths = step_apart at.state p taken placed.paths placed.family lives;
      family = step_family at.state p taken placed.family lives (step_waited program at.state p);
    }

act_kept : (program : Labelled) (at : Standing) (w : ℕ) (act : Act) → Placed at → Kept (next_by program at w act)
act_kept program at w step placed = hand_kept program at w (hand_of at.scheduler.places w) placed
act_kept program at w pop placed = record { paths = placed.paths; family = placed.family }
act_kept program at w (steal v) placed = record { paths = placed.paths; family = placed.family }

pub keeps_places : (program : Labelled) (at : Standing) (choice : Choice) → refusal_of program at choice ≡ None → Placed at → Placed (next_of program at choice)
keeps_places program at choice free placed =
    let p = possible program at choice free in
    let kept = act_kept program at choice.worker choice.act placed in
    record {
      each = act_places program at choice.worker choice.act p.worker p.act placed.each placed.family;
      paths = kept.paths;
      family = kept.family;
    }
