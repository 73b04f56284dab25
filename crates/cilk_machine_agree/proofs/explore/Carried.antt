-- What the workers have is carried to other places: a choice of the workers there leads to what is carried from where it led.
use Rattle.std.proofs.Common.{◌≡◌, ℕ, ◌-◌, Bool, true, false, not, ◌&&◌, ◌||◌, nat_le, List, [], ◌∷◌, ◌++◌, length, Option, Some, None, is_some, refl, ap, ◌∙◌}
use Rattle.std.proofs.Common.{if◌then◌else◌, slice_set}
use Rattle.cilk_machine_agree.specs.labelled.Labelled.{Labelled}
use Rattle.cilk_machine_agree.specs.model.Path.{Path, same_path, parent_of}
use Rattle.cilk_machine_agree.specs.model.State.{State, is_empty}
use Rattle.cilk_machine_agree.specs.model.Pick.{Step, waits, parks, goes_on, ends, spawns, step_of}
use Rattle.cilk_machine_agree.specs.model.Scheduler.{Worker, Scheduler, worker_at, hand_of, deque_of, with_hand, with_deque, top_of, below_top, bottom_of}
use Rattle.cilk_machine_agree.specs.model.Scheduler.{above_bottom, can_go_on, woken, with_empty_hand}
use Rattle.cilk_machine_agree.specs.model.Choice.{step, pop, steal, Refusal, no_worker, busy, deque_empty}
use Rattle.cilk_machine_agree.specs.model.Run.{Standing, is_worker, stepped, next_by_hand, next_by}
use Rattle.cilk_machine_agree.proofs.runs_laws.Crew.{hand_size, deque_size}

-- all but the places is equal
abbrev pub standing_of : State → (Path → Bool) → List Worker → Standing
standing_of state parked places = record { state = state; scheduler = record { places = places; parked = parked } }

-- what decides on a steal: whether there is such a victim, whether it is the worker, and what both have
abbrev pub stealing : Bool → Bool → Worker → Worker → Option Refusal
stealing victim same own other =
    if not victim || same then Some no_worker
    else (if is_some own.hand || not (is_empty own.deque) then Some busy
    else (if is_empty other.deque then Some deque_empty
    else None))

-- a parked instance comes to the hand, if it can
abbrev waking : Path → Bool → Scheduler → ℕ → Scheduler
waking q x sched w =
    if x then record { places = with_hand sched.places w (Some q); parked = λ r. not (same_path r q) && sched.parked r } else sched

-- what decides on a pop
abbrev pub popping : Worker → Option Refusal
popping own = if is_some own.hand then Some busy else (if is_empty own.deque then Some deque_empty else None)

module _ (n : ℕ) (carry : List Worker → List Worker) (number : ℕ → ℕ)
    (reads : (ps : List Worker) (w : ℕ) → length ps ≡ n → is_worker ps w ≡ true → worker_at (carry ps) (number w) ≡ worker_at ps w)
    (writes : (ps : List Worker) (w : ℕ) (x : Worker) → length ps ≡ n → is_worker ps w ≡ true
    → slice_set (carry ps) (number w - 1) x ≡ carry (slice_set ps (w - 1) x)) where
  abbrev pub carried : Standing → Standing
  carried at = record at { scheduler = record at.scheduler { places = carry at.scheduler.places } }

  pub hand_carried : (ps : List Worker) (w : ℕ) (h : Option Path) → length ps ≡ n → is_worker ps w ≡ true
      → with_hand (carry ps) (number w) h ≡ carry (with_hand ps w h)
  hand_carried ps w h size worker =
      ap (λ (x : Worker). slice_set (carry ps) (number w - 1) (record { hand = h; deque = x.deque })) (reads ps w size worker)
      ∙ writes ps w (record { hand = h; deque = deque_of ps w }) size worker

  deque_carried : (ps : List Worker) (w : ℕ) (d : List Path) → length ps ≡ n → is_worker ps w ≡ true
      → with_deque (carry ps) (number w) d ≡ carry (with_deque ps w d)
  deque_carried ps w d size worker =
      ap (λ (x : Worker). slice_set (carry ps) (number w - 1) (record { hand = x.hand; deque = d })) (reads ps w size worker)
      ∙ writes ps w (record { hand = hand_of ps w; deque = d }) size worker

  -- the deque of one worker, and then the hand of one
  both_carried : (ps : List Worker) (v w : ℕ) (d : List Path) (h : Option Path) → length ps ≡ n → is_worker ps v ≡ true → is_worker ps w ≡ true
      → with_hand (with_deque (carry ps) (number v) d) (number w) h ≡ carry (with_hand (with_deque ps v d) w h)
  both_carried ps v w d h size victim worker =
      ap (λ (qs : List Worker). with_hand qs (number w) h) (deque_carried ps v d size victim)
      ∙ hand_carried (with_deque ps v d) w h (deque_size ps v d ∙ size) (ap (λ m. nat_le 1 w && nat_le w m) (deque_size ps v d) ∙ worker)

  -- the hand is emptied, and then filled
  filled_carried : (ps : List Worker) (w : ℕ) (h : Option Path) → length ps ≡ n → is_worker ps w ≡ true
      → with_hand (with_hand (carry ps) (number w) None) (number w) h ≡ carry (with_hand (with_hand ps w None) w h)
  filled_carried ps w h size worker =
      ap (λ (qs : List Worker). with_hand qs (number w) h) (hand_carried ps w None size worker)
      ∙ hand_carried (with_hand ps w None) w h (hand_size ps w None ∙ size) (ap (λ m. nat_le 1 w && nat_le w m) (hand_size ps w None) ∙ worker)

  module _ (program : Labelled) (at : Standing) (w : ℕ) (size : length at.scheduler.places ≡ n) (worker : is_worker at.scheduler.places w ≡ true) where
    abbrev ps : List Worker
    ps = at.scheduler.places

    wakes_carried : (t : State) (q : Path) (x : Bool)
        → record { state = t; scheduler = waking q x (with_empty_hand (carried at).scheduler (number w)) (number w) }
        ≡ carried (record { state = t; scheduler = waking q x (with_empty_hand at.scheduler w) w })
    wakes_carried t q true = ap (standing_of t (λ r. not (same_path r q) && at.scheduler.parked r)) (filled_carried ps w (Some q) size worker)
    wakes_carried t q false = ap (standing_of t at.scheduler.parked) (hand_carried ps w None size worker)

    woken_carried : (t : State) (o : Option Path)
        → record { state = t; scheduler = woken t.instances (with_empty_hand (carried at).scheduler (number w)) (number w) o }
        ≡ carried (record { state = t; scheduler = woken t.instances (with_empty_hand at.scheduler w) w o })
    woken_carried t None = ap (standing_of t at.scheduler.parked) (hand_carried ps w None size worker)
    woken_carried t (Some q) = wakes_carried t q (at.scheduler.parked q && can_go_on t.instances q)

    taken_carried : (p : Path) (taken : Step) → stepped (carried at) (number w) p taken ≡ carried (stepped at w p taken)
    taken_carried p waits = refl
    taken_carried p parks = ap (standing_of at.state (λ q. same_path q p || at.scheduler.parked q)) (hand_carried ps w None size worker)
    taken_carried p (goes_on t did) = refl
    taken_carried p (ends t did) = woken_carried t (parent_of p)
    taken_carried p (spawns c t did) =
        ap (λ (x : Worker). standing_of t at.scheduler.parked (with_hand (with_deque (carry ps) (number w) (x.deque ++ p ∷ [])) (number w) (Some c)))
        (reads ps w size worker)
        ∙ ap (standing_of t at.scheduler.parked) (both_carried ps w w (deque_of ps w ++ p ∷ []) (Some c) size worker worker)

    hand_next : (o : Option Path) → next_by_hand program (carried at) (number w) o ≡ carried (next_by_hand program at w o)
    hand_next None = refl
    hand_next (Some p) = taken_carried p (step_of program at.state p)

    pub step_carried : next_by program (carried at) (number w) step ≡ carried (next_by program at w step)
    step_carried =
        ap (λ (x : Worker). next_by_hand program (carried at) (number w) x.hand) (reads ps w size worker) ∙ hand_next (hand_of ps w)

    pub pop_carried : next_by program (carried at) (number w) pop ≡ carried (next_by program at w pop)
    pop_carried =
        ap
        (λ (x : Worker). standing_of at.state at.scheduler.parked
        (with_hand (with_deque (carry ps) (number w) (above_bottom x.deque)) (number w) (bottom_of x.deque)))
        (reads ps w size worker)
        ∙ ap (standing_of at.state at.scheduler.parked)
        (both_carried ps w w (above_bottom (deque_of ps w)) (bottom_of (deque_of ps w)) size worker worker)

    pub steal_carried : (v : ℕ) → is_worker ps v ≡ true
        → next_by program (carried at) (number w) (steal (number v)) ≡ carried (next_by program at w (steal v))
    steal_carried v victim =
        ap
        (λ (x : Worker). standing_of at.state at.scheduler.parked
        (with_hand (with_deque (carry ps) (number v) (below_top x.deque)) (number w) (top_of x.deque)))
        (reads ps v size victim)
        ∙ ap (standing_of at.state at.scheduler.parked)
        (both_carried ps v w (below_top (deque_of ps v)) (top_of (deque_of ps v)) size victim worker)
