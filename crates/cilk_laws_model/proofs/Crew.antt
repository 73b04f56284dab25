-- There are as many workers at each position as at the opening; of one worker's line one path is the last.
use Rattle.std.proofs.Common.{◌≡◌, ℕ, zero, suc, ◌-◌, Bool, true, false, List, [], ◌∷◌, length, replicate, Option, Some, None, refl, sym, ap, ◌∙◌}
use Rattle.std.proofs.Common.{◌&&◌, not, if◌then◌else◌, arith}
use Rattle.std.specs.Prelude.{slice_index_or}
use Rattle.std.proofs.lemmas.List.{length-replicate, length-set}
use Rattle.cilk_model.specs.labelled.Labelled.{Labelled}
use Rattle.cilk_model.specs.Path.{Path, same_path, parent_of}
use Rattle.cilk_model.specs.State.{Instances}
use Rattle.cilk_model.specs.Pick.{Step, waits, parks, goes_on, ends, spawns, step_of}
use Rattle.cilk_model.specs.Scheduler.{Worker, Scheduler, no_place, hand_of, deque_of, with_hand, with_deque, bottom_of, can_go_on, woken}
use Rattle.cilk_model.specs.Scheduler.{with_empty_hand, after_step}
use Rattle.cilk_model.specs.Choice.{Act, step, pop, steal, Choice}
use Rattle.cilk_model.specs.Run.{Standing, Position, next_by_hand, next_by, after}
use Rattle.cilk_laws_model.specs.Hands.{worker_paths}
use Rattle.cilk_laws_model.specs.Laws.{OneWorkerHasOneLeaf}
use Rattle.cilk_model.proofs.Runs.{at_each}
use Rattle.cilk_laws_model.proofs.Leaves.{each_leaf_is_busy}

pub hand_size : (places : List Worker) (w : ℕ) (o : Option Path) → length (with_hand places w o) ≡ length places
hand_size places w o = length-set places (w - 1) (record { hand = o; deque = deque_of places w })

pub deque_size : (places : List Worker) (w : ℕ) (ps : List Path) → length (with_deque places w ps) ≡ length places
deque_size places w ps = length-set places (w - 1) (record { hand = hand_of places w; deque = ps })

both_sizes : (places : List Worker) (v w : ℕ) (ps : List Path) (o : Option Path) → length (with_hand (with_deque places v ps) w o) ≡ length places
both_sizes places v w ps o = hand_size (with_deque places v ps) w o ∙ deque_size places v ps

woken_size : (instances : Instances) (sched : Scheduler) (w : ℕ) (o : Option Path) → length (woken instances sched w o).places ≡ length sched.places
woken_size instances sched w None = refl
woken_size instances sched w (Some p) = by (sched.parked p && can_go_on instances p)
  where
    by : (b : Bool)
        → length
        (if b then record { places = with_hand sched.places w (Some p); parked = λ q. not (same_path q p) && sched.parked q } else
        sched).places ≡ length sched.places
    by true = hand_size sched.places w (Some p)
    by false = refl

step_size : (sched : Scheduler) (w : ℕ) (p : Path) (taken : Step) → length (after_step sched w p taken).places ≡ length sched.places
step_size sched w p waits = refl
step_size sched w p parks = hand_size sched.places w None
step_size sched w p (goes_on state did) = refl
step_size sched w p (ends state did) =
    woken_size state.instances (with_empty_hand sched w) w (parent_of p) ∙ hand_size sched.places w None
step_size sched w p (spawns child state did) = both_sizes sched.places w w _ (Some child)

hand_step_size : (program : Labelled) (at : Standing) (w : ℕ) (o : Option Path)
    → length (next_by_hand program at w o).scheduler.places ≡ length at.scheduler.places
hand_step_size program at w None = refl
hand_step_size program at w (Some p) = step_size at.scheduler w p (step_of program at.state p)

pub act_size : (program : Labelled) (at : Standing) (w : ℕ) (act : Act) → length (next_by program at w act).scheduler.places ≡ length at.scheduler.places
act_size program at w step = hand_step_size program at w (hand_of at.scheduler.places w)
act_size program at w pop = both_sizes at.scheduler.places w w _ _
act_size program at w (steal v) = both_sizes at.scheduler.places v w _ _

pub crew_stays : (program : Labelled) (n : ℕ) (choices : List Choice) (at : Position) → after program n choices ≡ Some at
    → length at.standing.scheduler.places ≡ n
crew_stays program n choices at h =
    at_each program (λ x. length x.scheduler.places ≡ n) (λ x c free size. act_size program x c.worker c.act ∙ size) n choices at
    (λ main e. hand_size (replicate n no_place) 1 (Some []) ∙ length-replicate n no_place) h

-- of one worker
only : (places : List Worker) (k : ℕ) → length places ≡ 1 → (p : Path) → bottom_of (worker_paths (slice_index_or places k no_place)) ≡ Some p → k ≡ 0
only places zero one p h = refl
only [] (suc k) one p h = absurd (omega (arith, one))
only (x ∷ []) (suc k) one p h = cc
only (x ∷ y ∷ places) (suc k) one p h = absurd (omega (arith, one))

pub one_worker_has_one_leaf : OneWorkerHasOneLeaf
one_worker_has_one_leaf program choices at h p q live childless live_too childless_too =
    let size = crew_stays program 1 choices at h in
    let places = at.standing.scheduler.places in
    let a = each_leaf_is_busy program 1 choices at h p live childless in
    let b = each_leaf_is_busy program 1 choices at h q live_too childless_too in
    let here = only places (a.0 - 1) size p a.1 in
    let there = only places (b.0 - 1) size q b.1 in
    let same : Some p ≡ Some q = sym a.1 ∙ ap (λ k. bottom_of (worker_paths (slice_index_or places k no_place))) (here ∙ sym there) ∙ b.1 in
    cc
