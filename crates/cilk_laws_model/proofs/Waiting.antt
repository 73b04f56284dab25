-- Where the program has not ended, some choice is possible, or each full hand waits for a lock.
use Rattle.std.proofs.Common.{◌≡◌, ◌≢◌, ℕ, ◌≤◌, nat_le, Bool, true, false, not, ◌⊎◌, inl, inr, List, [], ◌∷◌, ◌++◌, length, Option, Some, None}
use Rattle.std.proofs.Common.{is_some, refl, sym, ap, ◌∙◌, if◌then◌else◌, arith, append-nil}
use Rattle.std.proofs.lemmas.Bool.{and_from, le-leb}
use Rattle.cilk_model.specs.labelled.Labelled.{Labelled}
use Rattle.cilk_model.specs.labelled.Items.{head_of}
use Rattle.cilk_model.specs.Path.{Path, same_path}
use Rattle.cilk_model.specs.Instance.{Instance}
use Rattle.cilk_model.specs.State.{State, running, instance_at, is_live, is_empty}
use Rattle.cilk_model.specs.Pick.{Step, waits, parks, goes_on, ends, spawns, step_of_live, step_of}
use Rattle.cilk_model.specs.Scheduler.{Worker, worker_at, hand_of, deque_of, bottom_of}
use Rattle.cilk_model.specs.Choice.{Act, step, pop, Refusal, over, no_worker, busy, deque_empty, waiting}
use Rattle.cilk_model.specs.Run.{Standing, is_running, is_worker, waits_now, step_refusal, pop_refusal, act_refusal, refusal_of}
use Rattle.cilk_laws_model.specs.Hands.{in_hand, worker_paths, EachInItsPlace}
use Rattle.cilk_laws_model.specs.Locks.{HoldersLive, WaitsForLock}
use Rattle.cilk_laws_model.specs.Laws.{SomeChoiceIsPossible, StuckOnLocks}
use Rattle.cilk_laws_model.proofs.Entries.{same-self}
use Rattle.cilk_laws_model.proofs.Rows.{Row, headless, locked, parked, stopping, going, writing, calling, leaving, answering, spawning, printing}
use Rattle.cilk_laws_model.proofs.Rows.{turning_lock, marking, returning, placing, taking, aborting, step_row}
use Rattle.cilk_laws_model.proofs.Stuck.{stuck_exactly}
use Rattle.cilk_laws_model.proofs.Kept.{always}
use Rattle.cilk_laws_model.proofs.Leaves.{leaf_is_busy, in_hand_lives}
use Rattle.cilk_laws_model.proofs.Leaf.{some_leaf}
use Rattle.cilk_laws_model.proofs.Heads.{each_has_head}
use Rattle.cilk_laws_model.proofs.Root.{root_lives}
use Rattle.cilk_laws_model.proofs.Locks.{each_holder_lives}

passed : (a b : Bool) (x : Option Refusal) → a ≡ true → b ≡ true → (if not a then Some over else (if not b then Some no_worker else x)) ≡ x
passed true true x e f = refl
passed true false x e f = cc
passed false b x e f = cc

refused_as : (program : Labelled) (at : Standing) (w : ℕ) (act : Act) → at.state.outcome ≡ running → is_worker at.scheduler.places w ≡ true
    → refusal_of program at (record { worker = w; act = act }) ≡ act_refusal program at w act
refused_as program at w act runs worker =
    passed (is_running at.state.outcome) (is_worker at.scheduler.places w) (act_refusal program at w act) (ap is_running runs) worker

-- a worker that has something to do: its hand is full, or it can pop
record HasWork (places : List Worker) : Type 0 where
  worker : ℕ
  is_one : is_worker places worker ≡ true
  work : ((p : Path) × (hand_of places worker ≡ Some p)) ⊎ (pop_refusal places worker ≡ None)

none_last : (ps : List Path) (p : Path) → bottom_of ps ≡ Some p → is_empty ps ≡ false
none_last [] p h = cc
none_last (q ∷ ps) p h = refl

pops : (o : Option Path) (b : Bool) → o ≡ None → b ≡ false → (if is_some o then Some busy else (if b then Some deque_empty else None)) ≡ None
pops None true e f = cc
pops None false e f = refl
pops (Some p) b e f = cc

work_by : (places : List Worker) (w : ℕ) (p : Path) (o : Option Path) → hand_of places w ≡ o → bottom_of (worker_paths (worker_at places w)) ≡ Some p
    → ((p : Path) × (hand_of places w ≡ Some p)) ⊎ (pop_refusal places w ≡ None)
work_by places w p (Some q) e h = inl (q, e)
work_by places w p None e h =
    let line : deque_of places w ++ in_hand (hand_of places w) ≡ deque_of places w = ap (λ o. deque_of places w ++ in_hand o) e
    ∙ append-nil (deque_of places w) in
    inr (pops (hand_of places w) (is_empty (deque_of places w)) e (none_last (deque_of places w) p (sym (ap bottom_of line) ∙ h)))

has_work : (at : Standing) → EachInItsPlace at → is_live at.state.instances [] ≡ true → HasWork at.scheduler.places
has_work at kept root =
    let leaf = some_leaf at.state.instances [] root in
    let busy = leaf_is_busy at kept leaf.0 leaf.1.lives leaf.1.childless in
    let inside = busy.1 in
    let first = busy.2 in
    let within : busy.0 ≤ length at.scheduler.places = omega arith in
    record {
      worker = busy.0;
      is_one =
          and_from (nat_le 1 busy.0) (nat_le busy.0 (length at.scheduler.places)) (le-leb 1 busy.0 first)
          (le-leb busy.0 (length at.scheduler.places) within);
      work = work_by at.scheduler.places busy.0 leaf.0 (hand_of at.scheduler.places busy.0) refl busy.3;
    }

waits_or_not : (taken : Step) → (taken ≡ waits) ⊎ (waits_now taken ≡ None)
waits_or_not waits = inl refl
waits_or_not parks = inr refl
waits_or_not (goes_on t did) = inr refl
waits_or_not (ends t did) = inr refl
waits_or_not (spawns c t did) = inr refl

module _ (program : Labelled) (at : Standing) (runs : at.state.outcome ≡ running) where
  -- the step of a full hand waits, or is possible
  stepping : (w : ℕ) (p : Path) → is_worker at.scheduler.places w ≡ true → hand_of at.scheduler.places w ≡ Some p
      → (step_of program at.state p ≡ waits) ⊎ (refusal_of program at (record { worker = w; act = step }) ≡ None)
  stepping w p worker full =
      let refused = refused_as program at w step runs worker ∙ ap (step_refusal program at.state) full in
      elim (waits_or_not (step_of program at.state p)) [ inl stays ↦ inl stays | inr goes ↦ inr (refused ∙ goes) ]

  waits_as : (w : ℕ) (p : Path) → is_worker at.scheduler.places w ≡ true → hand_of at.scheduler.places w ≡ Some p → step_of program at.state p ≡ waits
      → refusal_of program at (record { worker = w; act = step }) ≡ Some waiting
  waits_as w p worker full stays =
      refused_as program at w step runs worker ∙ ap (step_refusal program at.state) full ∙ ap waits_now stays

pub some_choice : SomeChoiceIsPossible
some_choice program n choices at h runs free =
    let now = at.standing in
    let work = has_work now (always program n choices at h) (root_lives program n choices at h runs) in
    elim work.work [
      | inl full ↦
          elim (stepping program now runs work.worker full.0 work.is_one full.1) [
            | inl stays ↦ absurd (free work.worker (waits_as program now runs work.worker full.0 work.is_one full.1 stays))
            | inr goes ↦ (record { worker = work.worker; act = step }, goes)
          ]
      | inr pops ↦ (record { worker = work.worker; act = pop }, refused_as program now work.worker pop runs work.is_one ∙ pops)
    ]

-- a step that waits is that of a call of a lock
waiting_row : {program : Labelled} {s : State} {p : Path} {i : Instance} {taken : Step} → Row program s p i taken
    → instance_at s.instances p ≡ Some i → HoldersLive s
    → (head_of i.top.items ≢ None) → taken ≡ waits → WaitsForLock s p
waiting_row (headless none) live holders some e = absurd (some none)
waiting_row {p = p} {i = i} (locked head first lock) live holders some e = record {
  instance = i;
  lives = live;
  head = head;
  first = first;
  lock = lock.lock;
  takes = lock.takes;
  holder = lock.by;
  is_held = lock.is_held;
  other = λ same. let both : true ≡ false = sym (same-self p) ∙ ap (λ q. same_path q p) (sym same) ∙ lock.other in cc;
  holder_lives = holders lock.lock lock.by lock.is_held;
}
waiting_row (parked some_child) live holders some e = cc
waiting_row (stopping n kind) live holders some e = cc
waiting_row (going head z heads) live holders some e = cc
waiting_row (writing head cell z heads) live holders some e = cc
waiting_row (calling head awaits callee zs heads room) live holders some e = cc
waiting_row (leaving n) live holders some e = cc
waiting_row (answering n cell z) live holders some e = cc
waiting_row (spawning head receiver callee zs heads few room) live holders some e = cc
waiting_row (printing head bytes heads room) live holders some e = cc
waiting_row (turning_lock head what k now heads becomes) live holders some e = cc
waiting_row (marking head heads) live holders some e = cc
waiting_row (returning n z none lockless unmarked) live holders some e = cc
waiting_row (placing oldest others cell z n takes) live holders some e = cc
waiting_row (taking oldest others inlet zs n takes) live holders some e = cc
waiting_row (aborting aborted none) live holders some e = cc

waits_by : (program : Labelled) (s : State) (p : Path) (o : Option Instance) → instance_at s.instances p ≡ o → is_some o ≡ true → HoldersLive s
    → ((i : Instance) → instance_at s.instances p ≡ Some i → head_of i.top.items ≢ None) → step_of_live program s p o ≡ waits → WaitsForLock s p
waits_by program s p None e live holders some stays = cc
waits_by program s p (Some i) e live holders some stays = waiting_row (step_row program s p i) e holders (some i e) stays

pub stuck_on_locks : StuckOnLocks
stuck_on_locks program fits n choices at h stuck =
    let now = at.standing in
    let refused = (stuck_exactly program now).0 stuck in
    let runs = refused.0 in
    let kept = always program n choices at h in
    let holders = each_holder_lives program n choices at h in
    let each : (w : ℕ) (p : Path) → is_worker now.scheduler.places w ≡ true → hand_of now.scheduler.places w ≡ Some p
    → WaitsForLock now.state p = λ w p worker full.
    elim (stepping program now runs w p worker full) [
      | inl stays ↦
          waits_by program now.state p (instance_at now.state.instances p) refl (in_hand_lives now kept w p worker full) holders
          (λ i live. (each_has_head program fits n choices at h p i live).0) stays
      | inr goes ↦ absurd (refused.1 (record { worker = w; act = step }) goes)
    ] in
    let work = has_work now kept (root_lives program n choices at h runs) in
    elim work.work [
      | inl full ↦ record { each = each; worker = work.worker; is_one = work.is_one; path = full.0; in_hand = full.1 }
      | inr pops ↦ absurd (refused.1 (record { worker = work.worker; act = pop }) (refused_as program now work.worker pop runs work.is_one ∙ pops))
    ]
