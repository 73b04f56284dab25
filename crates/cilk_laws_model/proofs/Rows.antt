-- What a step of a live instance is: one row for each way to go on, with what is known there.
use Rattle.std.proofs.Common.{◌≡◌, ℕ, ℤ, ◌^◌, ◌+◌, ◌-◌, ◌<◌, ◌≤◌, nat_lt, nat_le, Bool, true, false, not, ◌&&◌, ◌||◌, List, [], ◌∷◌, length, Option}
use Rattle.std.proofs.Common.{Some, None, Result, Ok, Err, refl, sym, ap, subst, ◌∙◌, if◌then◌else◌}
use Rattle.std.proofs.lemmas.Bool.{cond_both, and_parts, ltb-true, leb-true, not-false}
use Rattle.cilk_model.specs.syntax.declared.lock_action.LockAction.{LockAction}
use Rattle.cilk_model.specs.syntax.declared.lock_action.LockAction.TheVariants.{Init, Unlock}
use Rattle.cilk_model.specs.syntax.declared.lock_action.LockAction.TheVariants as action
use Rattle.cilk_model.specs.declared.trap.Trap.{Trap}
use Rattle.cilk_model.specs.labelled.Term.{Term}
use Rattle.cilk_model.specs.labelled.Value.{Environment, value_of, values_of, ◌>>=◌}
use Rattle.cilk_model.specs.labelled.Labelled.{Labelled, Numbered, Declaration, Taker, nothing, into, through, Action, assign, call, spawn, print}
use Rattle.cilk_model.specs.labelled.Labelled.{locking, null, break_off, go_round, tests, sync, abort, return_with, return_nothing, close}
use Rattle.cilk_model.specs.labelled.Items.{head_of}
use Rattle.cilk_model.specs.Values.{Cell, Reached, environment, read_at, reached_at, reached_if, combined}
use Rattle.cilk_model.specs.Effect.{Effect, writes, answers, enters, gives, starts, writes_out, turns_lock, marks, start_of, effect_of}
use Rattle.cilk_model.specs.Path.{Path, same_path, child_path}
use Rattle.cilk_model.specs.Instance as instance
use Rattle.cilk_model.specs.Instance.{Receiver, place, Delivery, Instance}
use Rattle.cilk_model.specs.State.{TrapKind, Lock, unset, free, held, State, has_live_child, is_synched, store_of, is_empty, lock_at}
use Rattle.cilk_model.specs.Change.{LockTurn, lock_turned, refused, blocked, lock_turn_by, lock_turn_of, leaves, is_sync, waits_here, head_waits, at_boundary}
use Rattle.cilk_model.specs.Change.{ends_thread, holds_lock, leaves_function, resumed, after_write, after_going, after_call, after_leaving}
use Rattle.cilk_model.specs.Change.{after_answer, after_start, after_print, after_lock, after_marks, after_return, after_place, after_inlet}
use Rattle.cilk_model.specs.Change.{after_abort}
use Rattle.cilk_model.specs.Event as event
use Rattle.cilk_model.specs.Pick.{Step, waits, parks, goes_on, ends, spawns, traps, if_room, step_by_combined, step_by_answer, step_by_leaving}
use Rattle.cilk_model.specs.Pick.{step_by_lock_turn, step_by_effect, step_by_head, step_by_place, step_by_receiver, step_at_boundary, step_of_instance}

-- what an effect tells of its action
abbrev TellsLeaving : Action → Result Effect Trap → Type 0
TellsLeaving act (Ok (gives z)) = leaves act ≡ true
TellsLeaving act (Ok (turns_lock what k)) = act ≡ locking what k
TellsLeaving act (Ok other) = leaves act ≡ false
TellsLeaving act (Err trap) = Unit {0}

told_after : {A : Type 0} (act : Action) (r : Result A Trap) (f : A → Result Effect Trap) → ((x : A) → TellsLeaving act (f x)) → TellsLeaving act (r >>= f)
told_after act (Ok x) f h = h x
told_after act (Err trap) f h = tt

start_told : (env : Environment Declaration) (n : ℕ) (taker : Taker) (callee : ℕ) (es : List (Term Declaration))
    → TellsLeaving (spawn taker callee es) (start_of env n taker callee es)
start_told env n nothing callee es = told_after (spawn nothing callee es) (values_of env es) _ (λ zs. refl)
start_told env n (into what) callee es =
    let act = spawn (into what) callee es in
    told_after act (reached_at env what) _ (λ reached. told_after act (values_of env es) _ (λ zs. refl))
start_told env n (through inlet others) callee es =
    let act = spawn (through inlet others) callee es in
    told_after act (values_of env es) _ (λ zs. told_after act (values_of env others) _ (λ ys. refl))

pub told : (env : Environment Declaration) (n : ℕ) (act : Action) → TellsLeaving act (effect_of env n act)
told env n (assign what e) =
    let act = assign what e in
    told_after act (reached_at env what) _
    (λ r. told_after act (value_of env e) _ (λ z. told_after act (combined r.op (env.cell r.cell.place r.cell.index) z) _ (λ y. refl)))
told env n (call what callee es) =
    let act = call what callee es in
    told_after act (reached_if env what) _ (λ reached. told_after act (values_of env es) _ (λ zs. refl))
told env n (spawn taker callee es) = start_told env n taker callee es
told env n (print format es) = told_after (print format es) (values_of env es) _ (λ zs. refl)
told env n (locking what lock) = refl
told env n null = refl
told env n break_off = refl
told env n go_round = refl
told env n (tests e) = told_after (tests e) (value_of env e) _ (λ z. refl)
told env n sync = refl
told env n abort = refl
told env n (return_with e) = told_after (return_with e) (value_of env e) _ (λ z. refl)
told env n return_nothing = refl
told env n close = refl

-- a lock that p has to wait for: it is another's
pub record WaitsFor (s : State) (p : Path) (act : Action) : Type 0 where
  pub lock : ℕ
  pub takes : act ≡ locking action.Lock lock
  pub by : Path
  pub is_held : lock_at s lock ≡ held by
  pub other : same_path by p ≡ false

-- the head is acted, and the body is not left
pub record Heads (i : Instance) (head : Numbered) : Type 0 where
  pub first : head_of i.top.items ≡ Some head
  pub stays : leaves head.act ≡ false

-- the oldest delivery is taken, and these others still wait
pub record Takes (i : Instance) (oldest : Delivery) (others : List Delivery) : Type 0 where
  pub waits : i.waiting ≡ oldest ∷ others
  pub boundary : at_boundary i ≡ true
  pub alone : is_empty i.below ≡ true

pub data Row (program : Labelled) (s : State) (p : Path) (i : Instance) : Step → Type 0 where
  headless : head_of i.top.items ≡ None → Row program s p i waits
  locked : (head : Numbered) → head_of i.top.items ≡ Some head → WaitsFor s p head.act → Row program s p i waits
  parked : has_live_child s.instances p ≡ true → Row program s p i parks
  stopping : (n : ℕ) (kind : TrapKind) → Row program s p i (traps s p n kind)
  going : (head : Numbered) (z : ℤ) → Heads i head → Row program s p i (goes_on (after_going s p i z) (event.acted p head.number))
  writing : (head : Numbered) (cell : Cell) (z : ℤ) → Heads i head → Row program s p i (goes_on (after_write s p i cell z) (event.acted p head.number))
  calling : (head : Numbered) (awaits : Option Reached) (callee : ℕ) (zs : List ℤ) → Heads i head → length i.below < 255
      → Row program s p i (goes_on (after_call program s p i awaits callee zs) (event.acted p head.number))
  leaving : (n : ℕ) → Row program s p i (goes_on (after_leaving s p i) (event.acted p n))
  answering : (n : ℕ) (cell : Cell) (z : ℤ) → Row program s p i (goes_on (after_answer s p i cell z) (event.acted p n))
  spawning : (head : Numbered) (receiver : Option Receiver) (callee : ℕ) (zs : List ℤ) → Heads i head
      → length s.instances < 65536 → i.children < 2 ^ 32 - 1
      → Row program s p i
      (spawns (child_path p (i.children + 1)) (after_start program s p i receiver callee zs)
      (event.spawned (child_path p (i.children + 1)) head.number))
  printing : (head : Numbered) (bytes : List ℕ) → Heads i head → length s.output + length bytes ≤ 1048576
      → Row program s p i (goes_on (after_print s p i bytes) (event.acted p head.number))
  turning_lock : (head : Numbered) (what : LockAction) (k : ℕ) (now : Lock) → Heads i head → lock_turn_of s p what k ≡ lock_turned now
      → Row program s p i (goes_on (after_lock s p i k now) (event.acted p head.number))
  marking : (head : Numbered) → Heads i head → Row program s p i (goes_on (after_marks s p i) (event.acted p head.number))
  returning : (n : ℕ) (z : ℤ) → has_live_child s.instances p ≡ false → holds_lock s p ≡ false → i.aborted ≡ false
      → Row program s p i (ends (after_return s p i z) (event.returned p n))
  placing : (oldest : Delivery) (others : List Delivery) (cell : Cell) (z : ℤ) (n : ℕ) → Takes i oldest others
      → Row program s p i (goes_on (after_place s p i others cell z) (event.delivered oldest.child n))
  taking : (oldest : Delivery) (others : List Delivery) (inlet : ℕ) (zs : List ℤ) (n : ℕ) → Takes i oldest others
      → Row program s p i (goes_on (after_inlet program s p i others inlet zs) (event.delivered oldest.child n))
  aborting : i.aborted ≡ true → has_live_child s.instances p ≡ false → Row program s p i (ends (after_abort s p) (event.ended p))

blocked_by : (s : State) (p : Path) (k : ℕ) (what : LockAction) (lock : Lock) → lock_at s k ≡ lock → lock_turn_by p what lock ≡ blocked
    → WaitsFor s p (locking what k)
blocked_by s p k Init unset e h = cc
blocked_by s p k Init free e h = cc
blocked_by s p k Init (held q) e h = cc
blocked_by s p k Unlock unset e h = cc
blocked_by s p k Unlock free e h = cc
blocked_by s p k Unlock (held q) e h = absurd (by (same_path q p) h)
  where
    by : (b : Bool) → (if b then lock_turned free else refused) ≡ blocked → ⊥
    by true h = cc
    by false h = cc
blocked_by s p k action.Lock unset e h = cc
blocked_by s p k action.Lock free e h = cc
blocked_by s p k action.Lock (held q) e h =
    record { lock = k; takes = refl; by = q; is_held = e; other = by (same_path q p) h }
  where
    by : (b : Bool) → (if b then refused else blocked) ≡ blocked → b ≡ false
    by true h = cc
    by false h = refl

childless_by : (h e : Bool) → (not h && e) ≡ true → h ≡ false
childless_by true e h = cc
childless_by false e h = refl

child_by : (h e : Bool) → (not h && e) ≡ false → e ≡ true → h ≡ true
child_by true e h f = refl
child_by false e h f = let both : true ≡ false = sym f ∙ h in cc

-- what does not wait, though it is to wait, has nothing to wait for
synched_by : (a b c d : Bool) → ((a && (b || c)) && not d) ≡ false → a ≡ true → c ≡ true → d ≡ true
synched_by true true true d h e f = not-false d h
synched_by true false true d h e f = not-false d h
synched_by true b false d h e f = cc
synched_by false b c d h e f = cc

both_true : (a d : Bool) → (a && not d) ≡ true → (a ≡ true) × (d ≡ false)
both_true true true h = cc
both_true true false h = (refl, refl)
both_true false d h = cc

-- what waits here waits at a boundary
at_one : (a b c : Bool) → (a && c) ≡ true → (a && (b || (a && c))) ≡ false → ⊥
at_one true true c e h = cc
at_one true false c e h = let both : true ≡ false = sym e ∙ h in cc
at_one false b c e h = cc

pub within_quiet : (i : Instance) (o : Option Numbered) → (is_empty i.below && (i.spawned || head_waits i o)) ≡ false → head_waits i o ≡ true
    → is_empty i.waiting ≡ true
within_quiet i None within here = cc
within_quiet i (Some head) within here = absurd (at_one (is_empty i.below) i.spawned (is_sync head.act || leaves head.act) here within)

-- where a thread ends, no lock is held
lockless_by : (a b c d e h : Bool) → ((a || (b || (c && (d || e)))) && h) ≡ false → c ≡ true → d ≡ true → h ≡ false
lockless_by true b c d e h k f g = k
lockless_by false true c d e h k f g = k
lockless_by false false true true e h k f g = k
lockless_by false false true false e h k f g = cc
lockless_by false false false d e h k f g = cc

module _ (program : Labelled) (s : State) (p : Path) (i : Instance) where
  room_row : (n : ℕ) (kind : TrapKind) (b : Bool) (step : Step) → (b ≡ true → Row program s p i step) → Row program s p i (if_room s p n kind b step)
  room_row n kind true step h = h refl
  room_row n kind false step h = stopping n kind

  combined_row : (n : ℕ) (cell : Cell) (r : Result ℤ Trap) → Row program s p i (step_by_combined s p i n cell r)
  combined_row n cell (Ok y) = answering n cell y
  combined_row n cell (Err trap) = stopping n _

  answer_row : (n : ℕ) (o : Option Reached) (z : ℤ) → Row program s p i (step_by_answer s p i n o z)
  answer_row n None z = leaving n
  answer_row n (Some reached) z =
      combined_row n reached.cell (combined reached.op (read_at (store_of s p (resumed i)) reached.cell) z)

  leaving_row : (n : ℕ) (z : ℤ) → i.aborted ≡ false → (is_empty i.below ≡ true → (has_live_child s.instances p ≡ false) × (holds_lock s p ≡ false))
      → Row program s p i (step_by_leaving program s p i n z)
  leaving_row n z unmarked none = cond_both (is_empty i.below) _ _ (Row program s p i) (λ alone. let idle = none alone in returning n z idle.0 idle.1 unmarked)
      (λ _. cond_both (leaves_function program i) _ _ (Row program s p i) (λ _. answer_row n i.top.awaits z) (λ _. leaving n))

  lock_turn_row : (head : Numbered) (what : LockAction) (k : ℕ) → head_of i.top.items ≡ Some head → head.act ≡ locking what k → (lock_turn : LockTurn)
      → lock_turn_of s p what k ≡ lock_turn
      → Row program s p i (step_by_lock_turn s p i head.number k lock_turn)
  lock_turn_row head what k first is blocked e =
      locked head first (subst (WaitsFor s p) (sym is) (blocked_by s p k what (lock_at s k) refl e))
  lock_turn_row head what k first is refused e = stopping head.number _
  lock_turn_row head what k first is (lock_turned now) e =
      turning_lock head what k now (record { first = first; stays = ap leaves is }) e

  effect_row : (head : Numbered) → i.aborted ≡ false → head_of i.top.items ≡ Some head
      → (ends_thread program i head.act && holds_lock s p) ≡ false → (waits_here i head.act && not (is_synched s p i)) ≡ false
      → (r : Result Effect Trap) → TellsLeaving head.act r → Row program s p i (step_by_effect program s p i head.number r)
  effect_row head unmarked first lockless ready (Err trap) tells = stopping head.number _
  effect_row head unmarked first lockless ready (Ok (writes cell z)) tells = writing head cell z (record { first = first; stays = tells })
  effect_row head unmarked first lockless ready (Ok (answers z)) tells = going head z (record { first = first; stays = tells })
  effect_row head unmarked first lockless ready (Ok (enters awaits callee zs)) tells =
      room_row head.number _ (nat_lt (length i.below) 255) _
      (λ room. calling head awaits callee zs (record { first = first; stays = tells }) (ltb-true (length i.below) 255 room))
  effect_row head unmarked first lockless ready (Ok (gives z)) tells =
      leaving_row head.number z unmarked (λ alone. (
        childless_by (has_live_child s.instances p) (is_empty i.waiting)
            (synched_by (is_empty i.below) (is_sync head.act) (leaves head.act) (is_synched s p i) ready alone tells),
        lockless_by (is_sync head.act) _ (leaves head.act) (is_empty i.below) _ (holds_lock s p) lockless tells alone,
      ))
  effect_row head unmarked first lockless ready (Ok (starts receiver callee zs)) tells =
      room_row head.number _ (nat_lt (length s.instances) 65536 && nat_lt i.children (2 ^ 32 - 1)) _
      (λ room. let parts = and_parts (nat_lt (length s.instances) 65536) (nat_lt i.children (2 ^ 32 - 1)) room in
      spawning head receiver callee zs (record { first = first; stays = tells }) (ltb-true (length s.instances) 65536 parts.0)
      (ltb-true i.children (2 ^ 32 - 1) parts.1))
  effect_row head unmarked first lockless ready (Ok (writes_out bytes)) tells =
      room_row head.number _ (nat_le (length s.output + length bytes) 1048576) _
      (λ room. printing head bytes (record { first = first; stays = tells }) (leb-true (length s.output + length bytes) 1048576 room))
  effect_row head unmarked first lockless ready (Ok (turns_lock what k)) tells = lock_turn_row head what k first tells (lock_turn_of s p what k) refl
  effect_row head unmarked first lockless ready (Ok marks) tells = marking head (record { first = first; stays = tells })

  head_row : (o : Option Numbered) → i.aborted ≡ false → head_of i.top.items ≡ o → (head_waits i o ≡ true → is_empty i.waiting ≡ true)
      → Row program s p i (step_by_head program s p i o)
  head_row None unmarked first quiet = headless first
  head_row (Some head) unmarked first quiet =
      cond_both (ends_thread program i head.act && holds_lock s p) _ _ (Row program s p i) (λ _. stopping head.number _)
      (λ lockless. cond_both (waits_here i head.act && not (is_synched s p i)) _ _ (Row program s p i)
      (λ stops. let parts = both_true (waits_here i head.act) (is_synched s p i) stops
      in parked (child_by (has_live_child s.instances p) (is_empty i.waiting) parts.1 (quiet parts.0)))
      (λ ready. effect_row head unmarked first lockless ready _ (told (environment (store_of s p i)) head.number head.act)))

  place_row : (oldest : Delivery) (others : List Delivery) (reached : Reached) (n : ℕ) (r : Result ℤ Trap) → Takes i oldest others
      → Row program s p i (step_by_place s p i others oldest.child reached n r)
  place_row oldest others reached n (Err trap) takes = stopping n _
  place_row oldest others reached n (Ok y) takes = placing oldest others reached.cell y n takes

  receiver_row : (oldest : Delivery) (others : List Delivery) (receiver : Receiver) → Takes i oldest others
      → Row program s p i (step_by_receiver program s p i others oldest.child oldest.value receiver)
  receiver_row oldest others (place reached n) takes =
      place_row oldest others reached n (combined reached.op (read_at (store_of s p i) reached.cell) oldest.value) takes
  receiver_row oldest others (instance.through inlet ys n) takes = taking oldest others inlet (oldest.value ∷ ys) n takes

  boundary_row : (ds : List Delivery) → i.aborted ≡ false → i.waiting ≡ ds → at_boundary i ≡ true → Row program s p i (step_at_boundary program s p i ds)
  boundary_row [] unmarked e boundary = head_row (head_of i.top.items) unmarked refl (λ _. ap is_empty e)
  boundary_row (oldest ∷ others) unmarked e boundary =
      receiver_row oldest others oldest.receiver (record { waits = e; boundary = boundary; alone = (and_parts (is_empty i.below) _ boundary).0 })

  pub step_row : Row program s p i (step_of_instance program s p i)
  step_row = cond_both i.aborted _ _ (Row program s p i)
      (λ aborted. cond_both (has_live_child s.instances p) _ _ (Row program s p i) (λ some. parked some) (λ none. aborting aborted none))
      (λ unmarked. cond_both (at_boundary i) _ _ (Row program s p i) (λ boundary. boundary_row i.waiting unmarked refl boundary)
      (λ within. head_row (head_of i.top.items) unmarked refl (within_quiet i (head_of i.top.items) within)))
