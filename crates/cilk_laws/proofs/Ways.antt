-- Each way in which a live instance may take a step, with all that is known there.
use Rattle.std.proofs.Common.{◌≡◌, ℕ, ℤ, ◌^◌, ◌+◌, ◌-◌, nat_lt, nat_le, Bool, true, false, not, ◌&&◌, ◌||◌, List, [], ◌∷◌, length, Option, Some, None}
use Rattle.std.proofs.Common.{Result, Ok, Err, ◌⊎◌, inl, inr, refl, ap}
use Rattle.std.proofs.lemmas.Bool.{cond_both, and_parts, not-false, not-true}
use Rattle.cilk_laws_model.specs.model.declared.trap.Trap.{Trap}
use Rattle.cilk_laws_model.specs.labelled.Labelled.{Labelled, Numbered}
use Rattle.cilk_laws_model.specs.labelled.Items.{head_of}
use Rattle.cilk_laws_model.specs.model.Values.{Cell, Reached, environment, read_at, combined}
use Rattle.cilk_laws_model.specs.model.Effect.{Effect, writes, answers, enters, gives, starts, writes_out, turns_lock, marks}
use Rattle.cilk_laws_model.specs.model.Path.{Path, child_path}
use Rattle.cilk_laws_model.specs.model.Instance as instance
use Rattle.cilk_laws_model.specs.model.Instance.{Receiver, place, Delivery, Instance}
use Rattle.cilk_laws_model.specs.model.State.{TrapKind, Lock, State, has_live_child, is_synched, store_of, is_empty}
use Rattle.cilk_laws_model.specs.model.Change.{LockTurn, lock_turned, refused, blocked, lock_turn_of, leaves, is_sync, waits_here, head_waits, at_boundary}
use Rattle.cilk_laws_model.specs.model.Change.{ends_thread, holds_lock, leaves_function, resumed, after_write, after_going, after_call}
use Rattle.cilk_laws_model.specs.model.Change.{after_leaving, after_answer, after_start, after_print, after_lock, after_marks, after_return}
use Rattle.cilk_laws_model.specs.model.Change.{after_place, after_inlet, after_abort}
use Rattle.cilk_laws_model.specs.model.Event as event
use Rattle.cilk_laws_model.specs.model.Pick.{Step, waits, parks, goes_on, ends, spawns, traps, if_room, step_by_combined, step_by_answer}
use Rattle.cilk_laws_model.specs.model.Pick.{step_by_leaving, step_by_lock_turn, step_by_effect, step_by_head, step_by_place, step_by_receiver}
use Rattle.cilk_laws_model.specs.model.Pick.{step_at_boundary, step_of_instance}
use Rattle.cilk_laws_model.proofs.Rows.{within_quiet}
use Rattle.cilk_laws.proofs.Effects.{plain, calling, marking, leaving, sort_of, Spawns, TellsSort, told}

-- an instance that is not marked acts its head; where the head waits for the children, none lives and nothing waits
pub record Acting (s : State) (p : Path) (i : Instance) (head : Numbered) : Type 0 where
  pub unmarked : i.aborted ≡ false
  pub first : head_of i.top.items ≡ Some head
  pub quiet : waits_here i head.act ≡ true → is_empty i.waiting ≡ true
  pub childless : waits_here i head.act ≡ true → has_live_child s.instances p ≡ false

-- the oldest delivery is taken, and these others still wait
pub record Taking (i : Instance) (oldest : Delivery) (others : List Delivery) : Type 0 where
  pub unmarked : i.aborted ≡ false
  pub boundary : at_boundary i ≡ true
  pub waits : i.waiting ≡ oldest ∷ others

pub data Way (program : Labelled) (s : State) (p : Path) (i : Instance) : Step → Type 0 where
  resting : i.aborted ≡ false → Way program s p i waits
  parking : (i.aborted ≡ true) ⊎ (is_empty i.below ≡ true) → Way program s p i parks
  ending : i.aborted ≡ true → Way program s p i (ends (after_abort s p) (event.ended p))
  stopping : (n : ℕ) (kind : TrapKind) → i.aborted ≡ false → Way program s p i (traps s p n kind)
  going : (head : Numbered) (z : ℤ) → Acting s p i head → sort_of head.act ≡ plain
      → Way program s p i (goes_on (after_going s p i z) (event.acted p head.number))
  writing : (head : Numbered) (cell : Cell) (z : ℤ) → Acting s p i head → sort_of head.act ≡ plain
      → Way program s p i (goes_on (after_write s p i cell z) (event.acted p head.number))
  entering : (head : Numbered) (awaits : Option Reached) (callee : ℕ) (zs : List ℤ) → Acting s p i head → sort_of head.act ≡ calling callee
      → Way program s p i (goes_on (after_call program s p i awaits callee zs) (event.acted p head.number))
  quitting : (head : Numbered) → Acting s p i head → sort_of head.act ≡ leaving → is_empty i.below ≡ false
      → Way program s p i (goes_on (after_leaving s p i) (event.acted p head.number))
  answering : (head : Numbered) (cell : Cell) (z : ℤ) → Acting s p i head → sort_of head.act ≡ leaving → is_empty i.below ≡ false
      → Way program s p i (goes_on (after_answer s p i cell z) (event.acted p head.number))
  returning : (head : Numbered) (z : ℤ) → Acting s p i head → sort_of head.act ≡ leaving → is_empty i.below ≡ true
      → Way program s p i (ends (after_return s p i z) (event.returned p head.number))
  starting : (head : Numbered) (receiver : Option Receiver) (callee : ℕ) (zs : List ℤ) → Acting s p i head → Spawns head.act receiver
      → Way program s p i
      (spawns (child_path p (i.children + 1)) (after_start program s p i receiver callee zs)
      (event.spawned (child_path p (i.children + 1)) head.number))
  printing : (head : Numbered) (bytes : List ℕ) → Acting s p i head → sort_of head.act ≡ plain
      → Way program s p i (goes_on (after_print s p i bytes) (event.acted p head.number))
  turning_lock : (head : Numbered) (k : ℕ) (now : Lock) → Acting s p i head → sort_of head.act ≡ plain
      → Way program s p i (goes_on (after_lock s p i k now) (event.acted p head.number))
  aborts : (head : Numbered) → Acting s p i head → sort_of head.act ≡ marking → Way program s p i (goes_on (after_marks s p i) (event.acted p head.number))
  placing : (oldest : Delivery) (others : List Delivery) (cell : Cell) (z : ℤ) (n : ℕ) → Taking i oldest others
      → Way program s p i (goes_on (after_place s p i others cell z) (event.delivered oldest.child n))
  letting_in : (oldest : Delivery) (others : List Delivery) (inlet : ℕ) (ys zs : List ℤ) (n : ℕ) → Taking i oldest others
      → oldest.receiver ≡ instance.through inlet ys n
      → Way program s p i (goes_on (after_inlet program s p i others inlet zs) (event.delivered oldest.child n))

-- what does not wait, though it is to wait, has nothing to wait for
ready_by : (w d : Bool) → (w && not d) ≡ false → w ≡ true → d ≡ true
ready_by true d h e = not-false d h
ready_by false d h e = cc

module _ (program : Labelled) (s : State) (p : Path) (i : Instance) where
  abbrev W : Step → Type 0
  W = Way program s p i

  room_way : (n : ℕ) (kind : TrapKind) (b : Bool) (step : Step) → i.aborted ≡ false → W step → W (if_room s p n kind b step)
  room_way n kind true step unmarked h = h
  room_way n kind false step unmarked h = stopping n kind unmarked

  combined_way : (head : Numbered) (cell : Cell) (r : Result ℤ Trap) → Acting s p i head → sort_of head.act ≡ leaving
      → is_empty i.below ≡ false → W (step_by_combined s p i head.number cell r)
  combined_way head cell (Ok y) acting sort above = answering head cell y acting sort above
  combined_way head cell (Err trap) acting sort above = stopping head.number _ acting.unmarked

  answer_way : (head : Numbered) (o : Option Reached) (z : ℤ) → Acting s p i head → sort_of head.act ≡ leaving → is_empty i.below ≡ false
      → W (step_by_answer s p i head.number o z)
  answer_way head None z acting sort above = quitting head acting sort above
  answer_way head (Some reached) z acting sort above =
      combined_way head reached.cell (combined reached.op (read_at (store_of s p (resumed i)) reached.cell) z) acting sort above

  leaving_way : (head : Numbered) (z : ℤ) → Acting s p i head → sort_of head.act ≡ leaving → W (step_by_leaving program s p i head.number z)
  leaving_way head z acting sort = cond_both (is_empty i.below) _ _ W (λ alone. returning head z acting sort alone)
      (λ above. cond_both (leaves_function program i) _ _ W (λ _. answer_way head i.top.awaits z acting sort above) (λ _. quitting head acting sort above))

  lock_turn_way : (head : Numbered) (k : ℕ) (lock_turn : LockTurn) → Acting s p i head → sort_of head.act ≡ plain
      → W (step_by_lock_turn s p i head.number k lock_turn)
  lock_turn_way head k blocked acting sort = resting acting.unmarked
  lock_turn_way head k refused acting sort = stopping head.number _ acting.unmarked
  lock_turn_way head k (lock_turned now) acting sort = turning_lock head k now acting sort

  effect_way : (head : Numbered) → Acting s p i head → (r : Result Effect Trap) → TellsSort head.act r → W (step_by_effect program s p i head.number r)
  effect_way head acting (Err trap) tells = stopping head.number _ acting.unmarked
  effect_way head acting (Ok (writes cell z)) tells = writing head cell z acting tells
  effect_way head acting (Ok (answers z)) tells = going head z acting tells
  effect_way head acting (Ok (enters awaits callee zs)) tells =
      room_way head.number _ (nat_lt (length i.below) 255) _ acting.unmarked (entering head awaits callee zs acting tells)
  effect_way head acting (Ok (gives z)) tells = leaving_way head z acting tells
  effect_way head acting (Ok (starts receiver callee zs)) tells =
      room_way head.number _ (nat_lt (length s.instances) 65536 && nat_lt i.children (2 ^ 32 - 1)) _ acting.unmarked
      (starting head receiver callee zs acting tells)
  effect_way head acting (Ok (writes_out bytes)) tells =
      room_way head.number _ (nat_le (length s.output + length bytes) 1048576) _ acting.unmarked (printing head bytes acting tells)
  effect_way head acting (Ok (turns_lock what k)) tells = lock_turn_way head k (lock_turn_of s p what k) acting tells
  effect_way head acting (Ok marks) tells = aborts head acting tells

  head_way : (o : Option Numbered) → i.aborted ≡ false → head_of i.top.items ≡ o → (head_waits i o ≡ true → is_empty i.waiting ≡ true)
      → W (step_by_head program s p i o)
  head_way None unmarked first quiet = resting unmarked
  head_way (Some head) unmarked first quiet =
      cond_both (ends_thread program i head.act && holds_lock s p) _ _ W (λ _. stopping head.number _ unmarked)
      (λ _. cond_both (waits_here i head.act && not (is_synched s p i)) _ _ W
      (λ stops. parking
      (inr (and_parts (is_empty i.below) (is_sync head.act || leaves head.act)
      (and_parts (waits_here i head.act) (not (is_synched s p i)) stops).0).0))
      (λ ready. effect_way head (record {
        unmarked = unmarked;
        first = first;
        quiet = quiet;
        childless = λ here.
            let synched = ready_by (waits_here i head.act) (is_synched s p i) ready here in
            not-true (has_live_child s.instances p) (and_parts (not (has_live_child s.instances p)) (is_empty i.waiting) synched).0;
      }) _ (told (environment (store_of s p i)) head.number head.act)))

  place_way : (oldest : Delivery) (others : List Delivery) (reached : Reached) (n : ℕ) (r : Result ℤ Trap) → Taking i oldest others
      → W (step_by_place s p i others oldest.child reached n r)
  place_way oldest others reached n (Err trap) taking = stopping n _ taking.unmarked
  place_way oldest others reached n (Ok y) taking = placing oldest others reached.cell y n taking

  receiver_way : (oldest : Delivery) (others : List Delivery) (receiver : Receiver) → oldest.receiver ≡ receiver → Taking i oldest others
      → W (step_by_receiver program s p i others oldest.child oldest.value receiver)
  receiver_way oldest others (place reached n) is taking =
      place_way oldest others reached n (combined reached.op (read_at (store_of s p i) reached.cell) oldest.value) taking
  receiver_way oldest others (instance.through inlet ys n) is taking = letting_in oldest others inlet ys (oldest.value ∷ ys) n taking is

  boundary_way : (ds : List Delivery) → i.aborted ≡ false → i.waiting ≡ ds → at_boundary i ≡ true → W (step_at_boundary program s p i ds)
  boundary_way [] unmarked e boundary = head_way (head_of i.top.items) unmarked refl (λ _. ap is_empty e)
  boundary_way (oldest ∷ others) unmarked e boundary =
      receiver_way oldest others oldest.receiver refl (record { unmarked = unmarked; boundary = boundary; waits = e })

  pub way_of : Way program s p i (step_of_instance program s p i)
  way_of = cond_both i.aborted _ _ W
      (λ aborted. cond_both (has_live_child s.instances p) _ _ W (λ some. parking (inl aborted)) (λ none. ending aborted))
      (λ unmarked. cond_both (at_boundary i) _ _ W (λ boundary. boundary_way i.waiting unmarked refl boundary)
      (λ within. head_way (head_of i.top.items) unmarked refl (within_quiet i (head_of i.top.items) within)))
