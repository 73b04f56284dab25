-- Where an instance does not step, the written rule allows it no step.
use Rattle.std.proofs.Common.{◌≡◌, ℕ, ◌+◌, ℤ, Bool, true, false, not, ◌&&◌, ◌||◌, List, [], ◌∷◌, ◌++◌, length, nat_lt, nat_le, Option, Some}
use Rattle.std.proofs.Common.{None, Result, Ok, Err, refl, sym, ap, subst, ◌∙◌, if◌then◌else◌}
use Rattle.std.proofs.lemmas.Bool.{cond_both, and_parts, and_from}
use Rattle.cilk_model.specs.declared.trap.Trap.{Trap}
use Rattle.cilk_model.specs.labelled.Labelled.{Labelled, Action}
use Rattle.cilk_model.specs.labelled.Items.{head_of}
use Rattle.cilk_model.specs.Values.{Reached}
use Rattle.cilk_model.specs.Effect.{Effect, writes, answers, enters, gives, starts, writes_out, turns_lock, marks, effect_of}
use Rattle.cilk_model.specs.Path.{Path, child_path}
use Rattle.cilk_model.specs.Instance.{Activation, Receiver, place, through, Delivery, Instance}
use Rattle.cilk_model.specs.State.{TrapKind, depth, instances, output, State, instance_at, has_live_child, is_empty, is_synched, lock_at}
use Rattle.cilk_model.specs.Event as event
use Rattle.cilk_model.specs.Event.{Event}
use Rattle.cilk_model.specs.Change.{after_abort, after_call, after_start, after_print, leaves, is_sync, leaves_function, waits_here}
use Rattle.cilk_model.specs.Change.{at_boundary, LockTurn, lock_turned, refused, blocked, lock_turn_by}
use Rattle.cilk_model.specs.Written.{AtBoundary, Free}
use Rattle.cilk_model.specs.Fails as fails
use Rattle.cilk_model.specs.Fails.{here, MayLeave, HasNoValue, Fails}
use Rattle.cilk_model.specs.WrittenRule as rule
use Rattle.cilk_model.specs.WrittenRule.{Bare, Acts, Steps}
use Rattle.cilk_model.specs.Pick.{parks, goes_on, ends, spawns, if_room, step_by_combined, step_by_answer, step_by_leaving, step_by_lock_turn}
use Rattle.cilk_model.specs.Pick.{step_by_effect, step_by_head, step_by_place, step_by_receiver, step_at_boundary, step_of_aborted}
use Rattle.cilk_model.specs.Pick.{step_of_live}
use Rattle.cilk_laws_model.specs.Forced.{Stays, AbortedParent, EachWaitIsForced}
use Rattle.cilk_laws_model.proofs.LockForms.{holds_seen}
use Rattle.cilk_laws_model.proofs.Forms.{FitsLockTurn, FitsEffect, Fits, held_at, thread_ends, acts_fit}
use Rattle.cilk_laws_model.proofs.Boundaries.{bounds}

none_there : {A : Type 0} (xs ys : List A) (x : A) → [] ≡ xs ++ x ∷ ys → ⊥
none_there [] ys x e = cc
none_there (y ∷ xs) ys x e = cc

module _ (program : Labelled) (s : State) (p : Path) (i : Instance) where
  -- what waits for the children acts only where it need not
  leave_free : i.below ≡ [] → MayLeave program s p i → Free s p i
  leave_free alone (fails.of_procedure e whole) = whole
  leave_free alone (fails.of_inlet inside none) = absurd (inside.above alone)
  leave_free alone (fails.of_function inside) = absurd (inside.above alone)

  no_value_free : (act : Action) (trap : Trap) → HasNoValue program s p i trap act → (is_sync act || leaves act) ≡ true → i.below ≡ [] → Free s p i
  no_value_free act trap (fails.of_place what e is) h alone = cc
  no_value_free act trap (fails.of_right_side what e reached is value) h alone = cc
  no_value_free act trap (fails.of_operator what e reached z is value comes) h alone = cc
  no_value_free act trap (fails.of_call_place what callee es is) h alone = cc
  no_value_free act trap (fails.of_call_argument what callee es reached is are) h alone = cc
  no_value_free act trap (fails.of_spawn_place taker callee es none is) h alone = cc
  no_value_free act trap (fails.of_spawn_argument taker callee es reached none is are) h alone = cc
  no_value_free act trap (fails.of_inlet_argument taker callee es reached zs none is are others) h alone = cc
  no_value_free act trap (fails.of_print_argument format es are) h alone = cc
  no_value_free act trap (fails.of_test e is) h alone = cc
  no_value_free act trap (fails.of_result e leave is) h alone = leave_free alone leave

  fails_free : (act : Action) (kind : TrapKind) → Fails program s p i act kind → (is_sync act || leaves act) ≡ true → i.below ≡ []
      → held_at program s p i act ≡ false → Free s p i
  fails_free act kind (fails.has_no_value a trap none) h alone unheld = no_value_free a trap none h alone
  fails_free act kind (fails.holds_lock a ending holding) h alone unheld =
      let both : true ≡ false = sym (and_from _ _ (thread_ends program s p i a ending) (holds_seen s p holding)) ∙ unheld in cc
  fails_free act kind (fails.may_not what k none) h alone unheld = cc
  fails_free act kind (fails.too_deep what callee es reached zs is are deep) h alone unheld = cc
  fails_free act kind (fails.too_many taker callee es reached zs ys none is are others many) h alone unheld = cc
  fails_free act kind (fails.too_long format es zs are long) h alone unheld = cc
  fails_free act kind (fails.of_caller a z trap caller below reached inside given is awaits comes) h alone unheld = absurd (inside.above alone)

  bare_free : (act : Action) (t : State) → Bare program s p i t act → (is_sync act || leaves act) ≡ true → Free s p i
  bare_free act t rule.null_is h = cc
  bare_free act t rule.break_is h = cc
  bare_free act t rule.continue_is h = cc

  acts_free : (n : ℕ) (act : Action) (t : State) → Acts program s p i t n act → (is_sync act || leaves act) ≡ true → i.below ≡ []
      → held_at program s p i act ≡ false → Free s p i
  acts_free n act t (rule.assigns what e reached z y is value comes g) h alone unheld = cc
  acts_free n act t (rule.goes_by a bare g) h alone unheld = bare_free a t bare h
  acts_free n act t (rule.answers_test e z is g) h alone unheld = cc
  acts_free n act t (rule.calls what callee es reached zs is are g) h alone unheld = cc
  acts_free n act t (rule.leaves_function a z caller below inside given is g) h alone unheld = absurd (inside.above alone)
  acts_free n act t (rule.leaves_inlet a z caller below inside none given is g) h alone unheld = absurd (inside.above alone)
  acts_free n act t (rule.leaves_procedure a z e whole given g) h alone unheld = whole
  acts_free n act t (rule.spawns taker callee es reached zs ys receiver none is are others receives g) h alone unheld = cc
  acts_free n act t (rule.passes (fails.in_procedure e whole) g) h alone unheld = whole
  acts_free n act t (rule.passes (fails.elsewhere above none) g) h alone unheld = absurd (above alone)
  acts_free n act t (rule.marks g) h alone unheld = cc
  acts_free n act t (rule.locks what k g) h alone unheld = cc
  acts_free n act t (rule.prints format es zs are few g still) h alone unheld = cc
  acts_free n act t (rule.traps a kind g trapped) h alone unheld = fails_free a kind g h alone unheld

  synched_of : Free s p i → is_synched s p i ≡ true
  synched_of whole = and_from _ _ (ap not whole.childless) (ap is_empty whole.delivered)

  empty_is : (below : List Activation) → is_empty below ≡ true → below ≡ []
  empty_is [] h = refl
  empty_is (a ∷ below) h = cc

  parks_not : (n : ℕ) (act : Action) (t : State) → Acts program s p i t n act → held_at program s p i act ≡ false
      → (waits_here i act && not (is_synched s p i)) ≡ true → ⊥
  parks_not n act t acts unheld h =
      let parts = and_parts (waits_here i act) (not (is_synched s p i)) h in
      let here = and_parts (is_empty i.below) (is_sync act || leaves act) parts.0 in
      let free = synched_of (acts_free n act t acts here.1 (empty_is i.below here.0) unheld) in
      let both : true ≡ false = sym parts.1 ∙ ap not free in
      cc

  -- an action that comes to something steps
  room_goes : (n : ℕ) (kind : TrapKind) (b : Bool) (t : State) (did : Event) → Stays (if_room s p n kind b (goes_on t did)) → ⊥
  room_goes n kind true t did stays = absurd stays
  room_goes n kind false t did stays = absurd stays

  room_spawns : (n : ℕ) (kind : TrapKind) (b : Bool) (c : Path) (t : State) (did : Event) → Stays (if_room s p n kind b (spawns c t did)) → ⊥
  room_spawns n kind true c t did stays = absurd stays
  room_spawns n kind false c t did stays = absurd stays

  combined_steps : (n : ℕ) (reached : Reached) (r : Result ℤ Trap) → Stays (step_by_combined s p i n reached.cell r) → ⊥
  combined_steps n reached (Ok y) stays = absurd stays
  combined_steps n reached (Err trap) stays = absurd stays

  answer_steps : (n : ℕ) (awaits : Option Reached) (z : ℤ) → Stays (step_by_answer s p i n awaits z) → ⊥
  answer_steps n None z stays = absurd stays
  answer_steps n (Some reached) z stays = combined_steps n reached _ stays

  leaving_steps : (n : ℕ) (z : ℤ) → Stays (step_by_leaving program s p i n z) → ⊥
  leaving_steps n z = cond_both (is_empty i.below) _ _ (λ step. Stays step → ⊥) (λ _ stays. absurd stays)
      (λ _. cond_both (leaves_function program i) _ _ (λ step. Stays step → ⊥) (λ _. answer_steps n i.top.awaits z) (λ _ stays. absurd stays))

  lock_turn_steps : (n k : ℕ) (t : State) (lock_turn : LockTurn) → FitsLockTurn program s p i n k t lock_turn
      → Stays (step_by_lock_turn s p i n k lock_turn) → ⊥
  lock_turn_steps n k t (lock_turned now) fit stays = absurd stays
  lock_turn_steps n k t refused fit stays = absurd stays
  lock_turn_steps n k t blocked fit stays = absurd fit

  effect_steps : (n : ℕ) (t : State) (r : Result Effect Trap) → FitsEffect program s p i n t r → Stays (step_by_effect program s p i n r) → ⊥
  effect_steps n t (Err trap) fit stays = absurd stays
  effect_steps n t (Ok (writes cell z)) fit stays = absurd stays
  effect_steps n t (Ok (answers z)) fit stays = absurd stays
  effect_steps n t (Ok (enters awaits callee zs)) fit stays =
      room_goes n depth (nat_lt (length i.below) 255) (after_call program s p i awaits callee zs) (event.acted p n) stays
  effect_steps n t (Ok (gives z)) fit stays = leaving_steps n z stays
  effect_steps n t (Ok (starts receiver callee zs)) fit stays =
      room_spawns n instances (nat_lt (length s.instances) 65536 && nat_lt i.children 4294967295) (child_path p (i.children + 1))
      (after_start program s p i receiver callee zs) (event.spawned (child_path p (i.children + 1)) n) stays
  effect_steps n t (Ok (writes_out bytes)) fit stays =
      room_goes n output (nat_le (length s.output + length bytes) 1048576) (after_print s p i bytes) (event.acted p n) stays
  effect_steps n t (Ok (turns_lock what k)) fit stays = lock_turn_steps n k t (lock_turn_by p what (lock_at s k)) fit stays
  effect_steps n t (Ok marks) fit stays = absurd stays

  unheld_fit : (n : ℕ) (act : Action) (t : State) → held_at program s p i act ≡ false
      → Fits program s p i n t (held_at program s p i act) (effect_of (here program s p i) n act)
      → FitsEffect program s p i n t (effect_of (here program s p i) n act)
  unheld_fit n act t unheld fit = subst (λ b. Fits program s p i n t b (effect_of (here program s p i) n act)) unheld fit

  head_steps : (n : ℕ) (act : Action) (t : State) → Acts program s p i t n act
      → Stays (step_by_head program s p i (Some (record { number = n; act = act }))) → ⊥
  head_steps n act t acts = cond_both (held_at program s p i act) _ _ (λ step. Stays step → ⊥) (λ _ stays. absurd stays)
      (λ unheld. cond_both (waits_here i act && not (is_synched s p i)) _ _ (λ step. Stays step → ⊥)
      (λ waiting stays. parks_not n act t acts unheld waiting)
      (λ _. effect_steps n t (effect_of (here program s p i) n act) (unheld_fit n act t unheld (acts_fit program s p i n act t acts))))

  place_steps : (others : List Delivery) (c : Path) (reached : Reached) (n : ℕ) (r : Result ℤ Trap) → Stays (step_by_place s p i others c reached n r) → ⊥
  place_steps others c reached n (Ok y) stays = absurd stays
  place_steps others c reached n (Err trap) stays = absurd stays

  receiver_steps : (others : List Delivery) (c : Path) (z : ℤ) (receiver : Receiver) → Stays (step_by_receiver program s p i others c z receiver) → ⊥
  receiver_steps others c z (place reached n) stays = place_steps others c reached n _ stays
  receiver_steps others c z (through inlet ys n) stays = absurd stays

  -- no other step than that of the head is there
  module _ (t : State) (free : i.aborted ≡ false) where
    only_head : Steps program s p i t → (AtBoundary i → i.waiting ≡ []) → Stays (step_by_head program s p i (head_of i.top.items)) → ⊥
    only_head (rule.takes boundary before delivery behind e takes) none stays = none_there before behind delivery (sym (none boundary) ∙ e)
    only_head (rule.acts n act head acts) none stays = head_steps n act t acts (subst (λ o. Stays (step_by_head program s p i o)) head stays)
    only_head (rule.ends ending) none stays = let both : true ≡ false = sym ending.aborted ∙ free in cc

    boundary_steps : Steps program s p i t → (ds : List Delivery) → i.waiting ≡ ds → Stays (step_at_boundary program s p i ds) → ⊥
    boundary_steps step [] e stays = only_head step (λ _. e) stays
    boundary_steps step (oldest ∷ others) e stays = receiver_steps others oldest.child oldest.value oldest.receiver stays

    free_steps : Steps program s p i t
        → Stays (if at_boundary i then step_at_boundary program s p i i.waiting else step_by_head program s p i (head_of i.top.items)) → ⊥
    free_steps step = cond_both (at_boundary i) _ _ (λ taken. Stays taken → ⊥) (λ _. boundary_steps step i.waiting refl)
        (λ within. only_head step (λ boundary. let both : true ≡ false = sym (bounds i boundary) ∙ within in cc))

  aborted_steps : instance_at s.instances p ≡ Some i → i.aborted ≡ true → (b : Bool) → has_live_child s.instances p ≡ b
      → Stays (if b then parks else ends (after_abort s p) (event.ended p)) → AbortedParent s p
  aborted_steps live aborted true e stays = record { instance = i; live = live; aborted = aborted; child = e }
  aborted_steps live aborted false e stays = absurd stays

  instance_steps : instance_at s.instances p ≡ Some i → (t : State) → Steps program s p i t → (b : Bool) → i.aborted ≡ b
      → Stays
      (if b then step_of_aborted s p else (if at_boundary i then step_at_boundary program s p i i.waiting else step_by_head program s p i
      (head_of i.top.items)))
      → AbortedParent s p
  instance_steps live t step true e stays = aborted_steps live e (has_live_child s.instances p) refl stays
  instance_steps live t step false e stays = absurd (free_steps t e step stays)

pub each_wait_is_forced : EachWaitIsForced
each_wait_is_forced program s p t stays allows =
    instance_steps program s p allows.instance allows.live t allows.step allows.instance.aborted refl
    (subst (λ o. Stays (step_of_live program s p o)) allows.live stays)
