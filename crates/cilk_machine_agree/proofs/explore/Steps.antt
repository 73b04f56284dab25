-- One step of an instance, of two states that have the same at each path.
use Rattle.std.proofs.Common.{◌≡◌, ℕ, ◌+◌, ◌^◌, ◌-◌, ℤ, nat_lt, Bool, true, false, not, ◌&&◌, List, [], ◌∷◌, length, Option, Some, None}
use Rattle.std.proofs.Common.{Result, Ok, Err, refl, ap, subst, if◌then◌else◌}
use Rattle.cilk_machine_agree.specs.model.declared.trap.Trap.{Trap}
use Rattle.cilk_machine_agree.specs.labelled.Labelled.{Labelled, Numbered}
use Rattle.cilk_machine_agree.specs.labelled.Items.{head_of}
use Rattle.cilk_machine_agree.specs.model.Values.{Store, Cell, Reached, environment, read_at, combined}
use Rattle.cilk_machine_agree.specs.model.Effect.{Effect, writes, answers, enters, gives, starts, writes_out, turns_lock, marks, effect_of}
use Rattle.cilk_machine_agree.specs.model.Path.{Path, child_path, parent_of}
use Rattle.cilk_machine_agree.specs.model.Instance.{Receiver, place, through, Delivery, Instance}
use Rattle.cilk_machine_agree.specs.model.State as state
use Rattle.cilk_machine_agree.specs.model.State.{TrapKind, State, Instances, instance_at, has_live_child, is_synched, store_of, is_empty, changed}
use Rattle.cilk_machine_agree.specs.model.Change.{LockTurn, lock_turned, refused, blocked, lock_turn_of, waits_here, at_boundary, ends_thread, holds_lock}
use Rattle.cilk_machine_agree.specs.model.Change.{leaves_function, resumed, after_start, after_return_to, after_abort}
use Rattle.cilk_machine_agree.specs.model.Event as event
use Rattle.cilk_machine_agree.specs.model.Event.{Event}
use Rattle.cilk_machine_agree.specs.model.Pick.{Step, waits, parks, goes_on, ends, spawns, traps, if_room, step_by_combined, step_by_answer, step_by_leaving}
use Rattle.cilk_machine_agree.specs.model.Pick.{step_by_lock_turn, step_by_effect, step_by_head, step_by_place, step_by_receiver, step_at_boundary}
use Rattle.cilk_machine_agree.specs.model.Pick.{step_of_aborted, step_of_instance, step_of_live, step_of}
use Rattle.cilk_machine_agree.specs.explore.Same.{SameState}
use Rattle.cilk_machine_agree.proofs.explore.AtPaths.{SameAt, changed_same, without_same, marked_same, push_same, children_same}

pub data SameStep : Step → Step → Type 0 where
  both_wait : SameStep waits waits
  both_park : SameStep parks parks
  both_go_on : (a b : State) (did : Event) → SameState a b → SameStep (goes_on a did) (goes_on b did)
  both_end : (a b : State) (did : Event) → SameState a b → SameStep (ends a did) (ends b did)
  both_spawn : (child : Path) (a b : State) (did : Event) → SameState a b → SameStep (spawns child a did) (spawns child b did)

-- all else is the same
pub beside : (a b : State) → record a { instances = b.instances } ≡ b → SameAt a.instances b.instances → SameState a b
beside a b e same = record {
  globals = ap (λ (x : State). x.globals) e;
  locks = ap (λ (x : State). x.locks) e;
  output = ap (λ (x : State). x.output) e;
  outcome = ap (λ (x : State). x.outcome) e;
  at = same;
}

both_if : (b : Bool) (x y u v : Step) → SameStep x u → SameStep y v → SameStep (if b then x else y) (if b then u else v)
both_if true x y u v h k = h
both_if false x y u v h k = k

module _ (program : Labelled) (s : State) (others : Instances) (same : SameAt s.instances others) (many : length s.instances ≡ length others) (p : Path) where
  abbrev t : State
  t = record s { instances = others }

  children : has_live_child s.instances p ≡ has_live_child others p
  children = children_same s.instances others same p

  trap_same : (n : ℕ) (kind : TrapKind) → SameStep (traps s p n kind) (traps t p n kind)
  trap_same n kind = both_go_on _ _ _ (beside _ _ refl same)

  room_same : (n : ℕ) (kind : TrapKind) (b : Bool) (x y : Step) → SameStep x y → SameStep (if_room s p n kind b x) (if_room t p n kind b y)
  room_same n kind true x y h = h
  room_same n kind false x y h = trap_same n kind

  -- the instance at p becomes another
  put_same : (j : Instance) → SameAt (changed p (λ _. j) s.instances) (changed p (λ _. j) others)
  put_same j = changed_same s.instances others same p (λ _. j)

  synched_same : (j : Instance) → is_synched s p j ≡ is_synched t p j
  synched_same j = ap (λ (b : Bool). not b && is_empty j.waiting) children

  store_same : (j : Instance) → store_of s p j ≡ store_of t p j
  store_same j = ap (λ (b : Bool). record (store_of s p j) { synched = b }) (synched_same j)

  return_same : (i : Instance) (z : ℤ) (o : Option Path) → SameState (after_return_to o s p i z) (after_return_to o t p i z)
  return_same i z None = beside _ _ refl (without_same s.instances others same p)
  return_same i z (Some q) = beside _ _ refl (changed_same _ _ (without_same s.instances others same p) q _)

  module _ (i : Instance) where
    combined_same : (n : ℕ) (cell : Cell) (r : Result ℤ Trap) → SameStep (step_by_combined s p i n cell r) (step_by_combined t p i n cell r)
    combined_same n cell (Ok y) = both_go_on _ _ _ (beside _ _ refl (put_same _))
    combined_same n cell (Err trap) = trap_same n _

    answer_same : (n : ℕ) (o : Option Reached) (z : ℤ) → SameStep (step_by_answer s p i n o z) (step_by_answer t p i n o z)
    answer_same n None z = both_go_on _ _ _ (beside _ _ refl (put_same _))
    answer_same n (Some reached) z =
        let P : Store → Type 0 = λ store. SameStep (step_by_answer s p i n (Some reached) z)
        (step_by_combined t p i n reached.cell (combined reached.op (read_at store reached.cell) z)) in
        subst P (store_same (resumed i)) (combined_same n reached.cell (combined reached.op (read_at (store_of s p (resumed i)) reached.cell) z))

    leaving_same : (n : ℕ) (z : ℤ) → SameStep (step_by_leaving program s p i n z) (step_by_leaving program t p i n z)
    leaving_same n z =
        both_if (is_empty i.below) _ _ _ _ (both_end _ _ _ (return_same i z (parent_of p)))
        (both_if (leaves_function program i) _ _ _ _ (answer_same n i.top.awaits z) (both_go_on _ _ _ (beside _ _ refl (put_same _))))

    turn_same : (n k : ℕ) (turn : LockTurn) → SameStep (step_by_lock_turn s p i n k turn) (step_by_lock_turn t p i n k turn)
    turn_same n k blocked = both_wait
    turn_same n k refused = trap_same n _
    turn_same n k (lock_turned now) = both_go_on _ _ _ (beside _ _ refl (put_same _))

    effect_same : (n : ℕ) (r : Result Effect Trap) → SameStep (step_by_effect program s p i n r) (step_by_effect program t p i n r)
    effect_same n (Err trap) = trap_same n _
    effect_same n (Ok (writes cell z)) = both_go_on _ _ _ (beside _ _ refl (put_same _))
    effect_same n (Ok (answers value)) = both_go_on _ _ _ (beside _ _ refl (put_same _))
    effect_same n (Ok (enters awaits callee zs)) =
        room_same n state.depth (nat_lt (length i.below) 255) _ _ (both_go_on _ _ _ (beside _ _ refl (put_same _)))
    effect_same n (Ok (gives z)) = leaving_same n z
    effect_same n (Ok (starts receiver callee zs)) =
        let P : ℕ → Type 0 = λ size. SameStep (step_by_effect program s p i n (Ok (starts receiver callee zs)))
        (if_room t p n state.instances (nat_lt size 65536 && nat_lt i.children (2 ^ 32 - 1))
        (spawns (child_path p (i.children + 1)) (after_start program t p i receiver callee zs) (event.spawned (child_path p (i.children + 1)) n))) in
        subst P many (room_same n state.instances _ _ _ (both_spawn _ _ _ _ (beside _ _ refl (push_same _ _ (put_same _) _))))
    effect_same n (Ok (writes_out bytes)) =
        room_same n state.output _ _ _ (both_go_on _ _ _ (beside _ _ refl (put_same _)))
    effect_same n (Ok (turns_lock what k)) = turn_same n k (lock_turn_of s p what k)
    effect_same n (Ok marks) = both_go_on _ _ _ (beside _ _ refl (marked_same _ _ (put_same _) p))

    acted_same : (head : Numbered)
        → SameStep (step_by_effect program s p i head.number (effect_of (environment (store_of s p i)) head.number head.act))
        (step_by_effect program t p i head.number (effect_of (environment (store_of t p i)) head.number head.act))
    acted_same head =
        let P : Store → Type 0 = λ store. SameStep (step_by_effect program s p i head.number (effect_of (environment (store_of s p i)) head.number head.act))
        (step_by_effect program t p i head.number (effect_of (environment store) head.number head.act)) in
        subst P (store_same i) (effect_same head.number (effect_of (environment (store_of s p i)) head.number head.act))

    head_same : (o : Option Numbered) → SameStep (step_by_head program s p i o) (step_by_head program t p i o)
    head_same None = both_wait
    head_same (Some head) =
        let x = step_by_effect program s p i head.number (effect_of (environment (store_of s p i)) head.number head.act) in
        let y = step_by_effect program t p i head.number (effect_of (environment (store_of t p i)) head.number head.act) in
        let waits_at = waits_here i head.act in
        let P : Bool → Type 0 = λ b. SameStep (if waits_at && not (is_synched s p i) then parks else x) (if waits_at && not b then parks else y) in
        both_if (ends_thread program i head.act && holds_lock s p) _ _ _ _ (trap_same head.number _)
        (subst P (synched_same i) (both_if (waits_at && not (is_synched s p i)) _ _ _ _ both_park (acted_same head)))

    place_same : (left : List Delivery) (c : Path) (reached : Reached) (n : ℕ) (r : Result ℤ Trap)
        → SameStep (step_by_place s p i left c reached n r) (step_by_place t p i left c reached n r)
    place_same left c reached n (Ok y) = both_go_on _ _ _ (beside _ _ refl (put_same _))
    place_same left c reached n (Err trap) = trap_same n _

    receiver_same : (left : List Delivery) (c : Path) (z : ℤ) (receiver : Receiver)
        → SameStep (step_by_receiver program s p i left c z receiver) (step_by_receiver program t p i left c z receiver)
    receiver_same left c z (place reached n) =
        let P : Store → Type 0 = λ store. SameStep (step_by_receiver program s p i left c z (place reached n))
        (step_by_place t p i left c reached n (combined reached.op (read_at store reached.cell) z)) in
        subst P (store_same i) (place_same left c reached n (combined reached.op (read_at (store_of s p i) reached.cell) z))
    receiver_same left c z (through inlet ys n) = both_go_on _ _ _ (beside _ _ refl (put_same _))

    boundary_same : (waiting : List Delivery) → SameStep (step_at_boundary program s p i waiting) (step_at_boundary program t p i waiting)
    boundary_same [] = head_same (head_of i.top.items)
    boundary_same (oldest ∷ left) = receiver_same left oldest.child oldest.value oldest.receiver

    aborted_same : SameStep (step_of_aborted s p) (step_of_aborted t p)
    aborted_same =
        let P : Bool → Type 0 = λ b. SameStep (step_of_aborted s p) (if b then parks else ends (after_abort t p) (event.ended p)) in
        subst P children
        (both_if (has_live_child s.instances p) _ _ _ _ both_park (both_end _ _ _ (beside _ _ refl (without_same s.instances others same p))))

    instance_same : SameStep (step_of_instance program s p i) (step_of_instance program t p i)
    instance_same =
        both_if i.aborted _ _ _ _ aborted_same
        (both_if (at_boundary i) _ _ _ _ (boundary_same i.waiting) (head_same (head_of i.top.items)))

  live_same : (o : Option Instance) → SameStep (step_of_live program s p o) (step_of_live program t p o)
  live_same None = both_wait
  live_same (Some i) = instance_same i

  pub step_same : SameStep (step_of program s p) (step_of program t p)
  step_same =
      let P : Option Instance → Type 0 = λ o. SameStep (step_of program s p) (step_of_live program t p o) in
      subst P (same p) (live_same (instance_at s.instances p))
