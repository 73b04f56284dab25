-- Each step that is taken is one that the written rule allows.
use Rattle.std.proofs.Common.{◌≡◌, ℕ, ℤ, true, false, not, ◌&&◌, ◌||◌, List, [], ◌∷◌, Option, Some, None, Result, Ok, Err, refl, sym, subst, ◌∙◌}
use Rattle.std.specs.Prelude.{slice_get}
use Rattle.std.proofs.lemmas.Bool.{cond_both, and_parts}
use Rattle.std.proofs.lemmas.Option.{slice_get-map}
use Rattle.cilk_model.specs.scopes.declared.owner.Owner.{Owner}
use Rattle.cilk_model.specs.scopes.declared.owner.Owner.TheVariants.{Function, Procedure, Inlet}
use Rattle.cilk_model.specs.declared.trap.Trap.{Trap}
use Rattle.cilk_model.specs.labelled.Labelled.{Labelled, Action, assign, call, spawn, print, locking, null, break_off, go_round, tests, sync, abort}
use Rattle.cilk_model.specs.labelled.Labelled.{return_with, return_nothing, close, Numbered}
use Rattle.cilk_model.specs.labelled.Items.{head_of}
use Rattle.cilk_model.specs.Values.{Reached, read_at, combined}
use Rattle.cilk_model.specs.Effect.{effect_of}
use Rattle.cilk_model.specs.Path.{Path}
use Rattle.cilk_model.specs.Instance.{Receiver, place, through, Delivery, Activation, Instance, entered, owner_at}
use Rattle.cilk_model.specs.State.{of_value, held_lock, State, running, instance_at, has_live_child, is_empty, is_synched, store_of}
use Rattle.cilk_model.specs.Event as event
use Rattle.cilk_model.specs.Change.{is_function, waits_here, at_boundary, ends_thread, holds_lock, above, after_place, after_inlet}
use Rattle.cilk_model.specs.Change.{released, after_abort}
use Rattle.cilk_model.specs.Written as written
use Rattle.cilk_model.specs.Written.{Leaves, Heads, AtBoundary, Lets}
use Rattle.cilk_model.specs.Fails as fails
use Rattle.cilk_model.specs.Fails.{here, EndsThread}
use Rattle.cilk_model.specs.WrittenRule as rule
use Rattle.cilk_model.specs.WrittenRule.{Ends}
use Rattle.cilk_model.specs.Pick as pick
use Rattle.cilk_model.specs.Pick.{Step, waits, parks, goes_on, ends, spawns, step_by_effect, step_by_head, step_by_place, step_by_receiver}
use Rattle.cilk_model.specs.Pick.{step_at_boundary, step_of_aborted, step_of_instance, step_of_live, step_of}
use Rattle.cilk_laws_model.proofs.Entries.{at-without_other}
use Rattle.cilk_laws_model.specs.Order.{InOrder, AllowedStep, EachPickIsAllowed}
use Rattle.cilk_laws_model.proofs.Lookups.{apart, none_there}
use Rattle.cilk_laws_model.proofs.LockForms.{holds, holds_none, lets}
use Rattle.cilk_laws_model.proofs.Ground.{Stands, Ruled, stepped, failed, at_p, at_other, puts}
use Rattle.cilk_laws_model.proofs.Going.{bare_rule, tests_rule, assign_rule, print_rule, lock_rule, sync_rule, abort_rule}
use Rattle.cilk_laws_model.proofs.Leaving.{return_rule, nothing_rule, brace_rule}
use Rattle.cilk_laws_model.proofs.Starting.{call_rule, spawn_rule}
use Rattle.cilk_laws_model.proofs.Boundaries.{boundary_of}

module _ (program : Labelled) (s : State) (p : Path) (i : Instance) (stands : Stands program s p i) where
  -- a lock is held where a thread ends
  leave_ends : (act : Action) → Leaves act → (below : List Activation) → i.below ≡ below → (owner : Owner) → owner_at program i ≡ owner
      → (is_empty below || not (is_function owner)) ≡ true → EndsThread program s p i act
  leave_ends act leaving [] e owner is h = fails.at_procedure_end act leaving e
  leave_ends act leaving (a ∷ below) e (Function returns) is h = cc
  leave_ends act leaving (a ∷ below) e (Procedure returns) is h = fails.at_inlet_end act leaving
      (record { above = λ f. let both : a ∷ below ≡ [] = sym e ∙ f in cc; no_function = λ r f. let both : Procedure returns ≡ Function r = sym is ∙ f in cc })
  leave_ends act leaving (a ∷ below) e Inlet is h = fails.at_inlet_end act leaving
      (record { above = λ f. let both : a ∷ below ≡ [] = sym e ∙ f in cc; no_function = λ r f. let both : Inlet ≡ Function r = sym is ∙ f in cc })

  ends_a_thread : (act : Action) → ends_thread program i act ≡ true → EndsThread program s p i act
  ends_a_thread (assign what e) h = cc
  ends_a_thread (call what callee es) h = cc
  ends_a_thread (spawn taker callee es) h = fails.at_spawn taker callee es
  ends_a_thread (print format es) h = cc
  ends_a_thread (locking what k) h = cc
  ends_a_thread null h = cc
  ends_a_thread break_off h = cc
  ends_a_thread go_round h = cc
  ends_a_thread (tests e) h = cc
  ends_a_thread sync h = fails.at_sync
  ends_a_thread abort h = cc
  ends_a_thread (return_with e) h = leave_ends (return_with e) (written.by_value e) i.below refl (owner_at program i) refl h
  ends_a_thread return_nothing h = leave_ends return_nothing written.by_no_value i.below refl (owner_at program i) refl h
  ends_a_thread close h = leave_ends close written.by_brace i.below refl (owner_at program i) refl h

  held_rule : (n : ℕ) (act : Action) → Heads i n act → (ends_thread program i act && holds_lock s p) ≡ true → Ruled program s p (pick.traps s p n held_lock)
  held_rule n act head h =
      let parts = and_parts (ends_thread program i act) (holds_lock s p) h in
      failed program s p i stands n act head held_lock (fails.holds_lock act (ends_a_thread act parts.0) (holds s p parts.1))

  -- the head is acted
  action_rule : (n : ℕ) (act : Action) → Heads i n act → (ends_thread program i act && holds_lock s p) ≡ false
      → (waits_here i act && not (is_synched s p i)) ≡ false → Ruled program s p (step_by_effect program s p i n (effect_of (here program s p i) n act))
  action_rule n (assign what e) head unheld goes = assign_rule program s p i stands n what e head
  action_rule n (call what callee es) head unheld goes = call_rule program s p i stands n what callee es head
  action_rule n (spawn taker callee es) head unheld goes = spawn_rule program s p i stands n callee es (holds_none s p unheld) taker head
  action_rule n (print format es) head unheld goes = print_rule program s p i stands n format es head
  action_rule n (locking what k) head unheld goes = lock_rule program s p i stands n k what head
  action_rule n null head unheld goes = bare_rule program s p i stands n null head rule.null_is
  action_rule n break_off head unheld goes = bare_rule program s p i stands n break_off head rule.break_is
  action_rule n go_round head unheld goes = bare_rule program s p i stands n go_round head rule.continue_is
  action_rule n (tests e) head unheld goes = tests_rule program s p i stands n e head
  action_rule n sync head unheld goes = sync_rule program s p i stands n head unheld goes
  action_rule n abort head unheld goes = abort_rule program s p i stands n head
  action_rule n (return_with e) head unheld goes = return_rule program s p i stands n e head unheld goes
  action_rule n return_nothing head unheld goes = nothing_rule program s p i stands n head unheld goes
  action_rule n close head unheld goes = brace_rule program s p i stands n head unheld goes

  head_rule : (o : Option Numbered) → head_of i.top.items ≡ o → Ruled program s p (step_by_head program s p i o)
  head_rule None e = tt
  head_rule (Some head) e =
      cond_both (ends_thread program i head.act && holds_lock s p) _ _ (Ruled program s p) (held_rule head.number head.act e)
      (λ unheld. cond_both (waits_here i head.act && not (is_synched s p i)) _ _ (Ruled program s p) (λ _. tt) (action_rule head.number head.act e unheld))

  -- a delivery is taken
  module _ (boundary : AtBoundary i) (c : Path) (z : ℤ) (others : List Delivery) where
    place_rule : (reached : Reached) (n : ℕ) → i.waiting ≡ record { child = c; value = z; receiver = place reached n } ∷ others
        → (r : Result ℤ Trap) → combined reached.op (read_at (store_of s p i) reached.cell) z ≡ r → Ruled program s p (step_by_place s p i others c reached n r)
    place_rule reached n waiting (Err trap) is = (
      stepped program s p i stands _ (event.trapped (of_value trap) p n)
          (rule.takes boundary [] (record { child = c; value = z; receiver = place reached n }) others waiting (rule.place_traps reached n trap is refl)) refl,
      λ h. cc,
    )
    place_rule reached n waiting (Ok y) is = (
      stepped program s p i stands (after_place s p i others reached.cell y) (event.delivered c n)
          (rule.takes boundary [] (record { child = c; value = z; receiver = place reached n }) others waiting
          (rule.by_place reached n y is (puts program s p i stands (record i { waiting = others }) reached.cell y))) refl,
      λ h. cc,
    )

    receiver_rule : (receiver : Receiver) → i.waiting ≡ record { child = c; value = z; receiver = receiver } ∷ others
        → Ruled program s p (step_by_receiver program s p i others c z receiver)
    receiver_rule (place reached n) waiting = place_rule reached n waiting (combined reached.op (read_at (store_of s p i) reached.cell) z) refl
    receiver_rule (through inlet ys n) waiting =
        let j = above (entered program inlet (z ∷ ys) None) (record i { waiting = others }) in (
          stepped program s p i stands (after_inlet program s p i others inlet (z ∷ ys)) (event.delivered c n)
              (rule.takes boundary [] (record { child = c; value = z; receiver = through inlet ys n }) others waiting
              (rule.by_inlet inlet ys n
              (record { at_p = at_p program s p i stands (λ _. j); elsewhere = at_other program s p i stands (λ _. j); still = refl })))
              refl,
          λ h. cc,
        )

  boundary_rule : at_boundary i ≡ true → (ds : List Delivery) → i.waiting ≡ ds → Ruled program s p (step_at_boundary program s p i ds)
  boundary_rule boundary [] e = head_rule (head_of i.top.items) refl
  boundary_rule boundary (oldest ∷ others) e = receiver_rule (boundary_of i boundary) oldest.child oldest.value others oldest.receiver e

  -- an aborted instance
  ends_row : i.aborted ≡ true → has_live_child s.instances p ≡ false → Ends program s p i (after_abort s p)
  ends_row aborted childless = record {
    aborted = aborted;
    childless = childless;
    gone = none_there p s.instances;
    elsewhere = λ q other. at-without_other p q s.instances (apart p q other);
    locks = λ k. subst (Lets p (slice_get s.locks k)) (sym (slice_get-map (released p) s.locks k)) (lets p (slice_get s.locks k));
    still = refl;
  }

  aborted_rule : i.aborted ≡ true → Ruled program s p (step_of_aborted s p)
  aborted_rule aborted = cond_both (has_live_child s.instances p) _ _ (Ruled program s p) (λ _. tt)
      (λ childless. (
        stepped program s p i stands (after_abort s p) (event.ended p) (rule.ends (ends_row aborted childless)) refl,
        λ h. cc,
      ))

  instance_rule : Ruled program s p (step_of_instance program s p i)
  instance_rule = cond_both i.aborted _ _ (Ruled program s p) aborted_rule
      (λ _. cond_both (at_boundary i) _ _ (Ruled program s p)
      (λ boundary. boundary_rule boundary i.waiting refl) (λ _. head_rule (head_of i.top.items) refl))

live_rule : (program : Labelled) (s : State) (p : Path) → s.outcome ≡ running → InOrder s → (o : Option Instance) → instance_at s.instances p ≡ o
    → Ruled program s p (step_of_live program s p o)
live_rule program s p runs order None live = tt
live_rule program s p runs order (Some i) live =
    instance_rule program s p i (record { runs = runs; apart = order.apart; live = live; family = order.family })

pub step_rule : (program : Labelled) (s : State) (p : Path) → s.outcome ≡ running → InOrder s → Ruled program s p (step_of program s p)
step_rule program s p runs order = live_rule program s p runs order (instance_at s.instances p) refl

ruled_allowed : (program : Labelled) (s : State) (p : Path) (taken : Step) → Ruled program s p taken → AllowedStep program s p taken
ruled_allowed program s p waits r = tt
ruled_allowed program s p parks r = tt
ruled_allowed program s p (goes_on t did) r = r.0
ruled_allowed program s p (ends t did) r = r.0
ruled_allowed program s p (spawns child t did) r = r.0

pub each_pick_is_allowed : EachPickIsAllowed
each_pick_is_allowed program s p runs order = ruled_allowed program s p (step_of program s p) (step_rule program s p runs order)
