-- What a call of a lock makes of it, where its holder goes by its id (Cilk 5.4 manual, locks).
use Rattle.std.specs.Prelude.{ℕ, Bool, false, nat_eq, List, if◌then◌else◌, slice_index_or}
use Rattle.cilk_laws_model.specs.syntax.declared.lock_action.LockAction.{LockAction}
use Rattle.cilk_laws_model.specs.syntax.declared.lock_action.LockAction.TheVariants.{Init, Unlock}
use Rattle.cilk_laws_model.specs.syntax.declared.lock_action.LockAction.TheVariants as action
use Rattle.cilk_laws_model.specs.model.Path.{Path}
use Rattle.cilk_laws_model.specs.model.Change as change
use Rattle.cilk_machine_agree.specs.declared.lock.Lock.{Lock}
use Rattle.cilk_machine_agree.specs.declared.lock.Lock.TheVariants.{Unset, Free, Held}
use Rattle.cilk_machine_agree.specs.Outside.{lock_by}

pub data LockTurn : Type 0 where
  lock_turned : (now : Lock) → LockTurn
  refused : LockTurn
  blocked : LockTurn

abbrev pub lock_turn_at : ℕ → LockAction → Lock → LockTurn
lock_turn_at k Init Unset = lock_turned Free
lock_turn_at k Init Free = lock_turned Free
lock_turn_at k Init (Held i) = refused
lock_turn_at k action.Lock Unset = refused
lock_turn_at k action.Lock Free = lock_turned (Held k)
lock_turn_at k action.Lock (Held i) = if nat_eq i k then refused else blocked
lock_turn_at k Unlock Unset = refused
lock_turn_at k Unlock Free = refused
lock_turn_at k Unlock (Held i) = if nat_eq i k then lock_turned Free else refused

-- lock l, for the instance k
abbrev pub lock_turn_among : List Lock → ℕ → LockAction → ℕ → LockTurn
lock_turn_among locks k what l = lock_turn_at k what (slice_index_or locks l Unset)

abbrev pub lock_turn_named : (ℕ → Path) → LockTurn → change.LockTurn
lock_turn_named up (lock_turned now) = change.lock_turned (lock_by up now)
lock_turn_named up refused = change.refused
lock_turn_named up blocked = change.blocked

-- whether instance k holds it
abbrev pub is_held_by : ℕ → Lock → Bool
is_held_by k Unset = false
is_held_by k Free = false
is_held_by k (Held i) = nat_eq i k
