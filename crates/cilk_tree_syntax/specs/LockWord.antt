-- The name of each call of a lock (Cilk 5.4 manual, locks).
use Rattle.std.specs.Prelude.{ℕ, List, codes}
use Rattle.cilk_tree_syntax.specs.declared.lock_action.LockAction.{LockAction}
use Rattle.cilk_tree_syntax.specs.declared.lock_action.LockAction.TheVariants.{Init, Lock, Unlock}

abbrev pub lock_word : LockAction → List ℕ
lock_word Init = codes "Cilk_lock_init"
lock_word Lock = codes "Cilk_lock"
lock_word Unlock = codes "Cilk_unlock"
