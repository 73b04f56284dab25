-- What a choice did: the number is that of the action.
use Rattle.std.specs.Prelude.{ℕ}
use Rattle.cilk_model.specs.Path.{Path}
use Rattle.cilk_model.specs.State.{TrapKind}

pub data Event : Type 0 where
  acted : (path : Path) (n : ℕ) → Event
  -- the child, and the number of its spawn
  spawned : (child : Path) (n : ℕ) → Event
  delivered : (child : Path) (n : ℕ) → Event
  returned : (path : Path) (n : ℕ) → Event
  -- an aborted instance is no more
  ended : (path : Path) → Event
  trapped : (kind : TrapKind) (path : Path) (n : ℕ) → Event
  -- frames were moved, and nothing else was changed
  moved : Event
