-- What is kept of an instance.
use Rattle.std.specs.Prelude.{ℕ, List, []}
use Rattle.cilk_log_replay.specs.machine.model.Path.{Path}

pub record Line : Type 0 where
  pub path : Path
  -- of each instance on the path below the root, the last of which is this one: how many `sync`s its parent had passed at its birth
  pub blocks : List ℕ
  -- how many `sync`s it passed, and how many children it spawned
  pub syncs : ℕ
  pub children : ℕ

abbrev pub no_line : Line
no_line = record { path = []; blocks = []; syncs = 0; children = 0 }
