-- What is kept of the instances of a run, by place.
use Rattle.std.specs.Prelude.{◌≡◌, ◌<◌, ◌-◌, ◌==◌, if◌then◌else◌, ℕ, suc, Bool, false, List, [], length, take, slice_get, slice_index_or, Option, Some, None}
use Rattle.std.specs.List.{list_any}
use Rattle.cilk_log_replay.specs.machine.model.labelled.Labelled.{Labelled}
use Rattle.cilk_log_replay.specs.machine.model.Path.{Path, same_path}
use Rattle.cilk_log_replay.specs.machine.model.Event.{Event, spawned}
use Rattle.cilk_races.specs.Line.{Line}
use Rattle.cilk_races.specs.Order.{block_of}

abbrev pub path_by : Option Line → Path
path_by None = []
path_by (Some r) = r.path

abbrev pub path_in : List Line → ℕ → Path
path_in rows i = path_by (slice_get rows i)

abbrev pub blocks_by : Option Line → List ℕ
blocks_by None = []
blocks_by (Some r) = r.blocks

-- the block of the instance that stands there on the path
abbrev pub block_in : List Line → ℕ → ℕ → ℕ
block_in rows i at = slice_index_or (blocks_by (slice_get rows i)) at 0

abbrev pub last_by : List Line → ℕ → ℕ → ℕ
last_by rows i n = if n == 0 then 0 else block_in rows i (n - 1)

-- its own block
abbrev pub last_in : List Line → ℕ → ℕ
last_in rows i = last_by rows i (length (path_in rows i))

abbrev pub syncs_by : Option Line → ℕ
syncs_by None = 0
syncs_by (Some r) = r.syncs

abbrev pub syncs_in : List Line → ℕ → ℕ
syncs_in rows i = syncs_by (slice_get rows i)

abbrev pub children_by : Option Line → ℕ
children_by None = 0
children_by (Some r) = r.children

abbrev pub children_in : List Line → ℕ → ℕ
children_in rows i = children_by (slice_get rows i)

-- whether a path was born
abbrev pub is_birth : Path → Event → Bool
is_birth c (spawned d n) = same_path d c
is_birth c other = false

abbrev pub is_born : List Event → Path → Bool
is_born events c = list_any (is_birth c) events

-- the blocks are those that the events tell
pub record Blocked (program : Labelled) (events : List Event) (rows : List Line) : Type 0 where
  pub along : (i at : ℕ) → at < length (path_in rows i) → block_in rows i at ≡ block_of program events (take (suc at) (path_in rows i))
  pub root : block_of program events [] ≡ 0
