-- What is kept behind the first choices of a tape is what their events tell.
use Rattle.std.specs.Prelude.{◌≡◌, ◌<◌, ℕ, suc, true, false, List, [], length, slice_index_or, take, Some}
use Rattle.std.specs.List.{All}
use Rattle.cilk_races.specs.Gauged.{events_at}
use Rattle.cilk_races.specs.Held.{Held}
use Rattle.cilk_races.specs.CellsKept.{IsUnmade}
use Rattle.cilk_log_replay.specs.Tape.{Tape}
use Rattle.cilk_log_replay.specs.machine.labelled.Bodies.{label}
use Rattle.cilk_log_replay.specs.machine.labelled.Labelled.{Labelled}
use Rattle.cilk_log_replay.specs.machine.model.Event.{Event}
use Rattle.cilk_log_replay.specs.machine.model.Path.{Path}
use Rattle.cilk_log_replay.specs.machine.spawn.Nodes.{path_at}
use Rattle.cilk_races.specs.Kept.{is_born}
use Rattle.cilk_races.specs.Line.{Line}
use Rattle.cilk_races.specs.Order.{block_of, children_of, syncs_of}
use Rattle.cilk_races.specs.Paired as paired
use Rattle.cilk_races.specs.Races.{touches_of}
use Rattle.cilk_races.specs.Noted.{KnowsTouch, line_at}
use Rattle.cilk_races.specs.declared.watch.Watch.{Watch}

-- an instance on the path of one that was made
pub record Along (program : Labelled) (events : List Event) (path : Path) (blocks : List ℕ) (at : ℕ) : Type 0 where
  pub born : is_born events (take (suc at) path) ≡ true
  pub block : slice_index_or blocks at 0 ≡ block_of program events (take (suc at) path)

-- of an instance that was made
pub record TellsLine (program : Labelled) (events : List Event) (path : Path) (line : Line) : Type 0 where
  pub named : line.path ≡ path
  pub size : length line.blocks ≡ length path
  pub along : (at : ℕ) → at < length path → Along program events path line.blocks at
  pub syncs : line.syncs ≡ syncs_of program events path
  pub children : line.children ≡ children_of events path

-- nothing is told of what was not made
pub record IsUntold (program : Labelled) (events : List Event) (p : Path) : Type 0 where
  pub born : is_born events p ≡ false
  pub syncs : syncs_of program events p ≡ 0
  pub children : children_of events p ≡ 0

pub record TellsLines (program : Labelled) (up : ℕ → Path) (count : ℕ) (events : List Event) (rows : List Line) : Type 0 where
  pub entries : length rows ≡ count
  pub each : (i : ℕ) → i < count → TellsLine program events (up i) (line_at rows i)
  pub unmade : (p : Path) → IsUnmade up count p → IsUntold program events p
  pub root : is_born events [] ≡ false

-- behind the first k choices
pub record Watched (t : Tape) (k : ℕ) (w : Watch) : Type 0 where
  pub tally : Held (label t.program) (path_at w.machine.machine.nodes) (length w.machine.machine.nodes) (events_at t k) w.tally
  pub rows : TellsLines (label t.program) (path_at w.machine.machine.nodes) (length w.machine.machine.nodes) (events_at t k) w.rows
  pub known : All (KnowsTouch (length w.machine.machine.nodes)) w.touches.items
  pub touches : (main : ℕ) → (label t.program).main ≡ Some main
      → paired.touches_of w.rows w.touches.items ≡ touches_of (label t.program) main t.workers (take k t.choices)
