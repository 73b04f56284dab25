-- What is kept of a run, and what one choice more makes of it.
use Rattle.std.specs.Prelude.{◌≡◌, ◌<◌, ℕ, ◌+◌, ◌-◌, ◌^◌, min, nat_lt, Bool, true, false, if◌then◌else◌, List, [], ◌∷◌, ◌++◌, length, map, Option, Some, None}
use Rattle.std.specs.Prelude.{slice_index_or, slice_set}
use Rattle.std.specs.List.{All}
use Rattle.cilk_races.specs.CellsKept.{IsThere}
use Rattle.cilk_races.specs.Motions.{motion_of}
use Rattle.cilk_races.specs.Tallies.{noted}
use Rattle.cilk_log_replay.specs.machine.syntax.Tree.{Program}
use Rattle.cilk_log_replay.specs.machine.plans.declared.did.Did.{Did}
use Rattle.cilk_log_replay.specs.machine.plans.declared.did.Did.TheVariants.{Moved, Acted, Spawned, Delivered, Returned, Ended, Trapped}
use Rattle.cilk_log_replay.specs.machine.model.Path.{child_path}
use Rattle.cilk_log_replay.specs.machine.spawn.Nodes.{Node}
use Rattle.cilk_races.specs.declared.motion.Motion.{Motion}
use Rattle.cilk_races.specs.Kept.{children_in, path_in, syncs_in}
use Rattle.cilk_races.specs.Line.{Line, no_line}
use Rattle.cilk_races.specs.Paired.{touches_of}
use Rattle.cilk_races.specs.Races.{Touch}
use Rattle.cilk_races.specs.PairWords.{placed_of}
use Rattle.cilk_log_replay.specs.machine.step.CellWords.{access_of}
use Rattle.cilk_log_replay.specs.machine.step.declared.access.Access.{Access}
use Rattle.cilk_races.specs.declared.touch.Placed.{Placed}
use Rattle.cilk_races.specs.declared.touch.Touch as kept
use Rattle.cilk_races.specs.declared.look.Look.{Look}
use Rattle.cilk_races.specs.declared.watch.Watch.{Watch}

abbrev pub line_at : List Line → ℕ → Line
line_at rows i = slice_index_or rows i no_line

-- one more, among the numbers of 64 bits
abbrev pub next : ℕ → ℕ
next n = min (n + 1) (2 ^ 64 - 1)

abbrev pub passed : Line → Line
passed line = record line { syncs = next line.syncs }

abbrev pub bore : Line → Line
bore line = record line { children = next line.children }

-- its next child, at the birth
abbrev pub child_of : Line → Line
child_of line = record { path = child_path line.path (next line.children); blocks = line.blocks ++ line.syncs ∷ []; syncs = 0; children = 0 }

abbrev pub passed_at : ℕ → List Line → List Line
passed_at place rows = if nat_lt place (length rows) then slice_set rows place (passed (line_at rows place)) else rows

abbrev pub passed_if : Bool → ℕ → List Line → List Line
passed_if true place rows = passed_at place rows
passed_if false place rows = rows

abbrev pub bore_at : ℕ → List Line → List Line
bore_at place rows =
    if nat_lt place (length rows) then slice_set rows place (bore (line_at rows place)) ++ child_of (line_at rows place) ∷ [] else rows

-- a step that did this
abbrev pub rows_after : Did → Motion → List Line → List Line
rows_after Moved m rows = rows
rows_after (Acted id n) m rows = passed_if m.joins m.place rows
rows_after (Spawned id n) m rows = bore_at m.place rows
rows_after (Delivered id n) m rows = rows
rows_after (Returned id n) m rows = rows
rows_after (Ended id) m rows = rows
rows_after (Trapped kind id n) m rows = rows

abbrev pub number_of : Did → ℕ
number_of Moved = 0
number_of (Acted id n) = n
number_of (Spawned id n) = n
number_of (Delivered id n) = n
number_of (Returned id n) = n
number_of (Ended id) = 0
number_of (Trapped kind id n) = n

-- where a step stands, by what was kept before it
abbrev pub placed_by : List Line → Motion → Placed
placed_by rows m = record { place = m.place; taking = m.taking; syncs = syncs_in rows m.place; children = children_in rows m.place }

-- an access of choice k, by an instance in a hand
abbrev pub touch_by : List Line → ℕ → ℕ → Placed → ℕ → List ℕ → ℕ → Access → Touch
touch_by rows k own placed n locks procedure a = record {
  choice = k;
  placed = placed_of rows placed;
  n = n;
  access = access_of (path_in rows own) a;
  locks = locks;
  procedure = procedure;
}

-- the instances of a step were made
pub record ArePlaced (count : ℕ) (p : Placed) : Type 0 where
  pub place : p.place < count
  pub taking : IsThere count p.taking

pub record KnowsTouch (count : ℕ) (t : kept.Touch) : Type 0 where
  pub own : t.own < count
  pub placed : ArePlaced count t.placed

-- these accesses were kept
pub record KeepsTouches (k own : ℕ) (placed : Placed) (n : ℕ) (locks : List ℕ) (procedure : ℕ) (accesses : List Access)
    (old new : List kept.Touch) : Type 0 where
  pub touches : (rows : List Line) → touches_of rows new ≡ touches_of rows old ++ map (touch_by rows k own placed n locks procedure) accesses
  pub known : (count : ℕ) → own < count → ArePlaced count placed → All (KnowsTouch count) old → All (KnowsTouch count) new

-- choice k, which touched that, did this
pub record Notes (program : Program) (ns : List Node) (look : Look) (k : ℕ) (did : Did) (m : Motion) (old new : Watch) : Type 0 where
  pub touches : KeepsTouches k look.own (placed_by old.rows m) (number_of did) look.locks.items look.procedure look.accesses.items
      old.touches.items new.touches.items
  pub rows : new.rows ≡ rows_after did m old.rows
  pub tally : new.tally ≡ noted program ns did old.tally

pub record SameWatch (old new : Watch) : Type 0 where
  pub touches : new.touches.items ≡ old.touches.items
  pub rows : new.rows ≡ old.rows
  pub tally : new.tally ≡ old.tally

abbrev pub NotesBy : Program → List Node → Look → ℕ → Did → Option Motion → Watch → Watch → Type 0
NotesBy program ns look k did None old new = SameWatch old new
NotesBy program ns look k did (Some m) old new = Notes program ns look k did m old new

abbrev pub IsNoted : Program → List Node → Look → ℕ → Did → Watch → Watch → Type 0
IsNoted program ns look k did old new = NotesBy program ns look k did (motion_of program ns old.tally.cells did) old new
