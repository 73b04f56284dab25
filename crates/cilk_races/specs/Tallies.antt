-- What is kept of a run, and what one choice more makes of it.
use Rattle.std.specs.Prelude.{ℕ, ◌+◌, ◌-◌, ◌^◌, min, max, Bool, true, false, if◌then◌else◌, List, [], ◌∷◌, ◌++◌, length, slice_set, Option, Some, None}
use Rattle.cilk_log_replay.specs.machine.syntax.Tree.{Program}
use Rattle.cilk_log_replay.specs.machine.spawn.Nodes.{Node}
use Rattle.cilk_log_replay.specs.machine.plans.declared.did.Did.{Did}
use Rattle.cilk_log_replay.specs.machine.plans.declared.did.Did.TheVariants.{Returned, Ended}
use Rattle.cilk_races.specs.declared.cell.Cell.{Cell}
use Rattle.cilk_races.specs.declared.edge.Edge.{Edge}
use Rattle.cilk_races.specs.declared.edge.Edge.TheVariants.{Taken, Joined}
use Rattle.cilk_races.specs.declared.motion.Motion.{Motion}
use Rattle.cilk_races.specs.Cells.{cell_at, no_cell, next}
use Rattle.cilk_races.specs.Motions.{motion_of}

pub record Tally : Type 0 where
  -- of each instance ever made, in the order of birth
  pub cells : List Cell
  -- the greatest numbers so far: of a chain of steps, of bodies at a step, of instances one above another
  pub span : ℕ
  pub bodies : ℕ
  pub depth : ℕ
  -- how many have ended, and how many lived at most at once
  pub ended : ℕ
  pub live : ℕ

-- the root alone
abbrev pub first : Tally
first = record { cells = record no_cell { depth = 1 } ∷ []; span = 0; bodies = 0; depth = 1; ended = 0; live = 1 }

-- the greatest rank of what has to come before a step
abbrev pub highest_by : Option ℕ → List Cell → Motion → ℕ
highest_by None cells m =
    if m.joins then max (cell_at cells m.place).thread (cell_at cells m.place).joined else (cell_at cells m.place).thread
highest_by (Some c) cells m = max (cell_at cells c).thread (cell_at cells c).taken

abbrev pub highest : List Cell → Motion → ℕ
highest cells m = highest_by m.taking cells m

-- of its instance
abbrev pub own_by : Option ℕ → Motion → ℕ → Cell → Cell
own_by None m rank c = record c { above = m.above; taking = m.inlet; thread = max c.thread rank }
own_by (Some child) m rank c = record c { above = m.above; taking = m.inlet; joined = max c.joined rank }

abbrev pub own_after : Motion → ℕ → Cell → Cell
own_after m rank c = own_by m.taking m rank c

-- of another, whose value the step took, or which waits for the step
abbrev pub raised : Edge → ℕ → Cell → Cell
raised Taken rank c = record c { taken = max c.taken rank }
raised Joined rank c = record c { joined = max c.joined rank }

-- what is kept at a place is changed
abbrev pub at_place : Option ℕ → (Cell → Cell) → List Cell → List Cell
at_place None f cells = cells
at_place (Some i) f cells = slice_set cells i (f (cell_at cells i))

-- of the instance, of the child whose value it takes, and of the parent, which waits for it
abbrev pub settled : Motion → ℕ → List Cell → List Cell
settled m rank cells =
    at_place (cell_at cells m.place).parent (raised Joined rank)
    (at_place m.taking (raised Taken rank) (at_place (Some m.place) (own_after m rank) cells))

abbrev pub child_cell : ℕ → ℕ → ℕ → Cell
child_cell parent depth rank = record no_cell { parent = Some parent; depth = next depth; thread = rank }

-- a sum, among the numbers of 64 bits
abbrev pub plus : ℕ → ℕ → ℕ
plus a b = min (a + b) (2 ^ 64 - 1)

abbrev pub stepped_by : Bool → Motion → ℕ → ℕ → Tally → Tally
stepped_by false m rank depth t = record t {
  cells = settled m rank t.cells;
  span = max t.span rank;
  bodies = max t.bodies (plus depth m.above);
}
stepped_by true m rank depth t = record t {
  cells = settled m rank t.cells ++ child_cell m.place depth rank ∷ [];
  span = max t.span rank;
  bodies = max t.bodies (plus depth m.above);
  depth = max t.depth (next depth);
}

abbrev pub stepped : Motion → Tally → Tally
stepped m t = stepped_by m.bears m (next (highest t.cells m)) (cell_at t.cells m.place).depth t

abbrev pub is_ending : Did → Bool
is_ending (Returned id n) = true
is_ending (Ended id) = true
is_ending other = false

abbrev pub ended_after : Did → ℕ → ℕ
ended_after did ended = if is_ending did then next ended else ended

abbrev pub counted : Did → Tally → Tally
counted did t = record t {
  ended = ended_after did t.ended;
  live = max t.live (length t.cells - ended_after did t.ended);
}

abbrev pub noted_by : Option Motion → Did → Tally → Tally
noted_by None did t = t
noted_by (Some m) did t = counted did (stepped m t)

-- behind what the last choice did, in the tree that it led to
abbrev pub noted : Program → List Node → Did → Tally → Tally
noted program ns did t = noted_by (motion_of program ns t.cells did) did t
