-- What a step looks at.
use Rattle.std.specs.Prelude.{ℕ, ℤ, Bool, List, ◌==◌}
use Rattle.std.specs.List.{list_any}
use Rattle.cilk_machine_agree.specs.syntax.Tree.{Program}
use Rattle.cilk_machine_agree.specs.nodes.Areas.{Cells}
use Rattle.cilk_machine_agree.specs.frame.Frames.{Frame, depth, top_of}
use Rattle.cilk_machine_agree.specs.frame.Reads.{lent}
use Rattle.cilk_machine_agree.specs.spawn.Nodes.{Node, node_at, is_synched}
use Rattle.cilk_machine_agree.specs.declared.lock.Lock.{Lock}
use Rattle.cilk_machine_agree.specs.Locks.{is_held_by}

-- the program, the cells of its variables of the top level, its locks, how many bytes were printed, the instances by id, and the frame of the one that steps
pub record StepInput : Type 0 where
  pub program : Program
  pub globals : List ℤ
  pub locks : List Lock
  pub printed : ℕ
  pub nodes : List Node
  pub frame : Frame

-- the number of the instance, and what the tree tells of it
abbrev pub id_of : StepInput → ℕ
id_of g = g.frame.id

abbrev pub own_node : StepInput → Node
own_node g = node_at g.nodes g.frame.id

-- the number of the head
abbrev pub head_number : StepInput → ℕ
head_number g = (top_of g.frame).node

-- what a frame of the instance lends to an expression
abbrev pub cells_by : StepInput → Frame → Cells
cells_by g f = lent f g.globals (is_synched g.nodes f.id)

abbrev pub cells_in : StepInput → Cells
cells_in g = cells_by g g.frame

abbrev pub holds_lock : StepInput → Bool
holds_lock g = list_any (is_held_by g.frame.id) g.locks

-- the procedure's own activation is on top
abbrev pub is_outer : StepInput → Bool
is_outer g = depth g.frame == 1
