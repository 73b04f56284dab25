-- Which cells that several instances or threads see a step reads and writes.
use Rattle.std.specs.Prelude.{ℕ, suc, Bool, true, false, if◌then◌else◌, ◌&&◌, List, [], ◌∷◌, ◌++◌, flat_map, map, Option, Some, None, Result, Ok, Err}
use Rattle.cilk_machine_plan.specs.model.declared.trap.Trap.{Trap}
use Rattle.cilk_machine_plan.specs.syntax.declared.operator.BinOp.{BinOp}
use Rattle.cilk_machine_plan.specs.labelled.Value.{Environment}
use Rattle.cilk_machine_plan.specs.labelled.Labelled as labelled
use Rattle.cilk_machine_plan.specs.labelled.Labelled.{Labelled, Declaration, Target, variable, element, Into, Action, assign, call, spawn, print}
use Rattle.cilk_machine_plan.specs.labelled.Labelled.{tests, return_with}
use Rattle.cilk_machine_plan.specs.labelled.Labelled.{nothing, into, through, Taker, Numbered}
use Rattle.cilk_machine_plan.specs.labelled.Items.{head_of}
use Rattle.cilk_machine_plan.specs.model.Path.{Path}
use Rattle.cilk_machine_plan.specs.model.Values as values
use Rattle.cilk_machine_plan.specs.model.Values.{environment, cell_at}
use Rattle.cilk_machine_plan.specs.model.Instance.{Instance, Delivery, Receiver, place}
use Rattle.cilk_machine_plan.specs.model.Instance as instance
use Rattle.cilk_machine_plan.specs.model.State.{State, store_of, is_empty, Lock}
use Rattle.cilk_machine_plan.specs.model.Change.{at_boundary, leaves, leaves_function, is_held_by}
use Rattle.cilk_machine_step.specs.Reads.{Read, cell, whether, reads_in, reads_in_all}

-- a cell that another instance or another thread may see
pub data Where : Type 0 where
  global : (n k : ℕ) → Where
  -- of a variable of an instance's procedure, which its inlets see too
  own : (path : Path) (n k : ℕ) → Where
  output : Where
  -- whether it has nothing to wait for
  synched : (path : Path) → Where

pub record Access : Type 0 where
  pub at : Where
  pub writes : Bool

abbrev pub read : Where → Access
read at = record { at = at; writes = false }

abbrev pub write : Where → Access
write at = record { at = at; writes = true }

-- the cell of a declaration as the top activation of p sees it; what a C function or an inlet declares nobody else sees
abbrev pub seen : Path → Instance → Declaration → ℕ → List Where
seen p i (labelled.global n) k = global n k ∷ []
seen p i (labelled.outer n) k = own p n k ∷ []
seen p i (labelled.local n) k = if is_empty i.below then own p n k ∷ [] else []
seen p i other k = []

abbrev pub read_at : Path → Instance → Read Declaration → List Access
read_at p i (cell d k) = map read (seen p i d k)
read_at p i whether = read (synched p) ∷ []

abbrev pub write_to : Path → Instance → Result values.Cell Trap → List Access
write_to p i (Ok c) = map write (seen p i c.place c.index)
write_to p i (Err trap) = []

-- a place that takes a value reads what it holds where it has an operator
abbrev pub update : Path → Instance → Option BinOp → Result values.Cell Trap → List Access
update p i None c = write_to p i c
update p i (Some op) (Ok c) = map read (seen p i c.place c.index) ++ write_to p i (Ok c)
update p i (Some op) (Err trap) = []

abbrev pub subscript_reads : Environment Declaration → Target → List (Read Declaration)
subscript_reads env (variable d) = []
subscript_reads env (element d t) = reads_in env t

abbrev pub reads_of : Path → Instance → List (Read Declaration) → List Access
reads_of p i reads = flat_map (read_at p i) reads

abbrev pub place_reads : Environment Declaration → Option Into → List (Read Declaration)
place_reads env None = []
place_reads env (Some what) = subscript_reads env what.target

abbrev pub taker_reads : Environment Declaration → Taker → List (Read Declaration)
taker_reads env nothing = []
taker_reads env (into what) = subscript_reads env what.target
taker_reads env (through inlet others) = reads_in_all env others

-- of an action, but for what leaving a body writes
abbrev pub by_action : Environment Declaration → Path → Instance → Action → List Access
by_action env p i (assign what e) =
    reads_of p i (subscript_reads env what.target ++ reads_in env e) ++ update p i what.op (cell_at env what.target)
by_action env p i (call what callee es) = reads_of p i (place_reads env what ++ reads_in_all env es)
by_action env p i (spawn taker callee es) = reads_of p i (taker_reads env taker ++ reads_in_all env es)
by_action env p i (print format es) = reads_of p i (reads_in_all env es) ++ write output ∷ []
by_action env p i (tests e) = reads_of p i (reads_in env e)
by_action env p i (return_with e) = reads_of p i (reads_in env e)
by_action env p i other = []

-- the place of the caller that awaits the value of a C function, as the caller sees it
abbrev pub awaited : Path → Instance → Option values.Reached → List Access
awaited p i None = []
awaited p i (Some reached) = update p i reached.op (Ok reached.cell)

abbrev pub tail : List instance.Activation → List instance.Activation
tail [] = []
tail (a ∷ below) = below

abbrev pub by_leaving : Labelled → Path → Instance → Action → List Access
by_leaving program p i act =
    if leaves act && leaves_function program i then awaited p (record i { below = tail i.below }) i.top.awaits else []

abbrev pub by_head : Labelled → State → Path → Instance → Option Numbered → List Access
by_head program s p i None = []
by_head program s p i (Some head) = by_action (environment (store_of s p i)) p i head.act ++ by_leaving program p i head.act

-- a value that is taken
abbrev pub by_receiver : Path → Instance → Receiver → List Access
by_receiver p i (place reached n) = update p i reached.op (Ok reached.cell)
by_receiver p i (instance.through inlet others n) = []

abbrev pub at_boundary_by : Labelled → State → Path → Instance → List Delivery → List Access
at_boundary_by program s p i [] = by_head program s p i (head_of i.top.items)
at_boundary_by program s p i (oldest ∷ others) = by_receiver p i oldest.receiver

-- of the step that an instance takes next, where it takes one (`step_of_instance`)
abbrev pub accesses_of : Labelled → State → Path → Instance → List Access
accesses_of program s p i =
    if i.aborted then []
    else (if at_boundary i then at_boundary_by program s p i i.waiting else by_head program s p i (head_of i.top.items))

-- the locks that p holds, by their numbers from this one on
abbrev pub locks_from : ℕ → Path → List Lock → List ℕ
locks_from n p [] = []
locks_from n p (lock ∷ locks) = if is_held_by p lock then n ∷ locks_from (suc n) p locks else locks_from (suc n) p locks
