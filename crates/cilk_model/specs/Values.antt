-- What the variables hold, and which cell a place is.
use Rattle.std.specs.Prelude.{ℕ, ℤ, pos, negsuc, Bool, List, [], map, length, max, replicate, nat_lt, if◌then◌else◌, slice_index_or, Option, Some}
use Rattle.std.specs.Prelude.{None, Result, Ok, Err}
use Rattle.cilk_check_scopes.specs.syntax.declared.operator.BinOp.{BinOp}
use Rattle.cilk_model.specs.declared.trap.Trap.{Trap}
use Rattle.cilk_model.specs.declared.trap.Trap.TheVariants.{Index}
use Rattle.cilk_model.specs.labelled.Arithmetic.{binary_result}
use Rattle.cilk_model.specs.labelled.Value.{Environment, value_of, ◌>>=◌}
use Rattle.cilk_model.specs.labelled.Labelled.{Declaration, local, outer, global, of_lock, of_body, unknown, Variable, Target, variable, element, Into}

-- the cells of each variable, in the order of the declarations: a variable that is no array has one
abbrev pub Values : Type 0
Values = List (List ℤ)

-- before any action (C 1990, 6.5.7; an automatic variable too starts at 0)
abbrev pub initial_values : List Variable → Values
initial_values variables = map (λ v. replicate (max v.length 1) v.initial) variables

-- what an activation sees: the values of its own body, of its procedure and of the top level, and whether the instance has nothing to wait for
pub record Store : Type 0 where
  pub own : Values
  pub outer : Values
  pub globals : Values
  pub synched : Bool

abbrev pub cells_of : Store → Declaration → List ℤ
cells_of store (local n) = slice_index_or store.own n []
cells_of store (outer n) = slice_index_or store.outer n []
cells_of store (global n) = slice_index_or store.globals n []
cells_of store (of_lock n) = []
cells_of store (of_body n) = []
cells_of store unknown = []

abbrev pub cell_of : Store → Declaration → ℕ → ℤ
cell_of store d k = slice_index_or (cells_of store d) k (pos 0)

-- the environment in which its expressions have their values
abbrev pub environment : Store → Environment Declaration
environment store = record {
  value = λ d. cell_of store d 0;
  length = λ d. length (cells_of store d);
  cell = cell_of store;
  synched = store.synched;
}

-- a cell that was reached: the element of an array, or the one cell of a variable
pub record Cell : Type 0 where
  pub place : Declaration
  pub index : ℕ

abbrev pub read_at : Store → Cell → ℤ
read_at store cell = cell_of store cell.place cell.index

-- a cell that was reached, and the operator that is applied to it
pub record Reached : Type 0 where
  pub op : Option BinOp
  pub cell : Cell

-- element k, where the array has it (C 1990, 6.3.2.1)
abbrev pub element_cell : Environment Declaration → Declaration → ℤ → Result Cell Trap
element_cell env d (pos k) = if nat_lt k (env.length d) then Ok (record { place = d; index = k }) else Err Index
element_cell env d (negsuc k) = Err Index

-- the cell that a target is: its subscript is evaluated, and its range is tested
abbrev pub cell_at : Environment Declaration → Target → Result Cell Trap
cell_at env (variable d) = Ok (record { place = d; index = 0 })
cell_at env (element d subscript) = value_of env subscript >>= element_cell env d

abbrev pub reached_at : Environment Declaration → Into → Result Reached Trap
reached_at env place = cell_at env place.target >>= λ cell. Ok (record { op = place.op; cell = cell })

-- of what may be missing
abbrev pub reached_if : Environment Declaration → Option Into → Result (Option Reached) Trap
reached_if env None = Ok None
reached_if env (Some place) = reached_at env place >>= λ reached. Ok (Some reached)

-- what an assignment makes of the old value and the new one (C 1990, 6.3.16; Cilk 5.4 manual, `spawn`)
abbrev pub combined : Option BinOp → ℤ → ℤ → Result ℤ Trap
combined None old z = Ok z
combined (Some op) old z = binary_result op old z
