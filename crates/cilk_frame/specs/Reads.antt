-- What an expression may read, and the cells that a frame lends to it.
use Rattle.std.specs.Prelude.{◌≡◌, ℕ, ◌<◌, ℤ, Bool, ⊤, List, length, map}
use Rattle.cilk_load_nodes.specs.labelled.Term.{Term}
use Rattle.cilk_load_nodes.specs.Reads.{AllReads}
use Rattle.cilk_load_nodes.specs.Areas.{Cells}
use Rattle.cilk_load_nodes.specs.labelled.Labelled.{Declaration, local, outer, global, of_lock, of_body, unknown, Labelled}
use Rattle.cilk_load_nodes.specs.model.Values.{Values, Store}
use Rattle.cilk_load_nodes.specs.model.Instance.{Instance, outer_values}
use Rattle.cilk_load_nodes.specs.Slots.{size_of, flat}
use Rattle.cilk_frame.specs.Frames.{Frame, activation_at, top_of}
use Rattle.cilk_frame.specs.Cells.{variable_at, own_variables, outer_variables, IsInlet}

-- a variable that a name in body b may mean
abbrev pub IsVariable : Labelled → ℕ → Declaration → Type 0
IsVariable program b (local n) = n < length (own_variables program b)
IsVariable program b (outer n) = IsInlet program b × (n < length (outer_variables program b))
IsVariable program b (global n) = n < length program.globals
IsVariable program b (of_lock n) = ⊥
IsVariable program b (of_body n) = ⊥
IsVariable program b unknown = ⊥

-- that is an array (C 1990, 6.5.4.2)
abbrev pub IsArray : Labelled → ℕ → Declaration → Type 0
IsArray program b (local n) = 0 < (variable_at (own_variables program b) n).length
IsArray program b (outer n) = IsInlet program b × (0 < (variable_at (outer_variables program b) n).length)
IsArray program b (global n) = 0 < (variable_at program.globals n).length
IsArray program b (of_lock n) = ⊥
IsArray program b (of_body n) = ⊥
IsArray program b unknown = ⊥

-- each name in an expression means a variable, and each subscript is that of an array
abbrev pub IsKnown : Labelled → ℕ → Term Declaration → Type 0
IsKnown program b t = AllReads (IsVariable program b) (IsArray program b) ⊤ t

-- cells hold what body b sees, one variable after another
pub record Seen (program : Labelled) (b : ℕ) (cells : Cells) (store : Store) : Type 0 where
  pub own_are : cells.own ≡ flat store.own
  pub own_sizes : map length store.own ≡ map size_of (own_variables program b)
  pub outer_are : IsInlet program b → cells.outer ≡ flat store.outer
  pub outer_sizes : IsInlet program b → map length store.outer ≡ map size_of (outer_variables program b)
  pub globals_are : cells.globals ≡ flat store.globals
  pub global_sizes : map length store.globals ≡ map size_of program.globals
  pub synched_is : cells.synched ≡ store.synched

-- the cells that a frame lends to an expression of its top activation
abbrev pub lent : Frame → List ℤ → Bool → Cells
lent f globals synched =
    record { own = (top_of f).cells; outer = (activation_at f 0).cells; globals = globals; synched = synched }

-- what the top activation of an instance sees
abbrev pub seen_by : Instance → Values → Bool → Store
seen_by i globals synched =
    record { own = i.top.values; outer = outer_values i.below; globals = globals; synched = synched }
