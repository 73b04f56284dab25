-- How much room declarations take.
use Rattle.std.specs.Prelude.{ℕ, ◌+◌, Bool, List, [], ◌∷◌}
use Rattle.std.specs.Int.{is_in_range}
use Rattle.cilk_check_scopes.specs.declared.declaration_kind.DeclarationKind.{DeclarationKind}
use Rattle.cilk_check_scopes.specs.declared.declaration_kind.DeclarationKind.TheVariants.{Variable, Array}
use Rattle.cilk_check_scopes.specs.Scopes.{Declared}

-- the cells of what is declared: one of an `int` variable, one for each element of an array, and none of what is no `int`
abbrev pub cells_of : DeclarationKind → ℕ
cells_of Variable = 1
cells_of (Array n) = n
cells_of other = 0

abbrev pub cells : List Declared → ℕ
cells [] = 0
cells (d ∷ ds) = cells_of d.kind + cells ds

-- an activation has so many at most
abbrev pub max_cells : ℕ
max_cells = 4096

-- the top level has so many at most
abbrev pub max_global_cells : ℕ
max_global_cells = 1048576

-- an array may have this length
abbrev pub is_length : ℕ → Bool
is_length n = is_in_range 1 65536 n
