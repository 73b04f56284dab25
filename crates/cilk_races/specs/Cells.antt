-- What is kept of the instances, by place.
use Rattle.std.specs.Prelude.{ℕ, ◌+◌, ◌-◌, ◌^◌, min, List, None, slice_index_or}
use Rattle.cilk_races.specs.declared.cell.Cell.{Cell}

abbrev pub no_cell : Cell
no_cell = record { parent = None; depth = 0; above = 0; taking = None; thread = 0; joined = 0; taken = 0 }

abbrev pub cell_at : List Cell → ℕ → Cell
cell_at cells i = slice_index_or cells i no_cell

-- one more, among the numbers of 64 bits
abbrev pub next : ℕ → ℕ
next n = min (n + 1) (2 ^ 64 - 1)
