-- Instances of which only the parent is kept, and what the way up to the root tells of each.
use Rattle.std.specs.Prelude.{◌≡◌, ◌<◌, ℕ, zero, suc, List, [], ◌∷◌, ◌++◌, length, map, slice_index_or}
use Rattle.std.specs.List.{range_with_len}
use Rattle.cilk_log_replay.specs.machine.model.Path.{Path}
use Rattle.cilk_races.specs.declared.row.Row.{Row}
use Rattle.cilk_races.specs.Line.{Line}
use Rattle.cilk_races.specs.Mixed.{mixed_all}

-- what stands where no instance is
abbrev pub no_row : Row
no_row = record { parent = 0; depth = 0; ordinal = 0; block = 0; syncs = 0; children = 0; hash = 0 }

abbrev pub row_at : List Row → ℕ → Row
row_at rows i = slice_index_or rows i no_row

-- the instance so many levels above i
abbrev pub above : List Row → ℕ → ℕ → ℕ
above rows zero i = i
above rows (suc levels) i = above rows levels (row_at rows i).parent

-- the path of i, and the blocks along it, where i lies so deep
abbrev pub path_up : List Row → ℕ → ℕ → Path
path_up rows zero i = []
path_up rows (suc depth) i = path_up rows depth (row_at rows i).parent ++ (row_at rows i).ordinal ∷ []

abbrev pub blocks_up : List Row → ℕ → ℕ → List ℕ
blocks_up rows zero i = []
blocks_up rows (suc depth) i = blocks_up rows depth (row_at rows i).parent ++ (row_at rows i).block ∷ []

abbrev pub path_of : List Row → ℕ → Path
path_of rows i = path_up rows (row_at rows i).depth i

abbrev pub branch_of : List Row → ℕ → Line
branch_of rows i = record {
  path = path_of rows i;
  blocks = blocks_up rows (row_at rows i).depth i;
  syncs = (row_at rows i).syncs;
  children = (row_at rows i).children;
}

abbrev pub lines_of : List Row → List Line
lines_of rows = map (branch_of rows) (range_with_len 0 (length rows))

-- what holds of those that are kept of a run: each has its parent among them, and the hash of its path
pub record AreKin (rows : List Row) : Type 0 where
  pub parent : (i : ℕ) → i < length rows → (row_at rows i).parent < length rows
  pub depth : (i : ℕ) → i < length rows → (row_at rows i).depth < length rows
  pub hash : (i : ℕ) → i < length rows → (row_at rows i).hash ≡ mixed_all 0 (path_of rows i)
