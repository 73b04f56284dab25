-- Lines and columns, both counted from 1.
use Rattle.std.specs.Prelude.{ℕ, ◌+◌, Bool, ◌==◌, List, length, take, count_by}
use Rattle.std.specs.List.{after_last}

-- a newline (C 1990, 5.2.1)
abbrev pub is_newline : ℕ → Bool
is_newline b = b == 10

-- the line of a place: one more than the newlines before it
abbrev pub line_in : List ℕ → ℕ → ℕ
line_in text at = 1 + count_by is_newline (take at text)

-- the column of a place: one more than the bytes before it on its line
abbrev pub column_in : List ℕ → ℕ → ℕ
column_in text at = 1 + length (after_last is_newline (take at text))
