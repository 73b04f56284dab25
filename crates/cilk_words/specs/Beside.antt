-- The name of a file that is written beside another.
use Rattle.std.specs.Prelude.{ℕ, ◌-◌, ◌==◌, Bool, not, List, ◌++◌, length, take, codes, decimal}
use Rattle.std.specs.List.{suffix_len}

abbrev pub is_slash : ℕ → Bool
is_slash b = b == 47

-- the folder that a path tells, with the slash behind it: all up to its last slash, and nothing where it has none
abbrev pub folder_in : List ℕ → List ℕ
folder_in path = take (length path - suffix_len (λ b. not (is_slash b)) path) path

abbrev pub name_beside : List ℕ → ℕ → List ℕ
name_beside path number = folder_in path ++ (codes ".cilk-log-" ++ decimal number)
