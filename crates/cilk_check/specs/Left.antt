-- What is visible where a scope is left.
use Rattle.std.specs.Prelude.{ℕ, ◌-◌, List, take, drop, length}
use Rattle.cilk_check_scopes.specs.Scopes.{Declared, Scopes}

-- of the declarations in the scopes around it, the last n are in those around the next
abbrev pub left_of : ℕ → List Declared → Scopes
left_of n ds = record { innermost = take (length ds - n) ds; outer = drop (length ds - n) ds }
