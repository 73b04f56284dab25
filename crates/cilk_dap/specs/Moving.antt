-- Where a program stands behind a request that moves it.
use Rattle.std.specs.Prelude.{◌≡◌, ◌<◌, ℕ}
use Rattle.cilk_debug.specs.Debugging.{Debugging}

-- at this position of the same schedule, with the same breakpoints
abbrev pub IsMovedTo : ℕ → (before after : Debugging) → Type 0
IsMovedTo position before after = after ≡ record before { position = position }

-- further on, by one choice or more
abbrev pub HasGoneOn : (before after : Debugging) → Type 0
HasGoneOn before after = (before.position < after.position) × IsMovedTo after.position before after
