-- The generator SplitMix64 (Steele, Lea and Flood, 2014): its state is a number below 2^64, and each draw goes on to the next one.
use Rattle.std.specs.Prelude.{ℕ, ◌+◌, ◌*◌, ◌/◌, ◌%◌, ◌^◌, bit_xor}

-- the state behind a draw
unfoldable pub next_state : ℕ → ℕ
next_state s = (s + 0x9e3779b97f4a7c15) % 2 ^ 64

-- z with its upper bits folded down by k places, times m
abbrev pub folded : ℕ → ℕ → ℕ → ℕ
folded z k m = bit_xor z (z / 2 ^ k) * m % 2 ^ 64

-- the number that a state gives
unfoldable pub number_at : ℕ → ℕ
number_at s = let z = folded (folded s 30 0xbf58476d1ce4e5b9) 27 0x94d049bb133111eb in bit_xor z (z / 2 ^ 31)

-- the number below n that is drawn in a state, by the upper half of what the next state gives
abbrev pub drawn_below : ℕ → ℕ → ℕ
drawn_below n s = number_at (next_state s) / 2 ^ 32 * n / 2 ^ 32
