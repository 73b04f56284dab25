-- The hash of some numbers.
use Rattle.std.specs.Prelude.{ℕ, ◌+◌, ◌*◌, ◌%◌, ◌^◌, List, [], ◌∷◌}

-- one number more
unfoldable pub mixed : ℕ → ℕ → ℕ
mixed hash number = (hash * 1000003 % 2 ^ 64 + number) % 2 ^ 64

abbrev pub mixed_all : ℕ → List ℕ → ℕ
mixed_all hash [] = hash
mixed_all hash (number ∷ numbers) = mixed_all (mixed hash number) numbers
