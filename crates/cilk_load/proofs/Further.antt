-- What is left of a sum behind its first part.
use Rattle.std.proofs.Common.{◌≡◌, ℕ, ◌+◌, arith}

pub further : (start first rest all middle end : ℕ) → middle ≡ start + first → all ≡ first + rest → start + all ≡ end → middle + rest ≡ end
further start first rest all middle end e f g = omega arith
