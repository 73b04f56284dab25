-- What a writer has gained, where it may have failed.
use Rattle.std.specs.Prelude.{◌≡◌, List, ◌++◌, ℕ, Option}
use Rattle.std.specs.Io.KnownBytes.{Appends}

-- known bytes stay at the front and grow by the first of these bytes, it may be by all or by none
pub record AppendsFront (old new : Option (List ℕ)) (bytes : List ℕ) : Type 0 where
  pub front : List ℕ
  pub rest : List ℕ
  pub split : bytes ≡ front ++ rest
  pub written : Appends old new front

-- a writer has gained an answer of this kind
pub record Gains (IsAnswer : List ℕ → Type 0) (old new : Option (List ℕ)) : Type 0 where
  pub answer : List ℕ
  pub is : IsAnswer answer
  pub written : Appends old new answer

-- or has failed in one, and has gained the first of its bytes
pub record GainsFront (IsAnswer : List ℕ → Type 0) (old new : Option (List ℕ)) : Type 0 where
  pub answer : List ℕ
  pub is : IsAnswer answer
  pub begun : AppendsFront old new answer
