-- What a reader held, where it is known, and what was read of it.
use Rattle.std.specs.Prelude.{ℕ, List, ◌≡◌, ◌+◌, Option, IfSome, take}
use Rattle.cilk_check_explain.specs.lex.declared.reading.TheConstants.{TEXT_LIMIT}

-- what is read of the bytes of a text, where they are known: all of them, or one more than a text may have
abbrev pub IsReadOf : Option (List ℕ) → List ℕ → Type 0
IsReadOf known text = IfSome known (λ bytes. text ≡ take (TEXT_LIMIT + 1) bytes)

-- all of the bytes, where they are known
abbrev pub IsAllOf : Option (List ℕ) → List ℕ → Type 0
IsAllOf known bytes = IfSome known (λ all. bytes ≡ all)

-- the bytes that a reader held are so; where those are not known, some are
pub record Held (known : Option (List ℕ)) (Are : List ℕ → Type 0) : Type 0 where
  pub bytes : List ℕ
  pub held : IfSome known (λ all. bytes ≡ all)
  pub are : Are bytes
