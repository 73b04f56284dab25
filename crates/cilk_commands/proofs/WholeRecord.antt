-- What was read of a reader up to a limit is all of it, where it is shorter.
use Rattle.std.proofs.Common.{◌≡◌, ℕ, ◌+◌, ◌≤◌, ◌<◌, List, [], ◌++◌, length, take, Option, Some, None, option_map, ◌∙◌, subst, ◌⊎◌, inl, inr, arith}
use Rattle.std.specs.Prelude.{IfSome}
use Rattle.std.proofs.lemmas.Bool.{cases_lt}
use Rattle.std.proofs.lemmas.List.{take_all, length-take-le}
use Rattle.cilk_commands.specs.Held.{IsAllOf}

whole : (most : ℕ) (bytes : List ℕ) → length (take (most + 1) bytes) ≤ most → take (most + 1) bytes ≡ bytes
whole most bytes short = at (cases_lt most (length bytes))
  where
    at : (most < length bytes) ⊎ (length bytes ≤ most) → take (most + 1) bytes ≡ bytes
    at (inl longer) = absurd (omega (arith, length-take-le (most + 1) bytes (omega arith), short))
    at (inr within) = take_all (most + 1) bytes (omega arith)

pub all_of : (known held : Option (List ℕ)) (limit most : ℕ) (start text : List ℕ) → held ≡ known → limit ≡ (most + 1) → start ≡ []
    → IfSome (option_map (take limit) held) (λ bytes. text ≡ start ++ bytes) → length text ≤ most → IsAllOf known text
all_of None held limit most start text same limited empty read short = tt
all_of (Some bytes) held limit most start text same limited empty read short =
    let known_read : IfSome (option_map (take (most + 1)) (Some bytes)) (λ xs. text ≡ [] ++ xs) =
    subst (λ s. IfSome (option_map (take (most + 1)) (Some bytes)) (λ xs. text ≡ s ++ xs)) empty
    (subst (λ n. IfSome (option_map (take n) (Some bytes)) (λ xs. text ≡ start ++ xs)) limited
    (subst (λ k. IfSome (option_map (take limit) k) (λ xs. text ≡ start ++ xs)) same read)) in
    known_read ∙ whole most bytes (subst (λ (xs : List ℕ). length xs ≤ most) known_read short)
