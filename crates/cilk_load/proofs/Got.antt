-- What `get` finds in a table.
use Rattle.std.proofs.Common.{◌≡◌, ℕ, ◌<◌, ◌≤◌, ◌⊎◌, inl, inr, true, false, nat_lt, List, length, Option, Some, None, sym, refl}
use Rattle.std.specs.Prelude.{IfSome, slice_get, slice_index_or, is_some, option_copied}
use Rattle.std.proofs.lemmas.Option.{slice_get_past, slice_get_read}
use Rattle.std.proofs.lemmas.Bool.{lt-ltb, le-ltb, cases_lt}
use denote.Ref.{Bor}

pub got : {X : Type 0} (xs : List X) (k : ℕ) (o : Option (Bor X)) → is_some o ≡ nat_lt k (length xs)
    → IfSome o (λ (x : Bor X). x.now ≡ slice_index_or xs k x.now) → option_copied o ≡ slice_get xs k
got xs k None h e = by_test (cases_lt k (length xs))
  where
    by_test : (k < length xs) ⊎ (length xs ≤ k) → None ≡ slice_get xs k
    by_test (inl l) = let there : nat_lt k (length xs) ≡ true = lt-ltb k (length xs) l in cc
    by_test (inr l) = sym (slice_get_past xs k l)
got xs k (Some r) h e = by_test (cases_lt k (length xs))
  where
    by_test : (k < length xs) ⊎ (length xs ≤ k) → Some r.now ≡ slice_get xs k
    by_test (inl l) = sym (slice_get_read xs (length xs) k r.now refl l e)
    by_test (inr l) = let past : nat_lt k (length xs) ≡ false = le-ltb k (length xs) l in cc
