-- Several places of a list hold the same.
use Rattle.std.specs.Prelude.{ℕ, List, [], ◌∷◌, slice_set}

abbrev pub all_set : {A : Type 0} → List A → List ℕ → A → List A
all_set xs [] x = xs
all_set xs (k ∷ ks) x = all_set (slice_set xs k x) ks x
