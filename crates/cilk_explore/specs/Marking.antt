-- Links between the logs of a search, and marks of those from which a log without links can be reached.
use Rattle.std.specs.Prelude.{◌≡◌, ◌≢◌, ◌≤◌, ◌⊎◌, ℕ, suc, Bool, true, false, List, [], ◌∷◌, length, Some, slice_get, slice_index_or}

-- along links from the log of this number one can be reached that has none
pub data Reaches (links : List (List ℕ)) : ℕ → Type 0 where
  at_once : (k : ℕ) → slice_get links k ≡ Some [] → Reaches links k
  along : (k place to : ℕ) (own : List ℕ) → slice_get links k ≡ Some own → slice_get own place ≡ Some to → Reaches links to → Reaches links k

abbrev pub mark_of : List Bool → ℕ → Bool
mark_of marks k = slice_index_or marks k false

-- that may be marked of which these are the links: it has none, or one to a log with a mark
abbrev pub MayBeMarked : List ℕ → List Bool → Type 0
MayBeMarked own marks = (own ≡ []) ⊎ ((place : ℕ) × (to : ℕ) × (slice_get own place ≡ Some to) × (mark_of marks to ≡ true))

-- and that may not which has some, each to a log without one
pub record Stays (own : List ℕ) (marks : List Bool) : Type 0 where
  pub some : own ≢ []
  pub each : (place to : ℕ) → slice_get own place ≡ Some to → mark_of marks to ≡ false

abbrev pub AreSound : List (List ℕ) → List Bool → Type 0
AreSound links marks = (k : ℕ) → mark_of marks k ≡ true → Reaches links k

-- the log of this number has a mark, or may not be marked
abbrev pub StaysAt : ℕ → List (List ℕ) → List Bool → Type 0
StaysAt k links marks = mark_of marks k ≡ false → (own : List ℕ) → slice_get links k ≡ Some own → Stays own marks

-- so each from this number on
abbrev pub AreWholeFrom : ℕ → List (List ℕ) → List Bool → Type 0
AreWholeFrom from links marks = (k : ℕ) → from ≤ k → StaysAt k links marks

-- just those logs have a mark from which one can be reached that has no links
pub record AreMarks (links : List (List ℕ)) (marks : List Bool) : Type 0 where
  pub size : length marks ≡ length links
  pub sound : AreSound links marks
  pub whole : AreWholeFrom 0 links marks

-- how many have no mark
abbrev pub unmarked : List Bool → ℕ
unmarked [] = 0
unmarked (true ∷ marks) = unmarked marks
unmarked (false ∷ marks) = suc (unmarked marks)
