-- The links of each log that was looked at, and those of the one that is looked at: all stand in one list, and another one tells where those of each log end.
use Rattle.std.specs.Prelude.{◌≤◌, ℕ, zero, suc, List, [], ◌∷◌, drop, slice_range}

pub record Linkage : Type 0 where
  pub past : List (List ℕ)
  pub here : List ℕ

abbrev pub past_from : ℕ → List ℕ → List ℕ → List (List ℕ)
past_from from [] numbers = []
past_from from (end ∷ ends) numbers = slice_range numbers from end ∷ past_from end ends numbers

abbrev pub last_end : ℕ → List ℕ → ℕ
last_end from [] = from
last_end from (end ∷ ends) = last_end end ends

abbrev pub linkage_of : List ℕ → List ℕ → Linkage
linkage_of ends numbers = record { past = past_from 0 ends numbers; here = drop (last_end 0 ends) numbers }

-- where those of the log of this number begin
abbrev pub start_of : ℕ → List ℕ → ℕ → ℕ
start_of from ends zero = from
start_of from [] (suc k) = from
start_of from (end ∷ ends) (suc k) = start_of end ends k

-- no end is before another, and none behind all that there is
abbrev pub AreEnds : ℕ → List ℕ → ℕ → Type 0
AreEnds from [] size = from ≤ size
AreEnds from (end ∷ ends) size = (from ≤ end) × AreEnds end ends size
