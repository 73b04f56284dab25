-- Lines with their numbers, and the first action on each.
use Rattle.std.specs.Prelude.{◌≡◌, ℕ, List, ◌++◌, codes, decimal, Option}
use Rattle.std.specs.BTreeMap.{BTreeMap, get}
use Rattle.std.specs.Ordering.{nat_cmp}
use Rattle.cilk_machine_agree.specs.model.Listing.{right_in_six, first_text, first_on}

-- the map has the first action on each line, where the actions stand on these lines and the first of them has number n
abbrev pub HasFirsts : BTreeMap ℕ ℕ → ℕ → List ℕ → Type 0
HasFirsts firsts n lines = (k : ℕ) → get nat_cmp firsts k ≡ first_on n lines k

-- line k behind its number and that of its first action
abbrev pub numbered_line : Option ℕ → ℕ → List ℕ → List ℕ
numbered_line first k line = right_in_six (decimal k) ++ (codes " " ++ (first_text first ++ (codes "  " ++ (line ++ codes "\n"))))
