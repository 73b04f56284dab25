-- The conversions of a format (C 1990, 7.9.6.1).
use Rattle.std.specs.Prelude.{ℕ, suc, List, [], ◌∷◌, Option, Some, None, option_map, ◌==◌, if◌then◌else◌}

-- how many `%d` stand in a format, `%%` being a percent sign; none, where a `%` stands before another character or at the end
abbrev pub numbers_in : List ℕ → Option ℕ
numbers_in [] = Some 0
numbers_in (b ∷ []) = if b == 37 then None else Some 0
numbers_in (b ∷ c ∷ bs) =
    if b == 37
    then (if c == 100 then option_map suc (numbers_in bs) else (if c == 37 then numbers_in bs else None))
    else numbers_in (c ∷ bs)
