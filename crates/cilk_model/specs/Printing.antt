-- What `printf` writes (C 1990, 7.9.6.3).
use Rattle.std.specs.Prelude.{ℕ, ℤ, ◌==◌, if◌then◌else◌, List, [], ◌∷◌, ◌++◌}
use Rattle.std.specs.Fmt.{signed_decimal}

-- `%d` is the next argument in decimal, and `%%` is `%`; 37 and 100 are the bytes of `%` and `d`
abbrev pub printed : List ℕ → List ℤ → List ℕ
printed [] zs = []
printed (b ∷ []) zs = b ∷ []
printed (b ∷ c ∷ format) [] = if b == 37 then c ∷ printed format [] else b ∷ printed (c ∷ format) []
printed (b ∷ c ∷ format) (z ∷ zs) =
    if b == 37 then (if c == 100 then signed_decimal z ++ printed format zs else c ∷ printed format (z ∷ zs))
    else b ∷ printed (c ∷ format) (z ∷ zs)
