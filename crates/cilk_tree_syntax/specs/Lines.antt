-- A text as lines, each behind an indent and before a newline.
use Rattle.std.specs.Prelude.{ℕ, List, [], ◌∷◌, ◌++◌, codes, map}

-- the lines, the indent before each and a newline behind each
abbrev pub text_of : List ℕ → List (List ℕ) → List ℕ
text_of indent [] = []
text_of indent (line ∷ lines) = indent ++ (line ++ (codes "\n" ++ text_of indent lines))

-- a line four spaces further in
abbrev pub one_deeper : List ℕ → List ℕ
one_deeper line = codes "    " ++ line

-- the lines one level deeper
abbrev pub deeper : List (List ℕ) → List (List ℕ)
deeper lines = map one_deeper lines

-- the lines between the braces of a body, one level deeper, and the brace that closes it
abbrev pub closed : List (List ℕ) → List (List ℕ)
closed lines = deeper lines ++ codes "}" ∷ []

-- a line that a semicolon ends
abbrev pub ended : List ℕ → List (List ℕ)
ended text = (text ++ codes ";") ∷ []
