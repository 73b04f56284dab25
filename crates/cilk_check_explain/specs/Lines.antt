-- The line of a place, and the mark under the place.
use Rattle.std.specs.Prelude.{ℕ, List, [], ◌∷◌, ◌++◌, take, drop, flat_map, codes, Bool, ◌==◌, if◌then◌else◌}
use Rattle.std.specs.List.{after_last, before_first}
use Rattle.std.specs.Int.{is_in_range}
use Rattle.cilk_check_scopes.specs.lexeme.LineColumn.{is_newline}

-- what stands on its line before a place
abbrev pub line_front : List ℕ → ℕ → List ℕ
line_front text at = after_last is_newline (take at text)

-- what stands on its line from a place on
abbrev pub line_rest : List ℕ → ℕ → List ℕ
line_rest text at = before_first is_newline (drop at text)

-- a byte that goes on with a character (UTF-8)
abbrev pub goes_on : ℕ → Bool
goes_on b = is_in_range 128 191 b

-- a tab for a tab, and a space for each other character
abbrev pub blank_for : ℕ → List ℕ
blank_for b = if goes_on b then [] else (if b == 9 then 9 ∷ [] else 32 ∷ [])

-- the line of a place, and below it a caret under the place
abbrev pub place_lines : List ℕ → ℕ → List ℕ
place_lines text at =
    line_front text at ++ (line_rest text at ++ (codes "\n" ++ (flat_map blank_for (line_front text at) ++ codes "^\n")))
