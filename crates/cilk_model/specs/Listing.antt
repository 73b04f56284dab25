-- The canonical text with the numbers of its lines and actions.
use Rattle.std.specs.Prelude.{ℕ, suc, ◌-◌, ◌==◌, if◌then◌else◌, List, [], ◌∷◌, ◌++◌, length, replicate, codes, decimal, Option, Some, None}
use Rattle.cilk_check_scopes.specs.syntax.Tree.{Program}
use Rattle.cilk_check_scopes.specs.syntax.ProgramText.{program_text}
use Rattle.cilk_model.specs.labelled.Lines.{action_lines}

-- a byte in front of the first line
abbrev pub before_first : ℕ → List (List ℕ) → List (List ℕ)
before_first b [] = (b ∷ []) ∷ []
before_first b (line ∷ lines) = (b ∷ line) ∷ lines

-- the lines of a text; 10 is the newline
abbrev pub lines_in : List ℕ → List (List ℕ)
lines_in [] = []
lines_in (b ∷ text) = if b == 10 then [] ∷ lines_in text else before_first b (lines_in text)

-- so many blanks
abbrev pub blanks : ℕ → List ℕ
blanks n = replicate n 32

-- right in six places; a longer one takes its own length
abbrev pub right_in_six : List ℕ → List ℕ
right_in_six text = blanks (6 - length text) ++ text

-- among actions that stand on these lines, and the first of which has number n, the number of the first one on line k
abbrev pub first_on : ℕ → List ℕ → ℕ → Option ℕ
first_on n [] k = None
first_on n (l ∷ lines) k = if l == k then Some n else first_on (suc n) lines k

abbrev pub first_text : Option ℕ → List ℕ
first_text None = blanks 6
first_text (Some n) = right_in_six (decimal n)

-- each line behind its number, the first of which is k, and behind that of its first action
abbrev pub numbered_text : List ℕ → ℕ → List (List ℕ) → List ℕ
numbered_text actions k [] = []
numbered_text actions k (line ∷ lines) =
    right_in_six (decimal k) ++ (codes " " ++ (first_text (first_on 1 actions k)
    ++ (codes "  " ++ (line ++ (codes "\n" ++ numbered_text actions (suc k) lines)))))

abbrev pub list_text : Program → List ℕ
list_text p = numbered_text (action_lines p) 1 (lines_in (program_text p))
