-- Variables as views show them, and lines.
use Rattle.std.specs.Prelude.{ℕ, zero, suc, ℤ, List, [], ◌∷◌, ◌++◌, codes, decimal, unwrap_or, option_and_then}
use Rattle.std.specs.Fmt.{signed_decimal}
use Rattle.cilk_model.specs.labelled.Labelled.{Numbered, Variable, Labelled}
use Rattle.cilk_model.specs.labelled.Items.{Items, head_of}
use Rattle.cilk_model.specs.End.{line_of}

-- a space before each
abbrev pub values_text : List ℤ → List ℕ
values_text [] = []
values_text (z ∷ zs) = codes " " ++ (signed_decimal z ++ values_text zs)

-- how many elements an array has; 0 is the length of a variable that is no array
abbrev pub length_text : ℕ → List ℕ
length_text zero = []
length_text (suc n) = codes "[" ++ (decimal (suc n) ++ codes "]")

-- a variable and what its cells hold
abbrev pub variable_text : Variable → List ℤ → List ℕ
variable_text v cells = v.name ++ (length_text v.length ++ (codes " =" ++ values_text cells))

-- the line of the canonical text on which the head of opened items stands
abbrev pub line_at : Labelled → Items → ℕ
line_at program items = unwrap_or (option_and_then (λ (h : Numbered). line_of program h.number) (head_of items)) 0
