-- The activations of a live instance.
use Rattle.std.specs.Prelude.{ℕ, List, [], ◌∷◌, ◌++◌, codes, decimal, flat_map, reverse}
use Rattle.cilk_model.specs.labelled.Labelled.{Variable, Labelled}
use Rattle.cilk_model.specs.Values.{Values}
use Rattle.cilk_model.specs.Instance.{Activation, Instance, body_at}
use Rattle.cilk_model.specs.Texts.{variable_text, line_at}

-- a line for each variable, in the order of the text
abbrev pub variables_text : List Variable → Values → List ℕ
variables_text [] values = []
variables_text (v ∷ variables) [] = []
variables_text (v ∷ variables) (cells ∷ values) = codes "    " ++ (variable_text v cells ++ (codes "\n" ++ variables_text variables values))

-- the name of its body, the line on which it goes on, and its variables
abbrev pub activation_text : Labelled → Activation → List ℕ
activation_text program a =
    (body_at program a.body).name ++ (codes " line " ++ (decimal (line_at program a.items)
    ++ (codes "\n" ++ variables_text (body_at program a.body).variables a.values)))

-- from the procedure's own activation up
abbrev pub frame_text : Labelled → Instance → List ℕ
frame_text program i = flat_map (activation_text program) (reverse (i.top ∷ i.below))
