-- The activations of a frame, as their nodes and cells tell them.
use Rattle.std.specs.Prelude.{ℕ, ℤ, max, List, [], ◌∷◌, ◌++◌, take, drop, flat_map, codes, decimal, Option, Some, None, option_and_then}
use Rattle.cilk_machine_agree.specs.syntax.Tree.{Program}
use Rattle.cilk_machine_agree.specs.nodes.declared.node.Node.{Node}
use Rattle.cilk_machine_agree.specs.nodes.declared.var.Var.{Var}
use Rattle.cilk_machine_agree.specs.nodes.declared.body.Body.{Body}
use Rattle.cilk_machine_agree.specs.nodes.Table.{node_of}
use Rattle.cilk_machine_agree.specs.nodes.Bodies.{body_of}
use Rattle.cilk_machine_agree.specs.frame.Frames.{Activation, Frame}
use Rattle.cilk_machine_agree.specs.model.Texts.{length_text, values_text}
use Rattle.cilk_view.specs.WhereLines.{line_number}

-- the body that action n stands in
abbrev pub body_with : Program → ℕ → Option Body
body_with p n = option_and_then (λ (node : Node). body_of p node.body) (node_of p n)

-- the variables one after another, the first of which has the first of these cells
abbrev pub vars_text : List Var → List ℤ → List ℕ
vars_text [] cells = []
vars_text (v ∷ vars) cells =
    codes "    " ++ (v.name ++ (length_text v.length ++ (codes " =" ++ (values_text (take (max v.length 1) cells)
    ++ (codes "\n" ++ vars_text vars (drop (max v.length 1) cells))))))

abbrev pub body_text : Program → ℕ → List ℤ → Option Body → List ℕ
body_text p n cells None = []
body_text p n cells (Some body) = body.name ++ (codes " line " ++ (decimal (line_number p n) ++ (codes "\n" ++ vars_text body.vars cells)))

-- one that goes on with action n and has these cells
abbrev pub activation_by : Program → Activation → List ℕ
activation_by p a = body_text p a.node a.cells (body_with p a.node)

abbrev pub frame_by : Program → Frame → List ℕ
frame_by p f = flat_map (activation_by p) f.activations
