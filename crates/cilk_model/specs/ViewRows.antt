-- Views of worked programs.
use Rattle.std.specs.Prelude.{ℕ, List, [], ◌∷◌, Option, Some, codes, option_and_then}
use Rattle.cilk_check_scopes.specs.syntax.declared.operator.BinOp.TheVariants.{Multiply}
use Rattle.cilk_check_scopes.specs.syntax.declared.return_type.ReturnType.TheVariants.{Int}
use Rattle.cilk_check_scopes.specs.syntax.Tree.{Program, number, binary}
use Rattle.cilk_model.specs.labelled.Bodies.{label}
use Rattle.cilk_model.specs.Choice.{Choice}
use Rattle.cilk_model.specs.Run.{after}
use Rattle.cilk_model.specs.Trees.{name, int, returns, procedure, program}
use Rattle.cilk_model.specs.What.{What}
use Rattle.cilk_model.specs.Views.{view}

-- the view after these choices of so many workers, where m choices are known
abbrev pub view_after : Program → ℕ → List Choice → ℕ → What → Option (List ℕ)
view_after what n choices m seen = option_and_then (λ at. view what at m seen) (after (label what) n choices)

-- cilk int main(void) { int x = 2; return x * 21; }
abbrev pub short : Program
short = program (procedure Int (codes "main") [] (int (codes "x") (Some (number 2)) ∷ [])
    (returns (binary Multiply (name (codes "x")) (number 21)) ∷ []) ∷ [])
