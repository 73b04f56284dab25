-- How much room a program takes, and what it starts with.
use Rattle.std.specs.Prelude.{◌≡◌, ℕ, ◌<◌, ◌≤◌, pos, ◌⊎◌, List, length, slice_get, codes, Some}
use Rattle.cilk_eval.specs.syntax.declared.return_type.ReturnType.TheVariants.{Int}
use Rattle.cilk_eval.specs.scopes.declared.owner.Owner.TheVariants.{Procedure}
use Rattle.cilk_eval.specs.labelled.Labelled.{Variable, Body, Labelled}
use Rattle.cilk_eval.specs.model.Instance.{body_at}
use Rattle.cilk_eval.specs.nodes.Slots.{cells_of}

-- so many cells at most, and no array of more than 65,536 elements
pub record HasRoom (most : ℕ) (variables : List Variable) : Type 0 where
  pub few_cells : cells_of variables ≤ most
  pub short : (n : ℕ) (v : Variable) → slice_get variables n ≡ Some v → v.length ≤ 65536

-- the parameters come first among the variables, and are no arrays (C 1990, 6.3.2.2)
pub record ParametersFirst (body : Body) : Type 0 where
  pub are_there : body.parameters ≤ length body.variables
  pub scalars : (n : ℕ) (v : Variable) → n < body.parameters → slice_get body.variables n ≡ Some v → v.length ≡ 0

-- its one parameter is told that the command line has one word (C 1990, 5.1.2.2.1)
pub record IsTold (body : Body) : Type 0 where
  pub one : body.parameters ≡ 1
  pub first : Variable
  pub is_first : slice_get body.variables 0 ≡ Some first
  pub holds_one : first.initial ≡ pos 1

-- the program starts with body b, a `cilk int main` (Cilk 5.4 manual, `main`)
pub record StartsWith (program : Labelled) (b : ℕ) : Type 0 where
  pub is_main : program.main ≡ Some b
  pub is_there : b < length program.bodies
  pub owner : (body_at program b).owner ≡ Procedure Int
  pub named : (body_at program b).name ≡ codes "main"
  pub parameters : ((body_at program b).parameters ≡ 0) ⊎ IsTold (body_at program b)
