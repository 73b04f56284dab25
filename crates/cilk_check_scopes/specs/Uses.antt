-- The uses of names in a program: what each name is used as.
use Rattle.std.specs.Prelude.{◌+◌, Bool, true, false, List, [], ◌∷◌, ◌++◌, flat_map, length, Option, Some, None, is_some}
use Rattle.cilk_tree_syntax.specs.Tree.{Word}
use Rattle.cilk_tree_syntax.specs.Tree as tree
use Rattle.cilk_check_scopes.specs.Scopes.{Scopes}
use Rattle.cilk_check_scopes.specs.Parts.{Part, local, statement, parts_of, part_exprs, visible_in}
use Rattle.cilk_check_scopes.specs.declared.role.Role.{Role}
use Rattle.cilk_check_scopes.specs.declared.role.Role.TheVariants.{Variable, Array, Lock, Called, Spawned, Fed}

-- a use of a name, and what is visible there
pub record Use : Type 0 where
  pub scopes : Scopes
  pub name : Word
  pub role : Role

abbrev pub use_as : Scopes → Word → Role → Use
use_as scopes name role = record { scopes = scopes; name = name; role = role }

-- what an expression uses (C 1990, 6.3)
abbrev pub expr_uses : Scopes → tree.Expr → List Use
expr_uses scopes (tree.number n) = []
expr_uses scopes (tree.named name) = use_as scopes name Variable ∷ []
expr_uses scopes (tree.element name index) = use_as scopes name Array ∷ expr_uses scopes index
expr_uses scopes (tree.synched at) = []
expr_uses scopes (tree.binary op left right) = expr_uses scopes left ++ expr_uses scopes right
expr_uses scopes (tree.unary op operand) = expr_uses scopes operand
expr_uses scopes (tree.choose test first second) = expr_uses scopes test ++ (expr_uses scopes first ++ expr_uses scopes second)

-- The names that a statement itself has outside its expressions.

abbrev pub place_role : Option tree.Expr → Role
place_role None = Variable
place_role (Some index) = Array

abbrev pub place_uses : Scopes → tree.Place → List Use
place_uses scopes place = use_as scopes place.name (place_role place.index) ∷ []

abbrev pub target_uses : Scopes → Option tree.Target → List Use
target_uses scopes None = []
target_uses scopes (Some target) = place_uses scopes target.place

abbrev pub move_uses : Scopes → tree.Move → List Use
move_uses scopes (tree.assign target value) = target_uses scopes (Some target)
move_uses scopes (tree.adjust place by) = place_uses scopes place
move_uses scopes (tree.call target callee arguments) =
    target_uses scopes target ++ use_as scopes callee (Called (length arguments) (is_some target)) ∷ []

abbrev pub moves_uses : Scopes → Option tree.Move → List Use
moves_uses scopes None = []
moves_uses scopes (Some move) = move_uses scopes move

abbrev pub taker_uses : Scopes → tree.Taker → List Use
taker_uses scopes tree.nothing = []
taker_uses scopes (tree.into target) = target_uses scopes (Some target)
taker_uses scopes (tree.through name others) = use_as scopes name (Fed (length others + 1)) ∷ []

abbrev pub takes_value : tree.Taker → Bool
takes_value tree.nothing = false
takes_value (tree.into target) = true
takes_value (tree.through name others) = true

abbrev pub stmt_uses : Scopes → tree.Stmt → List Use
stmt_uses scopes (tree.move what) = move_uses scopes what
stmt_uses scopes (tree.spawn_at at taker callee arguments) =
    taker_uses scopes taker ++ use_as scopes callee (Spawned (length arguments) (takes_value taker)) ∷ []
stmt_uses scopes (tree.locking action name) = use_as scopes name Lock ∷ []
stmt_uses scopes (tree.loop first test advance body) = moves_uses scopes first ++ moves_uses scopes advance
stmt_uses scopes other = []

-- what a part itself uses: these names, and those in its expressions
abbrev pub own_uses : Scopes → Part → List Use
own_uses scopes (local what) = []
own_uses scopes (statement what) = stmt_uses scopes what

abbrev pub part_uses : Scopes → Part → List Use
part_uses scopes part =
    own_uses (visible_in scopes part) part ++ flat_map (expr_uses (visible_in scopes part)) (part_exprs part)

-- all uses of names in a program
abbrev pub uses_of : tree.Program → List Use
uses_of p = flat_map (λ s. part_uses s.around.scopes s.part) (parts_of p)
