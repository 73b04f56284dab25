-- What stands in a program, and what surrounds it there.
use Rattle.std.specs.Prelude.{Bool, true, false, List, [], ◌∷◌, ◌++◌, map, flat_map, option_to_list, Option, Some, None}
use Rattle.cilk_tree_syntax.specs.declared.return_type.ReturnType.{ReturnType}
use Rattle.cilk_tree_syntax.specs.Tree.{Word}
use Rattle.cilk_tree_syntax.specs.Tree as tree
use Rattle.cilk_check_scopes.specs.declared.owner.Owner.{Owner}
use Rattle.cilk_check_scopes.specs.declared.owner.Owner.TheVariants.{Function, Procedure, Inlet}
use Rattle.cilk_check_scopes.specs.declared.within.Within.{Within}
use Rattle.cilk_check_scopes.specs.Within.{whole_body, inner_block, loop_block, switch_block}
use Rattle.cilk_check_scopes.specs.Scopes.{Declared, Scopes, declare, enter, declare_all, parameter, parameters_declare, local_declares, file_scopes}

-- what is visible at a part, and where in a body it stands
pub record Around : Type 0 where
  pub scopes : Scopes
  pub within : Within

-- what a block is made of
pub data Part : Type 0 where
  -- one of its declarations (C 1990, 6.6.2)
  local : (what : tree.Local) → Part
  -- one of its statements (C 1990, 6.6)
  statement : (what : tree.Stmt) → Part

-- a part, and what surrounds it
pub record PartInContext : Type 0 where
  pub around : Around
  pub part : Part

-- what surrounds the parts of an inner block, which is a scope of its own (C 1990, 6.1.2.1)
abbrev pub inner : Around → Around
inner a = record { scopes = enter a.scopes; within = inner_block a.within }

-- of the block of a loop (C 1990, 6.6.5)
abbrev pub looped : Around → Around
looped a = record { scopes = enter a.scopes; within = loop_block a.within }

-- of the block of a `switch` (C 1990, 6.6.4.2)
abbrev pub switched : Around → Around
switched a = record { scopes = enter a.scopes; within = switch_block a.within }

-- of what stands behind a declaration: a name is visible from its declarator on
abbrev pub after_local : Around → tree.Local → Around
after_local a l = record a { scopes = declare a.scopes (local_declares l) }

abbrev pub after_locals : Around → tree.Locals → Around
after_locals a tree.no_locals = a
after_locals a (tree.and_local first others) = after_locals (after_local a first) others

-- of the outermost block of a body: one scope with the parameters
abbrev pub in_body : Scopes → Owner → List Declared → Around
in_body scopes owner parameters = record { scopes = declare_all (enter scopes) parameters; within = whole_body owner }

-- of that of an inlet: its own name is visible there
abbrev pub in_inlet : Around → tree.Local → List Word → Around
in_inlet a definition parameters = in_body (after_local a definition).scopes Inlet (map parameter parameters)

abbrev mutual
  -- the parts of a block, in the order of the text
  pub block_parts : Around → tree.Block → List PartInContext
  block_parts a (tree.block locals stmts) = locals_parts a locals ++ stmts_parts (after_locals a locals) stmts

  pub locals_parts : Around → tree.Locals → List PartInContext
  locals_parts a tree.no_locals = []
  locals_parts a (tree.and_local first others) =
      record { around = a; part = local first } ∷ (within_local a first ++ locals_parts (after_local a first) others)

  -- those inside a declaration: the body of an inlet
  pub within_local : Around → tree.Local → List PartInContext
  within_local a (tree.declared d) = []
  within_local a (tree.inlet_at at name parameters body) = block_parts (in_inlet a (tree.inlet_at at name parameters body) parameters) body

  pub stmts_parts : Around → tree.Stmts → List PartInContext
  stmts_parts a tree.none = []
  stmts_parts a (tree.also first others) =
      record { around = a; part = statement first } ∷ (within_stmt a first ++ stmts_parts a others)

  -- those inside a statement
  pub within_stmt : Around → tree.Stmt → List PartInContext
  within_stmt a (tree.when test body) = block_parts (inner a) body
  within_stmt a (tree.either test body other) = block_parts (inner a) body ++ block_parts (inner a) other
  within_stmt a (tree.while test body) = block_parts (looped a) body
  within_stmt a (tree.repeat body test) = block_parts (looped a) body
  within_stmt a (tree.loop first test advance body) = block_parts (looped a) body
  within_stmt a (tree.switch test body) = block_parts (switched a) body
  within_stmt a (tree.nested inside) = block_parts (inner a) inside
  within_stmt a other = []

abbrev pub owner_of : Bool → ReturnType → Owner
owner_of true returns = Procedure returns
owner_of false returns = Function returns

abbrev pub item_parts : Scopes → tree.Item → List PartInContext
item_parts file (tree.procedure f) = block_parts (in_body file (owner_of f.is_cilk f.returns) (parameters_declare f.parameters)) f.body
item_parts file (tree.global g) = []
item_parts file (tree.lock name) = []
item_parts file (tree.prototype q) = []

-- the parts of the bodies of a program
abbrev pub parts_of : tree.Program → List PartInContext
parts_of p = flat_map (item_parts (file_scopes p.items)) p.items

-- The expressions that stand in a part itself, and not in a block inside it.

-- a subscript (C 1990, 6.3.2.1)
abbrev pub place_exprs : tree.Place → List tree.Expr
place_exprs place = option_to_list place.index

abbrev pub target_exprs : Option tree.Target → List tree.Expr
target_exprs None = []
target_exprs (Some target) = place_exprs target.place

abbrev pub move_exprs : tree.Move → List tree.Expr
move_exprs (tree.assign target value) = target_exprs (Some target) ++ value ∷ []
move_exprs (tree.adjust place by) = place_exprs place
move_exprs (tree.call target callee arguments) = target_exprs target ++ arguments

abbrev pub moves_exprs : Option tree.Move → List tree.Expr
moves_exprs None = []
moves_exprs (Some move) = move_exprs move

abbrev pub taker_exprs : tree.Taker → List tree.Expr
taker_exprs tree.nothing = []
taker_exprs (tree.into target) = target_exprs (Some target)
taker_exprs (tree.through name others) = others

abbrev pub stmt_exprs : tree.Stmt → List tree.Expr
stmt_exprs (tree.move what) = move_exprs what
stmt_exprs (tree.spawn_at at taker callee arguments) = taker_exprs taker ++ arguments
stmt_exprs (tree.print format arguments) = arguments
stmt_exprs (tree.return_at at value) = option_to_list value
stmt_exprs (tree.when test body) = test ∷ []
stmt_exprs (tree.either test body other) = test ∷ []
stmt_exprs (tree.while test body) = test ∷ []
stmt_exprs (tree.repeat body test) = test ∷ []
stmt_exprs (tree.loop first test advance body) = moves_exprs first ++ test ∷ moves_exprs advance
stmt_exprs (tree.switch test body) = test ∷ []
stmt_exprs other = []

abbrev pub shape_exprs : tree.Shape → List tree.Expr
shape_exprs (tree.variable value) = option_to_list value
shape_exprs (tree.array n) = []

abbrev pub local_exprs : tree.Local → List tree.Expr
local_exprs (tree.declared d) = shape_exprs d.shape
local_exprs (tree.inlet_at at name parameters body) = []

abbrev pub part_exprs : Part → List tree.Expr
part_exprs (local what) = local_exprs what
part_exprs (statement what) = stmt_exprs what

-- what is visible in these: a declared name in its own initialiser too
abbrev pub visible_in : Scopes → Part → Scopes
visible_in scopes (local what) = declare scopes (local_declares what)
visible_in scopes (statement what) = scopes
