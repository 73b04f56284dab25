-- Programs whose inlets stand at the heads of functions and procedures alone, and not in inner blocks or in inlets.
use Rattle.std.specs.Prelude.{⊤, List, [], ◌∷◌}
use Rattle.cilk_model.specs.syntax.Tree.{Stmt, when, either, while, repeat, loop, switch, nested, Stmts, none, also, declared, inlet_at}
use Rattle.cilk_model.specs.syntax.Tree.{Locals, no_locals, and_local, Block, block, Item, procedure}

-- none of these declarations is an inlet
abbrev pub PlainLocals : Locals → Type 0
PlainLocals no_locals = ⊤
PlainLocals (and_local (declared d) others) = PlainLocals others
PlainLocals (and_local (inlet_at at name parameters body) others) = ⊥

abbrev mutual
  -- no inlet stands in a statement, or in a block
  pub PlainStmt : Stmt → Type 0
  PlainStmt (when test body) = PlainBlock body
  PlainStmt (either test body other) = PlainBlock body × PlainBlock other
  PlainStmt (while test body) = PlainBlock body
  PlainStmt (repeat body test) = PlainBlock body
  PlainStmt (loop first test advance body) = PlainBlock body
  PlainStmt (switch test body) = PlainBlock body
  PlainStmt (nested inside) = PlainBlock inside
  PlainStmt other = ⊤

  pub PlainStmts : Stmts → Type 0
  PlainStmts none = ⊤
  PlainStmts (also first others) = PlainStmt first × PlainStmts others

  pub PlainBlock : Block → Type 0
  PlainBlock (block locals stmts) = PlainLocals locals × PlainStmts stmts

-- no inlet stands in the inlets among these declarations
abbrev pub OuterLocals : Locals → Type 0
OuterLocals no_locals = ⊤
OuterLocals (and_local (declared d) others) = OuterLocals others
OuterLocals (and_local (inlet_at at name parameters body) others) = PlainBlock body × OuterLocals others

abbrev pub OuterBlock : Block → Type 0
OuterBlock (block locals stmts) = OuterLocals locals × PlainStmts stmts

abbrev pub PlainItem : Item → Type 0
PlainItem (procedure p) = OuterBlock p.body
PlainItem other = ⊤

abbrev pub PlainItems : List Item → Type 0
PlainItems [] = ⊤
PlainItems (first ∷ others) = PlainItem first × PlainItems others
