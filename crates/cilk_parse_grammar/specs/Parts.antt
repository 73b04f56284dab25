-- What the rules of the grammar name, and what each of these means.
use Rattle.std.specs.Prelude.{ℕ, List, Some}
use Rattle.cilk_tree_syntax.specs.lexeme.declared.header.Header.{Header}
use Rattle.cilk_tree_syntax.specs.lexeme.declared.keyword.Keyword.{Keyword}
use Rattle.cilk_tree_syntax.specs.Tree.{Word, Literal, Expr, Target, Move, assign, call, Stmt, Local}

-- one token
pub data Leaf : Type 0 where
  -- a word, which means its place
  the_word : Keyword → Leaf
  -- a name of one of these classes
  the_name : List ℕ → Leaf
  the_number : Leaf
  the_literal : Leaf
  the_header : Leaf

-- what may stand in others, and others in it, so deep as the limit allows
pub data Nest : Type 0 where
  a_statement : Nest
  -- a statement that is no block
  no_block : Nest
  an_inlet : Nest

pub data Part : Type 0 where
  token : Leaf → Part
  an_expr : Part
  -- what an assignment writes
  a_value : Part
  nest : Nest → Part

-- an expression, or a call of a C function
pub data Value : Type 0 where
  computed : (value : Expr) → Value
  called : (callee : Word) (arguments : List Expr) → Value

abbrev pub LeafMeans : Leaf → Type 0
LeafMeans (the_word w) = ℕ
LeafMeans (the_name cs) = Word
LeafMeans the_number = ℕ
LeafMeans the_literal = Literal
LeafMeans the_header = Header

abbrev pub NestMeans : Nest → Type 0
NestMeans a_statement = Stmt
NestMeans no_block = Stmt
NestMeans an_inlet = Local

abbrev pub Means : Part → Type 0
Means (token t) = LeafMeans t
Means an_expr = Expr
Means a_value = Value
Means (nest p) = NestMeans p

-- an assignment of the value (C 1990, 6.3.16)
abbrev pub assigned : Target → Value → Move
assigned target (computed value) = assign target value
assigned target (called callee arguments) = call (Some target) callee arguments
