-- The canonical text of what stands on one line of a body: assignments, calls, spawns and declarations.
use Rattle.std.specs.Prelude.{ℕ, List, [], ◌∷◌, ◌++◌, codes, decimal, Option, Some, None, ◌==◌, if◌then◌else◌}
use Rattle.cilk_tree_syntax.specs.declared.lock_action.LockAction.{LockAction}
use Rattle.cilk_tree_syntax.specs.declared.operator.BinOp.{BinOp}
use Rattle.cilk_tree_syntax.specs.Tree.{Word, Literal, Expr, Place, Target, Move, assign, adjust, call, Taker, nothing, into, through, Shape}
use Rattle.cilk_tree_syntax.specs.Tree.{variable, array, Decl}
use Rattle.cilk_tree_syntax.specs.OperatorMark.{mark_of}
use Rattle.cilk_tree_syntax.specs.Adjustments.{adjustment_mark}
use Rattle.cilk_tree_syntax.specs.LockWord.{lock_word}
use Rattle.cilk_tree_syntax.specs.ExprText.{expr_text}

-- expressions, a comma before each
abbrev pub next_exprs_text : List Expr → List ℕ
next_exprs_text [] = []
next_exprs_text (x ∷ xs) = codes ", " ++ (expr_text x ++ next_exprs_text xs)

-- expressions, a comma between two
abbrev pub exprs_text : List Expr → List ℕ
exprs_text [] = []
exprs_text (x ∷ xs) = expr_text x ++ next_exprs_text xs

-- a call (C 1990, 6.3.2.2)
abbrev pub call_text : Word → List Expr → List ℕ
call_text callee arguments = callee.text ++ (codes "(" ++ (exprs_text arguments ++ codes ")"))

-- the subscript, if there is one (C 1990, 6.3.2.1)
abbrev pub index_text : Option Expr → List ℕ
index_text None = []
index_text (Some index) = codes "[" ++ (expr_text index ++ codes "]")

abbrev pub place_text : Place → List ℕ
place_text p = p.name.text ++ index_text p.index

-- the operator before a `=`, if there is one
abbrev pub op_text : Option BinOp → List ℕ
op_text None = []
op_text (Some op) = mark_of op

-- the left side of an assignment with its `=` (C 1990, 6.3.16)
abbrev pub target_text : Target → List ℕ
target_text t = place_text t.place ++ (codes " " ++ (op_text t.op ++ codes "= "))

-- the same, where there is one
abbrev pub receiver_text : Option Target → List ℕ
receiver_text None = []
receiver_text (Some target) = target_text target

abbrev pub move_text : Move → List ℕ
move_text (assign target value) = target_text target ++ expr_text value
move_text (adjust place by) = place_text place ++ adjustment_mark by
move_text (call target callee arguments) = receiver_text target ++ call_text callee arguments

-- what stands before the word `spawn`: the place that the child's value goes into, or the inlet (Cilk 5.4 manual, `inlet`)
abbrev pub before_text : Taker → List ℕ
before_text nothing = []
before_text (into target) = target_text target
before_text (through inlet others) = inlet.text ++ codes "("

-- what stands behind the call that is spawned: what an inlet is given behind the value
abbrev pub behind_text : Taker → List ℕ
behind_text nothing = []
behind_text (into target) = []
behind_text (through inlet others) = next_exprs_text others ++ codes ")"

-- a spawn (Cilk 5.4 manual, `spawn`)
abbrev pub spawn_text : Taker → Word → List Expr → List ℕ
spawn_text taker callee arguments = before_text taker ++ (codes "spawn " ++ (call_text callee arguments ++ behind_text taker))

-- how a byte is written in a text literal (C 1990, 6.1.3.4)
abbrev pub escape : ℕ → List ℕ
escape b = if b == 10 then codes "\\n" else (if b == 9 then codes "\\t" else (if b == 92 then codes "\\\\" else (if b == 34 then codes "\\\"" else b ∷ [])))

abbrev pub escapes : List ℕ → List ℕ
escapes [] = []
escapes (b ∷ bs) = escape b ++ escapes bs

-- a text literal (C 1990, 6.1.4)
abbrev pub literal_text : Literal → List ℕ
literal_text l = codes "\"" ++ (escapes l.bytes ++ codes "\"")

-- `printf` (C 1990, 7.9.6.3)
abbrev pub print_text : Literal → List Expr → List ℕ
print_text format arguments = codes "printf(" ++ (literal_text format ++ (next_exprs_text arguments ++ codes ")"))

-- a call of a lock (Cilk 5.4 manual, locks)
abbrev pub locking_text : LockAction → Word → List ℕ
locking_text action name = lock_word action ++ (codes "(" ++ (name.text ++ codes ")"))

-- `return`, and the value, if there is one (C 1990, 6.6.6.4)
abbrev pub return_text : Option Expr → List ℕ
return_text None = codes "return"
return_text (Some value) = codes "return " ++ expr_text value

-- the length of an array
abbrev pub length_text : ℕ → List ℕ
length_text length = codes "[" ++ (decimal length ++ codes "]")

-- the initialiser, if there is one, or the length of an array
abbrev pub shape_text : Shape → List ℕ
shape_text (variable None) = []
shape_text (variable (Some value)) = codes " = " ++ expr_text value
shape_text (array length) = length_text length

-- a declaration (C 1990, 6.5)
abbrev pub decl_text : Decl → List ℕ
decl_text d = codes "int " ++ (d.name.text ++ shape_text d.shape)
