-- The canonical text tells nothing of places.
use Rattle.std.proofs.Common.{◌≡◌, ℕ, List, [], ◌∷◌, ◌++◌, codes, map, Option, Some, None, refl, ap, sym, ◌∙◌}
use Rattle.cilk_tree_syntax.specs.OperatorMark.{mark_of, sign_of}
use Rattle.cilk_tree_syntax.specs.Adjustments.{adjustment_mark}
use Rattle.cilk_tree_syntax.specs.Tree.{Word, Literal, Expr, number, named, element, synched, binary, unary, choose, Place, Target, Move, assign}
use Rattle.cilk_tree_syntax.specs.Tree.{adjust, call, Taker, nothing, into, through, Shape, variable, array, Decl}
use Rattle.cilk_tree_syntax.specs.Tree.{Stmt, move, spawn_at, print, locking, null, sync_at, abort_at, break_at, continue_at, return_at, when, either}
use Rattle.cilk_tree_syntax.specs.Tree.{while, repeat, loop, switch, labelled, nested, Stmts, none, also, Local, declared, inlet_at, Locals, no_locals}
use Rattle.cilk_tree_syntax.specs.Tree.{and_local}
use Rattle.cilk_tree_syntax.specs.Tree.{Block, block}
use Rattle.cilk_tree_syntax.specs.Tree.{Parameters, ints, command_line, Proc, Item, global, lock, prototype, procedure, Program}
use Rattle.cilk_tree_syntax.specs.Bare.{bare_word, bare_expr, bare_value, bare_exprs, bare_place, bare_target, bare_receiver, bare_move, bare_part}
use Rattle.cilk_tree_syntax.specs.Bare.{bare_taker, bare_shape, bare_decl, bare_words, bare_literal, bare_stmt, bare_stmts, bare_local, bare_locals}
use Rattle.cilk_tree_syntax.specs.Bare.{bare_block}
use Rattle.cilk_tree_syntax.specs.Bare.{bare_parameters, bare_item, bare_program, bare_proc}
use Rattle.cilk_tree_syntax.specs.Lines.{text_of, deeper, closed, ended}
use Rattle.cilk_tree_syntax.specs.ExprText.{stands_alone, as_operand, expr_text}
use Rattle.cilk_tree_syntax.specs.MoveText.{next_exprs_text, exprs_text, call_text, index_text, place_text, op_text, target_text, receiver_text, move_text}
use Rattle.cilk_tree_syntax.specs.MoveText.{before_text, behind_text, spawn_text, literal_text, print_text, return_text, shape_text, decl_text}
use Rattle.cilk_tree_syntax.specs.StmtLines.{test_line, until_line, part_text, for_line, next_names_text, names_text, inlet_line, stmt_lines, stmts_lines}
use Rattle.cilk_tree_syntax.specs.StmtLines.{is_label, set_in, local_lines, locals_lines, block_lines, cases_lines, switch_lines}
use Rattle.cilk_tree_syntax.specs.ProgramText.{header_line, head_text, parameters_text, opening_line, item_lines, items_lines, program_text}

stands_alone-bare : (e : Expr) → stands_alone (bare_expr e) ≡ stands_alone e
stands_alone-bare (number n) = refl
stands_alone-bare (named name) = refl
stands_alone-bare (element name index) = refl
stands_alone-bare (synched at) = refl
stands_alone-bare (binary op left right) = refl
stands_alone-bare (unary op operand) = refl
stands_alone-bare (choose test first second) = refl

pub expr_text-bare : (e : Expr) → expr_text (bare_expr e) ≡ expr_text e
expr_text-bare (number n) = refl
expr_text-bare (named name) = refl
expr_text-bare (element name index) = λ i. name.text ++ (codes "[" ++ (expr_text-bare index i ++ codes "]"))
expr_text-bare (synched at) = refl
expr_text-bare (binary op left right) =
    λ i. as_operand (stands_alone-bare left i) (expr_text-bare left i)
    ++ (codes " " ++ (mark_of op ++ (codes " " ++ as_operand (stands_alone-bare right i) (expr_text-bare right i))))
expr_text-bare (unary op operand) = λ i. sign_of op ++ as_operand (stands_alone-bare operand i) (expr_text-bare operand i)
expr_text-bare (choose test first second) =
    λ i. as_operand (stands_alone-bare test i) (expr_text-bare test i)
    ++
    (codes " ? " ++ (as_operand (stands_alone-bare first i) (expr_text-bare first i)
    ++ (codes " : " ++ as_operand (stands_alone-bare second i) (expr_text-bare second i))))

next_exprs_text-bare : (es : List Expr) → next_exprs_text (bare_exprs es) ≡ next_exprs_text es
next_exprs_text-bare [] = refl
next_exprs_text-bare (e ∷ es) = λ i. codes ", " ++ (expr_text-bare e i ++ next_exprs_text-bare es i)

exprs_text-bare : (es : List Expr) → exprs_text (bare_exprs es) ≡ exprs_text es
exprs_text-bare [] = refl
exprs_text-bare (e ∷ es) = λ i. expr_text-bare e i ++ next_exprs_text-bare es i

call_text-bare : (callee : Word) (arguments : List Expr) → call_text (bare_word callee) (bare_exprs arguments) ≡ call_text callee arguments
call_text-bare callee arguments = λ i. callee.text ++ (codes "(" ++ (exprs_text-bare arguments i ++ codes ")"))

index_text-bare : (index : Option Expr) → index_text (bare_value index) ≡ index_text index
index_text-bare None = refl
index_text-bare (Some index) = λ i. codes "[" ++ (expr_text-bare index i ++ codes "]")

place_text-bare : (p : Place) → place_text (bare_place p) ≡ place_text p
place_text-bare p = λ i. p.name.text ++ index_text-bare p.index i

target_text-bare : (t : Target) → target_text (bare_target t) ≡ target_text t
target_text-bare t = λ i. place_text-bare t.place i ++ (codes " " ++ (op_text t.op ++ codes "= "))

receiver_text-bare : (t : Option Target) → receiver_text (bare_receiver t) ≡ receiver_text t
receiver_text-bare None = refl
receiver_text-bare (Some target) = target_text-bare target

move_text-bare : (m : Move) → move_text (bare_move m) ≡ move_text m
move_text-bare (assign target value) = λ i. target_text-bare target i ++ expr_text-bare value i
move_text-bare (adjust place by) = λ i. place_text-bare place i ++ adjustment_mark by
move_text-bare (call target callee arguments) = λ i. receiver_text-bare target i ++ call_text-bare callee arguments i

before_text-bare : (t : Taker) → before_text (bare_taker t) ≡ before_text t
before_text-bare nothing = refl
before_text-bare (into target) = target_text-bare target
before_text-bare (through inlet others) = refl

behind_text-bare : (t : Taker) → behind_text (bare_taker t) ≡ behind_text t
behind_text-bare nothing = refl
behind_text-bare (into target) = refl
behind_text-bare (through inlet others) = λ i. next_exprs_text-bare others i ++ codes ")"

spawn_text-bare : (t : Taker) (callee : Word) (arguments : List Expr)
    → spawn_text (bare_taker t) (bare_word callee) (bare_exprs arguments) ≡ spawn_text t callee arguments
spawn_text-bare t callee arguments = λ i. before_text-bare t i ++ (codes "spawn " ++ (call_text-bare callee arguments i ++ behind_text-bare t i))

print_text-bare : (format : Literal) (arguments : List Expr) → print_text (bare_literal format) (bare_exprs arguments) ≡ print_text format arguments
print_text-bare format arguments = λ i. codes "printf(" ++ (literal_text format ++ (next_exprs_text-bare arguments i ++ codes ")"))

return_text-bare : (value : Option Expr) → return_text (bare_value value) ≡ return_text value
return_text-bare None = refl
return_text-bare (Some value) = λ i. codes "return " ++ expr_text-bare value i

shape_text-bare : (s : Shape) → shape_text (bare_shape s) ≡ shape_text s
shape_text-bare (variable None) = refl
shape_text-bare (variable (Some value)) = λ i. codes " = " ++ expr_text-bare value i
shape_text-bare (array length) = refl

decl_text-bare : (d : Decl) → decl_text (bare_decl d) ≡ decl_text d
decl_text-bare d = λ i. codes "int " ++ (d.name.text ++ shape_text-bare d.shape i)

part_text-bare : (part : Option Move) → part_text (bare_part part) ≡ part_text part
part_text-bare None = refl
part_text-bare (Some what) = move_text-bare what

for_line-bare : (first : Option Move) (test : Expr) (advance : Option Move)
    → for_line (bare_part first) (bare_expr test) (bare_part advance) ≡ for_line first test advance
for_line-bare first test advance =
    λ i. codes "for (" ++ (part_text-bare first i ++ (codes "; " ++ (expr_text-bare test i ++ (codes "; " ++ (part_text-bare advance i ++ codes ") {")))))

next_names_text-bare : (xs : List Word) → next_names_text (bare_words xs) ≡ next_names_text xs
next_names_text-bare [] = refl
next_names_text-bare (x ∷ xs) = λ i. codes ", int " ++ (x.text ++ next_names_text-bare xs i)

names_text-bare : (xs : List Word) → names_text (bare_words xs) ≡ names_text xs
names_text-bare [] = refl
names_text-bare (x ∷ xs) = λ i. codes "int " ++ (x.text ++ next_names_text-bare xs i)

test_line-bare : (word : List ℕ) (test : Expr) → test_line word (bare_expr test) ≡ test_line word test
test_line-bare word test = λ i. word ++ (codes " (" ++ (expr_text-bare test i ++ codes ") {"))

until_line-bare : (test : Expr) → until_line (bare_expr test) ≡ until_line test
until_line-bare test = λ i. codes "} while (" ++ (expr_text-bare test i ++ codes ");")

inlet_line-bare : (name : Word) (parameters : List Word) → inlet_line (bare_word name) (bare_words parameters) ≡ inlet_line name parameters
inlet_line-bare name parameters = λ i. codes "inlet void " ++ (name.text ++ (codes "(" ++ (names_text-bare parameters i ++ codes ") {")))

is_label-bare : (s : Stmt) → is_label (bare_stmt s) ≡ is_label s
is_label-bare (move what) = refl
is_label-bare (spawn_at at taker callee arguments) = refl
is_label-bare (print format arguments) = refl
is_label-bare (locking action name) = refl
is_label-bare null = refl
is_label-bare (sync_at at) = refl
is_label-bare (abort_at at) = refl
is_label-bare (break_at at) = refl
is_label-bare (continue_at at) = refl
is_label-bare (return_at at value) = refl
is_label-bare (when test body) = refl
is_label-bare (either test body other) = refl
is_label-bare (while test body) = refl
is_label-bare (repeat body test) = refl
is_label-bare (loop first test advance body) = refl
is_label-bare (switch test body) = refl
is_label-bare (labelled label) = refl
is_label-bare (nested inside) = refl

mutual
  pub stmt_lines-bare : (s : Stmt) → stmt_lines (bare_stmt s) ≡ stmt_lines s
  stmt_lines-bare (move what) = λ i. ended (move_text-bare what i)
  stmt_lines-bare (spawn_at at taker callee arguments) = λ i. ended (spawn_text-bare taker callee arguments i)
  stmt_lines-bare (print format arguments) = λ i. ended (print_text-bare format arguments i)
  stmt_lines-bare (locking action name) = refl
  stmt_lines-bare null = refl
  stmt_lines-bare (sync_at at) = refl
  stmt_lines-bare (abort_at at) = refl
  stmt_lines-bare (break_at at) = refl
  stmt_lines-bare (continue_at at) = refl
  stmt_lines-bare (return_at at value) = λ i. ended (return_text-bare value i)
  stmt_lines-bare (when test body) = λ i. test_line-bare (codes "if") test i ∷ closed (block_lines-bare body i)
  stmt_lines-bare (either test body other) =
      λ i. test_line-bare (codes "if") test i ∷ (deeper (block_lines-bare body i) ++ codes "} else {" ∷ closed (block_lines-bare other i))
  stmt_lines-bare (while test body) = λ i. test_line-bare (codes "while") test i ∷ closed (block_lines-bare body i)
  stmt_lines-bare (repeat body test) = λ i. codes "do {" ∷ (deeper (block_lines-bare body i) ++ until_line-bare test i ∷ [])
  stmt_lines-bare (loop first test advance body) = λ i. for_line-bare first test advance i ∷ closed (block_lines-bare body i)
  stmt_lines-bare (switch test body) = λ i. test_line-bare (codes "switch") test i ∷ (switch_lines-bare body i ++ codes "}" ∷ [])
  stmt_lines-bare (labelled label) = refl
  stmt_lines-bare (nested inside) = λ i. codes "{" ∷ closed (block_lines-bare inside i)

  pub stmts_lines-bare : (ss : Stmts) → stmts_lines (bare_stmts ss) ≡ stmts_lines ss
  stmts_lines-bare none = refl
  stmts_lines-bare (also first others) = λ i. stmt_lines-bare first i ++ stmts_lines-bare others i

  pub local_lines-bare : (l : Local) → local_lines (bare_local l) ≡ local_lines l
  local_lines-bare (declared decl) = λ i. ended (decl_text-bare decl i)
  local_lines-bare (inlet_at at name parameters body) = λ i. inlet_line-bare name parameters i ∷ closed (block_lines-bare body i)

  pub locals_lines-bare : (ls : Locals) → locals_lines (bare_locals ls) ≡ locals_lines ls
  locals_lines-bare no_locals = refl
  locals_lines-bare (and_local first others) = λ i. local_lines-bare first i ++ locals_lines-bare others i

  pub block_lines-bare : (b : Block) → block_lines (bare_block b) ≡ block_lines b
  block_lines-bare (block locals stmts) = λ i. locals_lines-bare locals i ++ stmts_lines-bare stmts i

  pub cases_lines-bare : (ss : Stmts) → cases_lines (bare_stmts ss) ≡ cases_lines ss
  cases_lines-bare none = refl
  cases_lines-bare (also first others) = λ i. set_in (is_label-bare first i) (stmt_lines-bare first i) ++ cases_lines-bare others i

  pub switch_lines-bare : (b : Block) → switch_lines (bare_block b) ≡ switch_lines b
  switch_lines-bare (block locals stmts) = λ i. deeper (locals_lines-bare locals i) ++ cases_lines-bare stmts i

parameters_text-bare : (ps : Parameters) → parameters_text (bare_parameters ps) ≡ parameters_text ps
parameters_text-bare (ints names) = names_text-bare names
parameters_text-bare (command_line count strings) = refl

opening_line-bare : (p : Proc) → opening_line (bare_proc p) ≡ opening_line p
opening_line-bare p = λ i. head_text p.is_cilk p.returns p.name ++ (parameters_text-bare p.parameters i ++ codes ") {")

pub item_lines-bare : (x : Item) → item_lines (bare_item x) ≡ item_lines x
item_lines-bare (global definition) = refl
item_lines-bare (lock name) = refl
item_lines-bare (prototype declaration) = refl
item_lines-bare (procedure definition) = λ i. opening_line-bare definition i ∷ closed (block_lines-bare definition.body i)

items_lines-bare : (xs : List Item) → items_lines (map bare_item xs) ≡ items_lines xs
items_lines-bare [] = refl
items_lines-bare (x ∷ xs) = λ i. item_lines-bare x i ++ items_lines-bare xs i

pub program_text-bare : (p : Program) → program_text (bare_program p) ≡ program_text p
program_text-bare p = ap (λ lines. text_of [] (map header_line p.headers ++ lines)) (items_lines-bare p.items)

-- programs that are the same, places aside, have one canonical text
pub program_text_same : (p q : Program) → bare_program p ≡ bare_program q → program_text p ≡ program_text q
program_text_same p q same = sym (program_text-bare p) ∙ ap program_text same ∙ program_text-bare q
