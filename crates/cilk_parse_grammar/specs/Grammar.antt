-- The grammar of the language as a table of rules. In the comments {x} is any number of x, [x] is x or nothing, and marks and words stand in quotes. Numbers in
-- parentheses are clauses of C 1990, and words there are entries of the Cilk 5.4 manual. A rule that is factored says first what it stands behind.
use Rattle.std.specs.Prelude.{ℕ, suc, List, [], ◌∷◌, ◌++◌, length, map, Bool, true, false, Option, Some, None, ℤ, pos, neg_ℤ}
use Rattle.cilk_tree_syntax.specs.lexeme.declared.header.Header.{Header}
use Rattle.cilk_tree_syntax.specs.lexeme.declared.keyword.Keyword.{Keyword}
use Rattle.cilk_tree_syntax.specs.lexeme.declared.keyword.Keyword.TheVariants as key
use Rattle.cilk_tree_syntax.specs.lexeme.declared.mark.Mark.TheVariants as sign
use Rattle.cilk_tree_syntax.specs.declared.adjustment.Adjustment.{Adjustment}
use Rattle.cilk_tree_syntax.specs.declared.adjustment.Adjustment.TheVariants as adjustments
use Rattle.cilk_tree_syntax.specs.declared.lock_action.LockAction.{LockAction}
use Rattle.cilk_tree_syntax.specs.declared.lock_action.LockAction.TheVariants as actions
use Rattle.cilk_tree_syntax.specs.declared.operator.BinOp.{BinOp}
use Rattle.cilk_tree_syntax.specs.declared.operator.BinOp.TheVariants as ops
use Rattle.cilk_tree_syntax.specs.declared.return_type.ReturnType.{ReturnType}
use Rattle.cilk_tree_syntax.specs.declared.return_type.ReturnType.TheVariants as returns
use Rattle.cilk_tree_syntax.specs.Tree as tree
use Rattle.cilk_tree_syntax.specs.Tree.{Word, Expr, stmts_of, locals_of}
use Rattle.cilk_parse_grammar.specs.Rule.{Rule, done, skip, part, and_then, either, many, nearest, by_value}
use Rattle.cilk_parse_grammar.specs.Classes.{names, the_main, the_char, the_printf, the_lock_init, the_lock, the_unlock, other_name}
use Rattle.cilk_parse_grammar.specs.Parts.{token, the_literal, the_header, Means, Nest, NestMeans, a_statement, no_block, an_inlet, assigned}
use Rattle.cilk_parse_grammar.specs.Forms.{word, mark, keyword_place, name_of, number, expression, value, statement, unbraced, inlet, before, ended}
use Rattle.cilk_parse_grammar.specs.Forms.{in_parentheses, in_brackets, in_braces, optional, behind_commas, commas, joined}

abbrev pub name : Rule Means Word
name = name_of names

-- the names with which a move or spawn may begin: those of `printf` and of the calls of a lock begin forms of their own
abbrev pub plain_names : List ℕ
plain_names = the_main ∷ the_char ∷ other_name ∷ []

abbrev pub names_but_main : List ℕ
names_but_main = the_char ∷ the_printf ∷ the_lock_init ∷ the_lock ∷ the_unlock ∷ other_name ∷ []

-- ---- moves

abbrev pub place_at : Word → Option Expr → tree.Place
place_at x index = record { name = x; index = index }

abbrev pub target_at : Word → Option Expr → Option BinOp → tree.Target
target_at x index op = record { place = place_at x index; op = op }

-- "(" [Expr {"," Expr}] ")" (6.3.2.2)
abbrev pub arguments : Rule Means (List Expr)
arguments = in_parentheses (either (commas expression) (done []))

-- [ "[" Expr "]" ] (6.3.2.1)
abbrev pub index : Rule Means (Option Expr)
index = optional (in_brackets expression)

-- Place = Name | Name "[" Expr "]" (6.3.1, 6.3.2.1)
abbrev pub place : Rule Means tree.Place
place = and_then name (and_then index (done (λ i x. place_at x i)))

-- Op = "=" | "+=" | "-=" | "*=" | "/=" | "%=" | "<<=" | ">>=" | "&=" | "^=" | "|=" (6.3.16)
abbrev pub op : Rule Means (Option BinOp)
op =
    either (mark sign.Assign (done None)) (
    either (mark sign.AddAssign (done (Some ops.Add))) (
    either (mark sign.SubtractAssign (done (Some ops.Subtract))) (
    either (mark sign.MultiplyAssign (done (Some ops.Multiply))) (
    either (mark sign.DivideAssign (done (Some ops.Divide))) (
    either (mark sign.RemainderAssign (done (Some ops.Remainder))) (
    either (mark sign.ShiftLeftAssign (done (Some ops.ShiftLeft))) (
    either (mark sign.ShiftRightAssign (done (Some ops.ShiftRight))) (
    either (mark sign.BitAndAssign (done (Some ops.BitAnd))) (
    either (mark sign.BitXorAssign (done (Some ops.BitXor))) (
    mark sign.BitOrAssign (done (Some ops.BitOr))))))))))))

-- "++" | "--" (6.3.2.4, 6.3.3.1)
abbrev pub adjustment : Rule Means Adjustment
adjustment = either (mark sign.Increment (done adjustments.Increment)) (mark sign.Decrement (done adjustments.Decrement))

-- behind a place: Op Expr | Op Call | "++" | "--" (6.3.16, 6.3.2.4)
abbrev pub move_of_place : Rule Means (Option Expr → Word → tree.Move)
move_of_place =
    either (and_then op (and_then value (done (λ v o i x. assigned (target_at x i o) v))))
    (and_then adjustment (done (λ a i x. tree.adjust (place_at x i) a)))

-- ("++" | "--") Place (6.3.3.1)
abbrev pub adjusted : Rule Means tree.Move
adjusted = and_then adjustment (and_then place (done (λ p a. tree.adjust p a)))

-- Move = Place Op Expr | Place Op Call | Call | Place ("++" | "--") | ("++" | "--") Place (6.6.3, 6.6.5.3)
abbrev pub move : Rule Means tree.Move
move = either (and_then name (either (and_then arguments (done (λ es f. tree.call None f es))) (and_then index move_of_place))) adjusted

-- ---- statements

-- "spawn" Call, for one that takes its value (`spawn`)
abbrev pub child : Rule Means (tree.Taker → tree.Stmt)
child = and_then (keyword_place key.Spawn) (and_then name (and_then arguments (done (λ es f at taker. tree.spawn_at at taker f es))))

-- behind a name: "(" ")" | "(" Expr {"," Expr} ")" | "(" "spawn" Call {"," Expr} ")" (6.3.2.2; `inlet`)
abbrev pub called : Rule Means (Word → tree.Stmt)
called = in_parentheses (
    either (and_then child (and_then (behind_commas expression) (done (λ es c i. c (tree.through i es))))) (
    either (and_then (commas expression) (done (λ es f. tree.move (tree.call None f es))))
    (done (λ f. tree.move (tree.call None f [])))))

-- behind a place: Op "spawn" Call | Op Expr | Op Call | "++" | "--" (6.3.16, 6.3.2.4; `spawn`)
abbrev pub written : Rule Means (Option Expr → Word → tree.Stmt)
written = either
    (and_then op (either (and_then child (done (λ c o i x. c (tree.into (target_at x i o)))))
    (and_then value (done (λ v o i x. tree.move (assigned (target_at x i o) v))))))
    (and_then adjustment (done (λ a i x. tree.move (tree.adjust (place_at x i) a))))

-- a move or a spawn that begins with a name, and ";" (6.6.3; `spawn`, `inlet`)
abbrev pub named : Rule Means tree.Stmt
named = ended (and_then (name_of plain_names) (either called (and_then index written)))

-- ("++" | "--") Place ";" (6.3.3.1)
abbrev pub adjusting : Rule Means tree.Stmt
adjusting = ended (and_then adjusted (done (λ m. tree.move m)))

-- "spawn" Call ";" (`spawn`)
abbrev pub spawning : Rule Means tree.Stmt
spawning = ended (and_then child (done (λ c. c tree.nothing)))

-- printf "(" Text {"," Expr} ")" ";" (7.9.6.3)
abbrev pub printing : Rule Means tree.Stmt
printing = skip the_printf (ended (in_parentheses (and_then (part (token the_literal)) (and_then (behind_commas expression) (done (λ es t. tree.print t es))))))

-- (Cilk_lock_init | Cilk_lock | Cilk_unlock) "(" Name ")" ";" (locks)
abbrev pub locking_by : ℕ → LockAction → Rule Means tree.Stmt
locking_by class action = skip class (ended (and_then (in_parentheses name) (done (λ x. tree.locking action x))))

abbrev pub locking : Rule Means tree.Stmt
locking = either (locking_by the_lock_init actions.Init) (either (locking_by the_lock actions.Lock) (locking_by the_unlock actions.Unlock))

-- a word and ";"
abbrev pub alone : Keyword → (ℕ → tree.Stmt) → Rule Means tree.Stmt
alone w says = ended (and_then (keyword_place w) (done says))

-- "return" [Expr] ";" (6.6.6.4)
abbrev pub returning : Rule Means tree.Stmt
returning = ended (and_then (keyword_place key.Return) (and_then (optional expression) (done (λ e at. tree.return_at at e))))

-- LName = Name ["=" Expr] | Name "[" Number "]" (6.5.4.2, 6.5.7)
abbrev pub declarator : Rule Means tree.Decl
declarator = and_then name (
    either (mark sign.Assign (and_then expression (done (λ e x. record { name = x; shape = tree.variable (Some e) })))) (
    either (and_then (in_brackets number) (done (λ n x. record { name = x; shape = tree.array n })))
    (done (λ x. record { name = x; shape = tree.variable None }))))

-- Decl = "int" LName {"," LName} ";"; each is a declaration of its own (6.5)
abbrev pub declaration : Rule Means (List tree.Local)
declaration = word key.Int (ended (and_then (commas declarator) (done (λ ds. map tree.declared ds))))

-- Decl | Inlet
abbrev pub local : Rule Means (List tree.Local)
local = either declaration (and_then inlet (done (λ i. i ∷ [])))

abbrev pub locals : Rule Means (List (List tree.Local))
locals = many local

abbrev pub statements : Rule Means (List tree.Stmt)
statements = many statement

-- Block = "{" {Decl | Inlet} {Stmt} "}" (6.6.2; `inlet`)
abbrev pub block : Rule Means tree.Block
block = in_braces (and_then locals (and_then statements (done (λ ss ls. tree.block (locals_of (joined ls)) (stmts_of ss)))))

-- Stmt, as the body of another: a block, and where it is not written as one that of the statement alone (6.6.2)
abbrev pub body : Rule Means tree.Block
body = either block (and_then unbraced (done (λ s. tree.block tree.no_locals (tree.also s tree.none))))

-- "(" Expr ")"
abbrev pub test : Rule Means Expr
test = in_parentheses expression

-- "if" "(" Expr ")" Stmt ["else" Stmt]; an `else` belongs to the nearest `if` that has none (6.6.4.1)
abbrev pub conditional : Rule Means tree.Stmt
conditional = word key.If (and_then test (and_then body
    (nearest (word key.Else (and_then body (done (λ other first e. tree.either e first other)))) (λ first e. tree.when e first))))

-- "while" "(" Expr ")" Stmt (6.6.5.1)
abbrev pub looping : Rule Means tree.Stmt
looping = word key.While (and_then test (and_then body (done (λ b e. tree.while e b))))

-- "do" Stmt "while" "(" Expr ")" ";" (6.6.5.2)
abbrev pub repeating : Rule Means tree.Stmt
repeating = word key.Do (and_then body (word key.While (ended (and_then test (done (λ e b. tree.repeat b e))))))

-- [Expr]; a test that is missing is the number 1 (6.6.5.3)
abbrev pub loop_test : Rule Means Expr
loop_test = either expression (done (tree.number 1))

-- "for" "(" [Move] ";" [Expr] ";" [Move] ")" Stmt (6.6.5.3)
abbrev pub for_loop : Rule Means tree.Stmt
for_loop =
    word key.For
    (mark sign.OpenParenthesis (and_then (ended (optional move))
    (and_then (ended loop_test) (and_then (before sign.CloseParenthesis (optional move))
    (and_then body (done (λ b advance e first. tree.loop first e advance b)))))))

-- ["-"] Number (6.4)
abbrev pub integer : Rule Means ℤ
integer = either (mark sign.Minus (and_then number (done (λ n. neg_ℤ (pos n))))) (and_then number (done (λ n. pos n)))

abbrev pub label_at : ℕ → Option ℤ → tree.Stmt
label_at at value = tree.labelled (record { at = at; value = value })

-- Label = "case" ["-"] Number ":" | "default" ":" (6.6.1)
abbrev pub label : Rule Means tree.Stmt
label = before sign.Colon (
    either (and_then (keyword_place key.Case) (and_then integer (done (λ z at. label_at at (Some z)))))
    (and_then (keyword_place key.Default) (done (λ at. label_at at None))))

abbrev pub labels : Rule Means (List tree.Stmt)
labels = many label

-- {Label} Stmt (6.6.1)
abbrev pub labelled : Rule Means (List tree.Stmt)
labelled = and_then labels (and_then statement (done (λ s ls. ls ++ s ∷ [])))

abbrev pub declarations : Rule Means (List (List tree.Local))
declarations = many declaration

abbrev pub all_labelled : Rule Means (List (List tree.Stmt))
all_labelled = many labelled

-- "{" {Decl} {{Label} Stmt} "}" (6.6.4.2)
abbrev pub cases : Rule Means tree.Block
cases = in_braces (and_then declarations (and_then all_labelled (done (λ sss ls. tree.block (locals_of (joined ls)) (stmts_of (joined sss))))))

-- "switch" "(" Expr ")" and that block (6.6.4.2)
abbrev pub switching : Rule Means tree.Stmt
switching = word key.Switch (and_then test (and_then cases (done (λ b e. tree.switch e b))))

-- Stmt, but for Block (6.6): besides those above ";" (6.6.3), "sync" ";" (`sync`), "abort" ";" (`abort`), "break" ";" (6.6.6.3),
-- "continue" ";" (6.6.6.2)
abbrev pub no_block_rule : Rule Means tree.Stmt
no_block_rule =
    either named (either adjusting (either printing (either locking (either spawning (
    either (mark sign.Semicolon (done tree.null)) (
    either (alone key.Sync (λ at. tree.sync_at at)) (
    either (alone key.Abort (λ at. tree.abort_at at)) (
    either (alone key.Break (λ at. tree.break_at at)) (
    either (alone key.Continue (λ at. tree.continue_at at)) (
    either returning (either conditional (either looping (either repeating (either for_loop switching))))))))))))))

-- Stmt (6.6)
abbrev pub statement_rule : Rule Means tree.Stmt
statement_rule = either (and_then block (done (λ b. tree.nested b))) no_block_rule

-- "(" [Params] ")", Params = "void" | "int" Name {"," "int" Name} (6.5.4.3)
abbrev pub parameters : Rule Means (List Word)
parameters = in_parentheses (either (word key.Void (done [])) (either (commas (word key.Int name)) (done [])))

-- "inlet" "void" Name "(" [Params] ")" Block (`inlet`)
abbrev pub inlet_rule : Rule Means tree.Local
inlet_rule =
    and_then (keyword_place key.Inlet)
    (word key.Void (and_then name (and_then parameters (and_then block (done (λ b ps x at. tree.inlet_at at x ps b))))))

abbrev pub rule_of : (p : Nest) → Rule Means (NestMeans p)
rule_of a_statement = statement_rule
rule_of no_block = no_block_rule
rule_of an_inlet = inlet_rule

-- ---- items

-- what stands behind the name of a function: a declaration of so many parameters, or a definition
pub data Tail : Type 0 where
  declares : (count : ℕ) → Tail
  defines : (parameters : tree.Parameters) (body : tree.Block) → Tail

abbrev pub function : Bool → ReturnType → Tail → Word → tree.Item
function is_cilk type (declares count) x = tree.prototype (record { is_cilk = is_cilk; returns = type; name = x; count = count })
function is_cilk type (defines parameters body) x =
    tree.procedure (record { is_cilk = is_cilk; returns = type; name = x; parameters = parameters; body = body })

abbrev pub all_named : List (Option Word) → Bool
all_named [] = true
all_named (None ∷ xs) = false
all_named (Some x ∷ xs) = all_named xs

abbrev pub named_of : List (Option Word) → List Word
named_of [] = []
named_of (None ∷ xs) = named_of xs
named_of (Some x ∷ xs) = x ∷ named_of xs

-- behind "(" "int": [Name] {"," "int" [Name]} ")" (6.5.4.3)
abbrev pub parameter_list : Rule Means (List (Option Word))
parameter_list = and_then (optional name) (and_then (behind_commas (word key.Int (optional name))) (mark sign.CloseParenthesis (done (λ xs x. x ∷ xs))))

-- ";" behind parameters (6.5.4.3)
abbrev pub ints_declared : Rule Means (List (Option Word) → Tail)
ints_declared = mark sign.Semicolon (done (λ xs. declares (length xs)))

-- ";" or Block behind parameters that all have names (6.7.1)
abbrev pub ints_named : Rule Means (List (Option Word) → Tail)
ints_named = either ints_declared (and_then block (done (λ b xs. defines (tree.ints (named_of xs)) b)))

-- behind "(" "int": [Name] {"," "int" [Name]} ")" ";" | Name {"," "int" Name} ")" Block
abbrev pub int_tail : Rule Means Tail
int_tail = by_value all_named parameter_list ints_named ints_declared

-- behind "(" or "(" "void": ")" ";" | ")" Block (6.5.4.3, 6.7.1)
abbrev pub empty_tail : Rule Means Tail
empty_tail = mark sign.CloseParenthesis (either (mark sign.Semicolon (done (declares 0))) (and_then block (done (λ b. defines (tree.ints []) b))))

-- behind the name of a function: "(" [Types] ")" ";" | "(" [Params] ")" Block, with what may stand behind "(" "int"; Types = "void" |
-- "int" [Name] {"," "int" [Name]}, Params = "void" | "int" Name {"," "int" Name} (6.5.4.3, 6.7.1)
abbrev pub tail_by : Rule Means Tail → Rule Means Tail
tail_by ints = mark sign.OpenParenthesis (either empty_tail (either (word key.Void empty_tail) (word key.Int ints)))

abbrev pub tail : Rule Means Tail
tail = tail_by int_tail

-- Argv = "*" Name "[" "]" | "*" "*" Name (5.1.2.2.1)
abbrev pub strings : Rule Means Word
strings = mark sign.Star (either (and_then name (mark sign.OpenBracket (mark sign.CloseBracket (done (λ x. x))))) (mark sign.Star name))

-- behind "(" "int" Name ",": char Argv ")" Block (5.1.2.2.1)
abbrev pub command_line_tail : Rule Means (Word → Tail)
command_line_tail = skip the_char (and_then (before sign.CloseParenthesis strings) (and_then block (done (λ b s c. defines (tree.command_line c s) b))))

-- ";" behind the parameters of `main` that follow the first (6.5.4.3)
abbrev pub main_declared : Rule Means (List (Option Word) → Word → Tail)
main_declared = mark sign.Semicolon (done (λ xs x. declares (suc (length xs))))

-- ";" or Block behind those, where all have names (6.7.1)
abbrev pub main_defined : Rule Means (List (Option Word) → Word → Tail)
main_defined = either main_declared (and_then block (done (λ b xs x. defines (tree.ints (x ∷ named_of xs)) b)))

-- behind "(" "int" Name "," "int" of `main`: [Name] {"," "int" [Name]} ")" ";" | Name {"," "int" Name} ")" Block
abbrev pub main_others : Rule Means (Word → Tail)
main_others = by_value all_named parameter_list main_defined main_declared

-- behind "(" "int" Name of `main`: ")" ";" | ")" Block
abbrev pub main_alone : Rule Means (Word → Tail)
main_alone = mark sign.CloseParenthesis (either (mark sign.Semicolon (done (λ x. declares 1))) (and_then block (done (λ b x. defines (tree.ints (x ∷ [])) b))))

-- behind "(" "int" Name of `main`: ")" ";" | ")" Block | "," char Argv ")" Block | "," "int" [Name] {"," "int" [Name]} ")" ";" |
-- "," "int" Name {"," "int" Name} ")" Block
abbrev pub main_named : Rule Means (Word → Tail)
main_named = either main_alone (mark sign.Comma (either command_line_tail (word key.Int main_others)))

-- behind "(" "int" where no name follows: ")" ";" | "," "int" [Name] {"," "int" [Name]} ")" ";"
abbrev pub main_nameless : Rule Means Tail
main_nameless =
    either (mark sign.CloseParenthesis (mark sign.Semicolon (done (declares 1))))
    (mark sign.Comma (word key.Int (and_then parameter_list (mark sign.Semicolon (done (λ xs. declares (suc (length xs))))))))

-- behind "(" "int" of `main`
abbrev pub main_ints : Rule Means Tail
main_ints = either (and_then name main_named) main_nameless

-- behind "cilk" "int" main
abbrev pub main_tail : Rule Means Tail
main_tail = tail_by main_ints

-- the name of a function and what stands behind it (6.7.1)
abbrev pub headed : Bool → ReturnType → List ℕ → Rule Means Tail → Rule Means (List tree.Item)
headed is_cilk type classes t = and_then (name_of classes) (and_then t (done (λ t x. function is_cilk type t x ∷ [])))

-- "cilk" ("int" | "void") Name and what stands behind it (`cilk`)
abbrev pub cilk_item : Rule Means (List tree.Item)
cilk_item = word key.Cilk (
    either (word key.Void (headed true returns.Void names tail))
    (word key.Int (either (headed true returns.Int (the_main ∷ []) main_tail) (headed true returns.Int names_but_main tail))))

-- "void" Name and what stands behind it (6.7.1)
abbrev pub void_item : Rule Means (List tree.Item)
void_item = word key.Void (headed false returns.Void names tail)

-- behind the name of a GName = Name ["=" ["-"] Number] | Name "[" Number "]" (6.5.4.2, 6.5.7, 6.7.2)
abbrev pub global_shape : Rule Means tree.GlobalShape
global_shape =
    either (mark sign.Assign (and_then integer (done (λ z. tree.global_variable (Some z))))) (
    either (and_then (in_brackets number) (done (λ n. tree.global_array n)))
    (done (tree.global_variable None)))

abbrev pub global_at : Word → tree.GlobalShape → tree.Global
global_at x shape = record { name = x; shape = shape }

-- GName (6.7.2)
abbrev pub global : Rule Means tree.Global
global = and_then name (and_then global_shape (done (λ s x. global_at x s)))

-- behind "int" Name: what a GName has there, {"," GName} ";"
abbrev pub globals : Rule Means (Word → List tree.Item)
globals = ended (and_then global_shape (and_then (behind_commas global) (done (λ gs s x. map tree.global (global_at x s ∷ gs)))))

-- "int" GName {"," GName} ";"; each is a definition of its own (6.7.2); or "int" Name and what stands behind a function's name
abbrev pub int_item : Rule Means (List tree.Item)
int_item = word key.Int (and_then name (either (and_then tail (done (λ t x. function false returns.Int t x ∷ []))) globals))

-- "Cilk_lockvar" Name {"," Name} ";" (locks)
abbrev pub lock_item : Rule Means (List tree.Item)
lock_item = word key.CilkLockvar (ended (and_then (commas name) (done (λ xs. map tree.lock xs))))

-- Item (6.7)
abbrev pub item : Rule Means (List tree.Item)
item = either cilk_item (either int_item (either void_item lock_item))

-- Program = {Include} {Item} (6.7, 6.8.2)
abbrev pub program : Rule Means (List Header × List tree.Item)
program = and_then (many (part (token the_header))) (and_then (many item) (done (λ is hs. (hs, joined is))))
