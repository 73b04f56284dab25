-- The canonical text of a program: its lines, and a newline behind each.
use Rattle.std.specs.Prelude.{ℕ, zero, suc, Bool, true, false, List, [], ◌∷◌, ◌++◌, map, codes, decimal, Some, None}
use Rattle.std.specs.Fmt.{signed_decimal}
use Rattle.cilk_tree_syntax.specs.lexeme.declared.header.Header.{Header}
use Rattle.cilk_tree_syntax.specs.lexeme.declared.header.Header.TheVariants.{Cilk, CilkLib, CilkLibCilkh, Stdio, Stdlib}
use Rattle.cilk_tree_syntax.specs.declared.return_type.ReturnType.{ReturnType}
use Rattle.cilk_tree_syntax.specs.Tree.{Word, Parameters, ints, command_line, Proc, Prototype, GlobalShape, global_variable, global_array, Global}
use Rattle.cilk_tree_syntax.specs.Tree.{Item, global, lock, prototype, procedure, Program}
use Rattle.cilk_tree_syntax.specs.ReturnWord.{word_of}
use Rattle.cilk_tree_syntax.specs.Lines.{text_of, closed, ended}
use Rattle.cilk_tree_syntax.specs.StmtLines.{names_text, block_lines}

-- the name of a header
abbrev pub header_name : Header → List ℕ
header_name Cilk = codes "cilk.h"
header_name CilkLib = codes "cilk-lib.h"
header_name CilkLibCilkh = codes "cilk-lib.cilkh"
header_name Stdio = codes "stdio.h"
header_name Stdlib = codes "stdlib.h"

-- the line that includes a header (C 1990, 6.8.2)
abbrev pub header_line : Header → List ℕ
header_line h = codes "#include <" ++ (header_name h ++ codes ">")

-- the number that a variable starts with, if one is written: digits, and directly before them `-` where it is negative; or the length of an array
abbrev pub global_shape_text : GlobalShape → List ℕ
global_shape_text (global_variable None) = []
global_shape_text (global_variable (Some n)) = codes " = " ++ signed_decimal n
global_shape_text (global_array length) = codes "[" ++ (decimal length ++ codes "]")

-- an `int` variable or an array of the top level (C 1990, 6.7.2)
abbrev pub global_text : Global → List ℕ
global_text g = codes "int " ++ (g.name.text ++ global_shape_text g.shape)

-- a lock (Cilk 5.4 manual, locks)
abbrev pub lock_text : Word → List ℕ
lock_text name = codes "Cilk_lockvar " ++ name.text

-- the word of a Cilk procedure (Cilk 5.4 manual, `cilk`)
abbrev pub cilk_text : Bool → List ℕ
cilk_text true = codes "cilk "
cilk_text false = []

-- what stands before the parameters
abbrev pub head_text : Bool → ReturnType → Word → List ℕ
head_text is_cilk returns name = cilk_text is_cilk ++ (word_of returns ++ (codes " " ++ (name.text ++ codes "(")))

-- the types of more parameters
abbrev pub next_types_text : ℕ → List ℕ
next_types_text zero = []
next_types_text (suc n) = codes ", int" ++ next_types_text n

-- the types of parameters, as many as that (C 1990, 6.5.4.3)
abbrev pub types_text : ℕ → List ℕ
types_text zero = codes "void"
types_text (suc n) = codes "int" ++ next_types_text n

abbrev pub prototype_text : Prototype → List ℕ
prototype_text p = head_text p.is_cilk p.returns p.name ++ (types_text p.count ++ codes ")")

-- parameters between the parentheses, also those of the form of `main` that is told of the command line (C 1990, 5.1.2.2.1)
abbrev pub parameters_text : Parameters → List ℕ
parameters_text (ints names) = names_text names
parameters_text (command_line count strings) = codes "int " ++ (count.text ++ (codes ", char *" ++ (strings.text ++ codes "[]")))

-- the line that opens a definition of a function or a procedure
abbrev pub opening_line : Proc → List ℕ
opening_line p = head_text p.is_cilk p.returns p.name ++ (parameters_text p.parameters ++ codes ") {")

-- the lines of what stands at the top level
abbrev pub item_lines : Item → List (List ℕ)
item_lines (global definition) = ended (global_text definition)
item_lines (lock name) = ended (lock_text name)
item_lines (prototype declaration) = ended (prototype_text declaration)
item_lines (procedure definition) = opening_line definition ∷ closed (block_lines definition.body)

abbrev pub items_lines : List Item → List (List ℕ)
items_lines [] = []
items_lines (first ∷ others) = item_lines first ++ items_lines others

abbrev pub program_lines : Program → List (List ℕ)
program_lines p = map header_line p.headers ++ items_lines p.items

abbrev pub program_text : Program → List ℕ
program_text p = text_of [] (program_lines p)
