-- The lexemes of the canonical text of a program (C 1990, 6.7; Cilk 5.4 manual).
use Rattle.std.specs.Prelude.{ℕ, zero, suc, Bool, true, false, List, [], ◌∷◌, ◌++◌, codes, Some, None}
use Rattle.cilk_check.specs.lexeme.Lexeme.{Lexeme, word, name, number, mark, inclusion}
use Rattle.cilk_check.specs.lexeme.declared.keyword.Keyword.{Keyword}
use Rattle.cilk_check.specs.lexeme.declared.keyword.Keyword.TheVariants as key
use Rattle.cilk_check.specs.lexeme.declared.mark.Mark.TheVariants as sign
use Rattle.cilk_check.specs.syntax.declared.return_type.ReturnType.{ReturnType}
use Rattle.cilk_check.specs.syntax.declared.return_type.ReturnType.TheVariants as returns
use Rattle.cilk_check.specs.syntax.Tree as tree
use Rattle.cilk_check.specs.syntax.Tree.{Word}
use Rattle.cilk_laws.specs.ExprLexemes.{each, in_parentheses, in_brackets}
use Rattle.cilk_laws.specs.StmtLexemes.{ended, names_lexemes, integer_lexemes, block_lexemes}

abbrev pub returns_word : ReturnType → Keyword
returns_word returns.Int = key.Int
returns_word returns.Void = key.Void

-- what stands before the parameters of a function, and what behind its name (C 1990, 6.7.1; Cilk 5.4 manual, `cilk`)
abbrev pub head_lexemes : Bool → ReturnType → Word → List Lexeme → List Lexeme
head_lexemes true type x rest = word key.Cilk ∷ word (returns_word type) ∷ name x.text ∷ rest
head_lexemes false type x rest = word (returns_word type) ∷ name x.text ∷ rest

-- the types of more parameters
abbrev pub next_types_lexemes : ℕ → List Lexeme
next_types_lexemes zero = []
next_types_lexemes (suc n) = mark sign.Comma ∷ word key.Int ∷ next_types_lexemes n

-- the types of parameters, as many as that (C 1990, 6.5.4.3)
abbrev pub types_lexemes : ℕ → List Lexeme
types_lexemes zero = word key.Void ∷ []
types_lexemes (suc n) = word key.Int ∷ next_types_lexemes n

-- also of the form of `main` that is told of the command line (C 1990, 5.1.2.2.1)
abbrev pub parameters_lexemes : tree.Parameters → List Lexeme
parameters_lexemes (tree.ints xs) = names_lexemes xs
parameters_lexemes (tree.command_line count strings) =
    word key.Int ∷ name count.text ∷ mark sign.Comma ∷ name (codes "char") ∷ mark sign.Star ∷ name strings.text ∷ mark sign.OpenBracket
    ∷ mark sign.CloseBracket ∷ []

abbrev pub global_shape_lexemes : tree.GlobalShape → List Lexeme
global_shape_lexemes (tree.global_variable None) = []
global_shape_lexemes (tree.global_variable (Some z)) = mark sign.Assign ∷ integer_lexemes z
global_shape_lexemes (tree.global_array n) = in_brackets (number n ∷ [])

abbrev pub item_lexemes : tree.Item → List Lexeme
item_lexemes (tree.global g) = word key.Int ∷ name g.name.text ∷ ended (global_shape_lexemes g.shape)
item_lexemes (tree.lock x) = word key.CilkLockvar ∷ ended (name x.text ∷ [])
item_lexemes (tree.prototype p) = head_lexemes p.is_cilk p.returns p.name (ended (in_parentheses (types_lexemes p.count)))
item_lexemes (tree.procedure p) = head_lexemes p.is_cilk p.returns p.name (in_parentheses (parameters_lexemes p.parameters) ++ block_lexemes p.body)

abbrev pub program_lexemes : tree.Program → List Lexeme
program_lexemes p = each (λ h. inclusion h ∷ []) p.headers ++ each item_lexemes p.items
