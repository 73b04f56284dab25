-- What many rules are made of: tokens, and lists of what is alike.
use Rattle.std.specs.Prelude.{ℕ, List, [], ◌∷◌, ◌++◌, Option, Some, None}
use Rattle.cilk_tree_syntax.specs.lexeme.declared.keyword.Keyword.{Keyword}
use Rattle.cilk_tree_syntax.specs.lexeme.declared.mark.Mark.{Mark}
use Rattle.cilk_tree_syntax.specs.lexeme.declared.mark.Mark.TheVariants as sign
use Rattle.cilk_tree_syntax.specs.Tree.{Word, Expr, Stmt, Local}
use Rattle.cilk_parse_grammar.specs.Rule.{Rule, done, skip, part, and_then, either, many}
use Rattle.cilk_parse_grammar.specs.Classes.{a_word, a_mark}
use Rattle.cilk_parse_grammar.specs.Parts.{the_word, the_name, the_number, a_statement, no_block, an_inlet, token, an_expr, a_value, nest, Value, Means}

-- ---- tokens that mean nothing, and then a rule

abbrev pub word : {A : Type 0} → Keyword → Rule Means A → Rule Means A
word w p = skip (a_word w) p

abbrev pub mark : {A : Type 0} → Mark → Rule Means A → Rule Means A
mark m p = skip (a_mark m) p

-- ---- what has a name here

abbrev pub keyword_place : Keyword → Rule Means ℕ
keyword_place w = part (token (the_word w))

abbrev pub name_of : List ℕ → Rule Means Word
name_of classes = part (token (the_name classes))

abbrev pub number : Rule Means ℕ
number = part (token the_number)

abbrev pub expression : Rule Means Expr
expression = part an_expr

abbrev pub value : Rule Means Value
value = part a_value

abbrev pub statement : Rule Means Stmt
statement = part (nest a_statement)

abbrev pub unbraced : Rule Means Stmt
unbraced = part (nest no_block)

abbrev pub inlet : Rule Means Local
inlet = part (nest an_inlet)

-- ---- forms

-- x and then m
abbrev pub before : {A : Type 0} → Mark → Rule Means A → Rule Means A
before m p = and_then p (mark m (done (λ x. x)))

abbrev pub ended : {A : Type 0} → Rule Means A → Rule Means A
ended p = before sign.Semicolon p

abbrev pub in_parentheses : {A : Type 0} → Rule Means A → Rule Means A
in_parentheses p = mark sign.OpenParenthesis (before sign.CloseParenthesis p)

abbrev pub in_brackets : {A : Type 0} → Rule Means A → Rule Means A
in_brackets p = mark sign.OpenBracket (before sign.CloseBracket p)

abbrev pub in_braces : {A : Type 0} → Rule Means A → Rule Means A
in_braces p = mark sign.OpenBrace (before sign.CloseBrace p)

-- [x]
abbrev pub optional : {A : Type 0} → Rule Means A → Rule Means (Option A)
optional p = either (and_then p (done (λ x. Some x))) (done None)

-- {"," x}
abbrev pub behind_commas : {A : Type 0} → Rule Means A → Rule Means (List A)
behind_commas p = many (mark sign.Comma p)

-- x {"," x}
abbrev pub commas : {A : Type 0} → Rule Means A → Rule Means (List A)
commas p = and_then p (and_then (behind_commas p) (done (λ xs x. x ∷ xs)))

-- lists one after another
abbrev pub joined : {A : Type 0} → List (List A) → List A
joined [] = []
joined (xs ∷ xss) = xs ++ joined xss
