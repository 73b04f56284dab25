-- What stands at the front of the tokens that are left.
use Rattle.std.specs.Prelude.{ℕ, suc, List, [], ◌∷◌, length, Option, Some, None, Ok, Err}
use Rattle.cilk_tree_syntax.specs.lexeme.Lexeme.{Lexeme, Piece, word, name, number, mark, literal, inclusion}
use Rattle.cilk_tree_syntax.specs.lexeme.declared.header.Header.{Header}
use Rattle.cilk_tree_syntax.specs.lexeme.declared.token.TokenKind.{TokenKind}
use Rattle.cilk_tree_syntax.specs.lexeme.declared.token.TokenKind.TheVariants as kind
use Rattle.cilk_tree_syntax.specs.Tree as tree
use Rattle.cilk_parse_grammar.specs.declared.fault.Fault.TheVariants.{Unexpected}
use Rattle.cilk_parse_grammar.specs.Rule.{Read, class_at}
use Rattle.cilk_parse_grammar.specs.declared.operator.Infix.{Infix}
use Rattle.cilk_parse_grammar.specs.Classes.{cls}
use Rattle.cilk_parse_grammar.specs.Operators.{infix_of}
use Rattle.cilk_parse_grammar.specs.Expressions.{word_at}

-- Where a reader stands: the tokens that are left, and how many operators and subscripts the expression that it reads has
-- so far.
pub record ParserState : Type 0 where
  pub pieces : List Piece
  pub operators : ℕ

abbrev pub kind_of : Lexeme → TokenKind
kind_of (word k) = kind.Word k
kind_of (name x) = kind.Name
kind_of (number n) = kind.Number n
kind_of (mark m) = kind.Mark m
kind_of (literal bytes) = kind.Text
kind_of (inclusion h) = kind.Include h

-- the kind of the next token
abbrev pub kind_at : List Piece → Option TokenKind
kind_at [] = None
kind_at (t ∷ ts) = Some (kind_of t.lexeme)

-- the place of the next token
abbrev pub place_at : List Piece → ℕ
place_at [] = 0
place_at (t ∷ ts) = t.start

-- what the next token is behind an operand, and how tightly it binds
abbrev pub infix_in : Option ℕ → Option (ℕ × Infix)
infix_in None = None
infix_in (Some c) = infix_of c

abbrev pub infix_at : List Piece → Option (ℕ × Infix)
infix_at ts = infix_in (class_at cls ts)

-- the next token, if it is a name
abbrev pub name_by : Piece → List Piece → Lexeme → Read Piece tree.Word
name_by t ts (name x) = Ok (word_at x t, ts)
name_by t ts _ = Err (Unexpected (suc (length ts)))

unfoldable pub name_at : List Piece → Read Piece tree.Word
name_at [] = Err (Unexpected 0)
name_at (t ∷ ts) = name_by t ts t.lexeme

-- the next token, if it is a number
abbrev pub number_by : Piece → List Piece → Lexeme → Read Piece ℕ
number_by t ts (number n) = Ok (n, ts)
number_by t ts _ = Err (Unexpected (suc (length ts)))

unfoldable pub number_at : List Piece → Read Piece ℕ
number_at [] = Err (Unexpected 0)
number_at (t ∷ ts) = number_by t ts t.lexeme

-- what the next token includes, if it is an inclusion
abbrev pub header_by : Piece → List Piece → Lexeme → Read Piece Header
header_by t ts (inclusion h) = Ok (h, ts)
header_by t ts _ = Err (Unexpected (suc (length ts)))

unfoldable pub header_at : List Piece → Read Piece Header
header_at [] = Err (Unexpected 0)
header_at (t ∷ ts) = header_by t ts t.lexeme

-- the next token, if it is a text literal
abbrev pub literal_by : Piece → List Piece → Lexeme → Read Piece tree.Literal
literal_by t ts (literal bytes) = Ok (record { bytes = bytes; place = t.start }, ts)
literal_by t ts _ = Err (Unexpected (suc (length ts)))

unfoldable pub literal_at : List Piece → Read Piece tree.Literal
literal_at [] = Err (Unexpected 0)
literal_at (t ∷ ts) = literal_by t ts t.lexeme
