-- What a text is made of: lexemes, each with its place.
use Rattle.std.specs.Prelude.{ℕ, ◌==◌, if◌then◌else◌, List, [], ◌∷◌, drop, map, slice_range}
use Rattle.cilk_lex_tokens.specs.declared.fault.LexFault.{LexFault}
use Rattle.cilk_lex_tokens.specs.declared.fault.LexFault.TheVariants as fault
use Rattle.cilk_lex_tokens.specs.declared.header.Header.{Header}
use Rattle.cilk_lex_tokens.specs.declared.keyword.Keyword.{Keyword}
use Rattle.cilk_lex_tokens.specs.declared.mark.Mark.{Mark}
use Rattle.cilk_lex_tokens.specs.declared.token.TokenKind.{TokenKind}
use Rattle.cilk_lex_tokens.specs.declared.token.TokenKind.TheVariants as kind
use Rattle.cilk_lex_tokens.specs.declared.token.Token.{Token}

-- a name has its bytes, a number its value, and a text literal what it says
pub data Lexeme : Type 0 where
  word : Keyword → Lexeme
  name : List ℕ → Lexeme
  number : ℕ → Lexeme
  mark : Mark → Lexeme
  literal : List ℕ → Lexeme
  inclusion : Header → Lexeme

-- a lexeme, and the places of its first byte and of the byte behind it
pub record Piece : Type 0 where
  pub lexeme : Lexeme
  pub start : ℕ
  pub end : ℕ

-- what a backslash and this byte say in a text literal (C 1990, 6.1.3.4)
abbrev pub escaped : ℕ → ℕ
escaped b = if b == 110 then 10 else (if b == 116 then 9 else b)

-- what the bytes behind the opening quote of a text literal say, up to the closing one (C 1990, 6.1.4)
abbrev pub body_says : List ℕ → List ℕ
body_says [] = []
body_says (b ∷ []) = []
body_says (b ∷ c ∷ bs) = if b == 34 then [] else (if b == 92 then escaped c ∷ body_says bs else b ∷ body_says (c ∷ bs))

-- what a kind of token is, where its bytes are these
abbrev pub lexeme_of : List ℕ → TokenKind → Lexeme
lexeme_of bytes (kind.Word k) = word k
lexeme_of bytes kind.Name = name bytes
lexeme_of bytes (kind.Number n) = number n
lexeme_of bytes (kind.Mark m) = mark m
lexeme_of bytes kind.Text = literal (body_says (drop 1 bytes))
lexeme_of bytes (kind.Include h) = inclusion h

-- a token of a text
abbrev pub piece_of : List ℕ → Token → Piece
piece_of text t = record { lexeme = lexeme_of (slice_range text t.start t.end) t.kind; start = t.start; end = t.end }

-- the tokens of a text
abbrev pub pieces_of : List ℕ → List Token → List Piece
pieces_of text ts = map (piece_of text) ts

-- where a fault is
abbrev pub place_of : LexFault → ℕ
place_of fault.TooLong = 0
place_of (fault.BadByte at) = at
place_of (fault.OpenComment at) = at
place_of (fault.OpenText at) = at
place_of (fault.BadNumber at) = at
place_of (fault.BadEscape at) = at
place_of (fault.BadDirective at) = at
place_of fault.Memory = 0
