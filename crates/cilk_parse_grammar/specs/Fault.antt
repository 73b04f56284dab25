-- Where tokens that spell no program go wrong.
use Rattle.std.specs.Prelude.{◌≡◌, ℕ, ◌-◌, List, [], ◌∷◌, ◌++◌, length, drop, map}
use Rattle.cilk_tree_syntax.specs.lexeme.Lexeme.{Lexeme, Piece}
use Rattle.cilk_tree_syntax.specs.Tree.{Program}
use Rattle.cilk_parse_grammar.specs.Classes.{lexeme_of}
use Rattle.cilk_parse_grammar.specs.Expressions.{operator_limit, parenthesis_limit}
use Rattle.cilk_parse_grammar.specs.Spelling.{nesting_limit, SpellsProgram}

abbrev pub lexemes : List Piece → List Lexeme
lexemes ts = map lexeme_of ts

-- the list begins with the other one
pub record BeginsWith (front all : List Lexeme) : Type 0 where
  pub back : List Lexeme
  pub whole : all ≡ front ++ back

-- no program begins with these lexemes, within limits that are allowed
abbrev pub IsNoFront : (ℕ → ℕ → ℕ → Type 0) → List Lexeme → Type 0
IsNoFront allowed front = (l d n : ℕ) → allowed l d n → (us : List Piece) (p : Program) → BeginsWith front (lexemes us) → SpellsProgram l d n us p → ⊥

-- The place is that of a token through which no program goes, or that of the end of a text that is no whole program.
pub data IsNotGoingOn (allowed : ℕ → ℕ → ℕ → Type 0) (end : ℕ) (ps : List Piece) (at : ℕ) : Type 0 where
  at_token : (front back : List Piece) (t : Piece) → ps ≡ front ++ t ∷ back → t.start ≡ at
      → IsNoFront allowed (lexemes front ++ t.lexeme ∷ []) → IsNotGoingOn allowed end ps at
  at_end : at ≡ end → ((l d n : ℕ) → allowed l d n → (p : Program) → SpellsProgram l d n ps p → ⊥) → IsNotGoingOn allowed end ps at

-- whatever the limits
abbrev pub any_limits : ℕ → ℕ → ℕ → Type 0
any_limits l d n = Unit {0}

abbrev pub the_limits : ℕ → ℕ → ℕ → Type 0
the_limits l d n = (l ≡ operator_limit) × (d ≡ parenthesis_limit) × (n ≡ nesting_limit)

-- the place of the first token, or the text's end where there is none
abbrev pub start_or : ℕ → List Piece → ℕ
start_or end [] = end
start_or end (t ∷ ts) = t.start

-- the place from which on so many tokens are left
abbrev pub place_left : ℕ → List Piece → ℕ → ℕ
place_left end ps left = start_or end (drop (length ps - left) ps)
