-- What is read by a rule within the limits of the language.
use Rattle.std.specs.Prelude.{◌≡◌, ℕ, List, Ok}
use Rattle.cilk_parse_grammar.specs.lexeme.Lexeme.{Piece}
use Rattle.cilk_parse_grammar.specs.Rule.{Rule, Read}
use Rattle.cilk_parse_grammar.specs.Expressions.{operator_limit, parenthesis_limit}
use Rattle.cilk_parse_grammar.specs.Forms.{joined}
use Rattle.cilk_parse_grammar.specs.Parts.{Means}
use Rattle.cilk_parse_grammar.specs.Spelling.{read_at}

-- where n statements and inlets may stand in one another
abbrev pub read_in : {A : Type 0} → ℕ → Rule Means A → List Piece → Read Piece A
read_in n r ts = read_at operator_limit parenthesis_limit n r ts

-- by a rule in which none stands
abbrev pub read_by : {A : Type 0} → Rule Means A → List Piece → Read Piece A
read_by r ts = read_in 0 r ts

-- The lists that are read one after another are together these items, and the rest of the tokens is left.
pub record Joins {A : Type 0} (reading : Read Piece (List (List A))) (items : List A) (rest : List Piece) : Type 0 where
  pub parts : List (List A)
  pub reads : reading ≡ Ok (parts, rest)
  pub together : joined parts ≡ items
