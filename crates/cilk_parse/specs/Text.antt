-- Which program a text spells, and where a text that spells none goes wrong.
use Rattle.std.specs.Prelude.{◌≡◌, ◌≢◌, ℕ, ◌<◌, ◌≤◌, true, List, length, Err}
use Rattle.cilk_lex.specs.lexeme.declared.fault.LexFault.{LexFault}
use Rattle.cilk_lex.specs.lexeme.declared.fault.LexFault.TheVariants as lex
use Rattle.cilk_lex.specs.lexeme.Lexeme.{Piece}
use Rattle.cilk_lex.specs.lexeme.Lexing.{Lexes, text_limit}
use Rattle.cilk_lex.specs.Reading.{Refuses}
use Rattle.cilk_parse_grammar.specs.syntax.Tree.{Program}
use Rattle.cilk_parse_grammar.specs.Expressions.{operator_limit, parenthesis_limit}
use Rattle.cilk_parse_grammar.specs.declared.fault.Fault.{Fault}
use Rattle.cilk_parse_grammar.specs.declared.fault.Fault.TheVariants.{Unexpected, TooDeep}
use Rattle.cilk_parse_grammar.specs.declared.fault.ReadError.{ReadError}
use Rattle.cilk_parse_grammar.specs.declared.fault.ReadError.TheVariants as errors
use Rattle.cilk_parse_grammar.specs.Fault.{IsNotGoingOn, any_limits, the_limits, place_left}
use Rattle.cilk_parse_grammar.specs.Spelling.{SpellsProgram, nesting_limit, program_of}
use Rattle.cilk_parse.specs.declared.fault.ReadFault.{ReadFault}
use Rattle.cilk_parse.specs.declared.fault.ReadFault.TheVariants as fault

-- the text spells the program, within the limits of nesting
pub record Spells (text : List ℕ) (program : Program) : Type 0 where
  pub pieces : List Piece
  pub lexed : Lexes true 0 text pieces
  pub spelled : SpellsProgram operator_limit parenthesis_limit nesting_limit pieces program
  pub length : program.length ≡ length text

-- the tokens of the text do not go on as those of a program at the place
pub record StopsAt (allowed : ℕ → ℕ → ℕ → Type 0) (text : List ℕ) (at : ℕ) : Type 0 where
  pub short : length text ≤ text_limit
  pub pieces : List Piece
  pub lexed : Lexes true 0 text pieces
  pub stops : IsNotGoingOn allowed (length text) pieces at

-- what is told of a fault of reading, which says how many tokens are left: the same, at the place of the next one
abbrev pub told_at : ℕ → List Piece → Fault → ReadFault
told_at end pieces (Unexpected left) = fault.Unexpected (place_left end pieces left)
told_at end pieces (TooDeep left) = fault.TooDeep (place_left end pieces left)

-- or that memory has run out
abbrev pub told_of : ℕ → List Piece → ReadError → ReadFault
told_of end pieces (errors.Fault met) = told_at end pieces met
told_of end pieces errors.Memory = fault.Memory

-- reading the tokens of the text from left to right, within the limits, stops with this fault
pub record ReadingStops (text : List ℕ) (told : ReadFault) : Type 0 where
  pub pieces : List Piece
  pub lexed : Lexes true 0 text pieces
  pub met : Fault
  pub stops : program_of operator_limit parenthesis_limit nesting_limit pieces ≡ Err met
  pub is : told ≡ told_at (length text) pieces met

-- why the text has no tokens
abbrev pub HasLexFault : List ℕ → LexFault → Type 0
HasLexFault text f = (f ≢ lex.Memory) × Refuses text f

-- what a fault says of the text; one of depth is at a token, and never at the end
abbrev pub HasFault : List ℕ → ReadFault → Type 0
HasFault text (fault.Lex f) = HasLexFault text f
HasFault text (fault.Unexpected at) = ReadingStops text (fault.Unexpected at) × StopsAt any_limits text at
HasFault text (fault.TooDeep at) = ReadingStops text (fault.TooDeep at) × StopsAt the_limits text at × (at < length text)
HasFault text fault.Memory = Unit {0}
