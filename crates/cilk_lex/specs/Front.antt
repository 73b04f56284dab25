-- What was found at the front of a text.
use Rattle.std.specs.Prelude.{◌≡◌, List, ℕ, take, option_map, Result, MatchResult}
use Rattle.cilk_lex_tokens.specs.declared.fault.LexFault.{LexFault}
use Rattle.cilk_lex_tokens.specs.Lexeme.{lexeme_of}
use Rattle.cilk_lex.specs.Sight.{Sight, found, amiss}
use Rattle.cilk_lex.specs.declared.found.Found.{Found}

-- what was found is what is seen there: a token of these bytes, or a blank
abbrev pub IsSeen : List ℕ → Sight → Found → Type 0
IsSeen text s f = s ≡ found f.end (option_map (lexeme_of (take f.end text)) f.kind)

-- and so is a fault
abbrev pub Finds : List ℕ → Sight → Result Found LexFault → Type 0
Finds text s r = MatchResult r (IsSeen text s) (λ f. s ≡ amiss f)
