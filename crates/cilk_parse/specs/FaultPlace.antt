-- Where a fault of a text is.
use Rattle.std.specs.Prelude.{ℕ}
use Rattle.cilk_lex.specs.lexeme.Lexeme.{place_of as lex_place}
use Rattle.cilk_parse.specs.declared.fault.ReadFault.{ReadFault}
use Rattle.cilk_parse.specs.declared.fault.ReadFault.TheVariants as fault

abbrev pub place_of : ReadFault → ℕ
place_of (fault.Lex f) = lex_place f
place_of (fault.Unexpected at) = at
place_of (fault.TooDeep at) = at
place_of fault.Memory = 0
