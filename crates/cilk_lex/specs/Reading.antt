-- What reading a text gives.
use Rattle.std.specs.Prelude.{ℕ, ◌<◌, ◌≤◌, true, List, length, IsAscii, IsCharBoundary, slice_range}
use Rattle.cilk_lex_tokens.specs.declared.fault.LexFault.{LexFault}
use Rattle.cilk_lex_tokens.specs.declared.fault.LexFault.TheVariants as fault
use Rattle.cilk_lex_tokens.specs.declared.token.Token.{Token}
use Rattle.cilk_lex_tokens.specs.Lexing.{Faulty, text_limit}

-- the place of a token is within the text, is not empty, and may be cut out of it
pub record IsWithin (text : List ℕ) (t : Token) : Type 0 where
  pub not_empty : t.start < t.end
  pub in_text : t.end ≤ length text
  pub cut_at_start : IsCharBoundary text t.start
  pub cut_at_end : IsCharBoundary text t.end
  pub ascii : IsAscii (slice_range text t.start t.end)

-- the text is short enough, and this is its first fault
abbrev pub HasFault : List ℕ → LexFault → Type 0
HasFault text f = (length text ≤ text_limit) × Faulty true 0 text f

-- why a text has no tokens
abbrev pub Refuses : List ℕ → LexFault → Type 0
Refuses text fault.TooLong = text_limit < length text
Refuses text (fault.BadByte at) = HasFault text (fault.BadByte at)
Refuses text (fault.OpenComment at) = HasFault text (fault.OpenComment at)
Refuses text (fault.OpenText at) = HasFault text (fault.OpenText at)
Refuses text (fault.BadNumber at) = HasFault text (fault.BadNumber at)
Refuses text (fault.BadEscape at) = HasFault text (fault.BadEscape at)
Refuses text (fault.BadDirective at) = HasFault text (fault.BadDirective at)
Refuses text fault.Memory = Unit {0}
