-- Tokens that can be cut out of their text.
use Rattle.std.specs.Prelude.{ℕ, ◌<◌, ◌≤◌, List, length, slice_range}
use Rattle.std.specs.Str.{IsCharBoundary, IsAscii}
use Rattle.cilk_tree_syntax.specs.lexeme.declared.token.Token.{Token}

-- the place of a token is within the text, is not empty, and may be cut out of it
pub record IsWithin (text : List ℕ) (t : Token) : Type 0 where
  pub not_empty : t.start < t.end
  pub in_text : t.end ≤ length text
  pub cut_at_start : IsCharBoundary text t.start
  pub cut_at_end : IsCharBoundary text t.end
  pub ascii : IsAscii (slice_range text t.start t.end)
