-- The marks, in two halves.
use Rattle.std.specs.Prelude.{Bool, length, ◌==◌}
use Rattle.cilk_lex_tokens.specs.declared.mark.Mark.{Mark}
use Rattle.cilk_lex_tokens.specs.Spelling.{mark_spelling}

-- whether a mark is one byte long
abbrev pub is_byte : Mark → Bool
is_byte m = length (mark_spelling m) == 1
