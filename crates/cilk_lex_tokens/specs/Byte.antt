-- The classes of bytes.
use Rattle.std.specs.Prelude.{ℕ, Bool, ◌||◌, ◌&&◌, ◌==◌, not}
use Rattle.std.specs.Char.{is_ascii_alphabetic, is_ascii_digit}
use Rattle.std.specs.Int.{is_in_range}

-- space, horizontal tab, newline, vertical tab, form feed or carriage return (C 1990, 6.1)
abbrev pub is_blank : ℕ → Bool
is_blank b = b == 32 || is_in_range 9 13 b

-- space or horizontal tab (C 1990, 6.8)
abbrev pub is_space : ℕ → Bool
is_space b = b == 32 || b == 9

-- one of the blanks that end no line
abbrev pub is_line_blank : ℕ → Bool
is_line_blank b = is_space b || is_in_range 11 13 b

-- space, horizontal tab or carriage return
abbrev pub is_line_end : ℕ → Bool
is_line_end b = is_space b || b == 13

-- a letter or an underscore (C 1990, 6.1.2)
abbrev pub begins_name : ℕ → Bool
begins_name b = is_ascii_alphabetic b || b == 95

-- one of these, or a digit (C 1990, 6.1.2)
abbrev pub continues_name : ℕ → Bool
continues_name b = begins_name b || is_ascii_digit b

-- one of these, or a point (C 1990, 6.1.8, without signs)
abbrev pub continues_number : ℕ → Bool
continues_number b = continues_name b || b == 46

-- a letter, a point or a hyphen: the names of headers are made of these (C 1990, 6.1.7)
abbrev pub continues_header : ℕ → Bool
continues_header b = is_ascii_alphabetic b || (b == 45 || b == 46)

-- `x` or `X`, behind the 0 of a hexadecimal number (C 1990, 6.1.3.2)
abbrev pub is_x : ℕ → Bool
is_x b = b == 120 || b == 88

-- a byte that a text literal may hold: one that can be printed (C 1990, 5.2.1)
abbrev pub is_printed : ℕ → Bool
is_printed b = is_in_range 32 126 b

-- and one that says itself there: no quote and no backslash (C 1990, 6.1.4)
abbrev pub is_plain : ℕ → Bool
is_plain b = is_printed b && not (b == 34 || b == 92)

-- `n`, `t`, a backslash or a quote, which may stand behind a backslash in a text literal (C 1990, 6.1.3.4)
abbrev pub is_escape : ℕ → Bool
is_escape b = b == 110 || (b == 116 || (b == 92 || b == 34))

-- neither the quote that closes a text literal, nor a backslash, nor the newline that ends its line (C 1990, 6.1.4)
abbrev pub is_within_text : ℕ → Bool
is_within_text b = not (b == 34 || (b == 92 || b == 10))

-- `<` or `"`, which open a header's name (C 1990, 6.1.7)
abbrev pub opens_header : ℕ → Bool
opens_header b = b == 60 || b == 34
