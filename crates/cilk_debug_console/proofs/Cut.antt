-- The lines of bytes of which the first ones are no newline.
use Rattle.std.proofs.Common.{◌≡◌, ℕ, suc, ◌<◌, ◌≤◌, true, false, not, Bool, cond, List, [], ◌∷◌, ◌++◌, length, None, refl, sym, ap, ◌∙◌, append-nil}
use Rattle.std.proofs.Common.{arith, length-append}
use Rattle.std.specs.Prelude.{◌==◌}
use Rattle.std.specs.List.{list_all}
use Rattle.std.specs.Str.Lines.{strip_carriage_return}
use Rattle.std.proofs.lemmas.Bool.{lt-ltb, le-ltb, le-leb, lt-leb, and_parts}
use Rattle.std.proofs.lemmas.Bool.Decides.{nat_tests}
use Rattle.cilk_log.specs.Reading.{Lines, lines_of, behind_byte}
use Rattle.cilk_debug_console.specs.Asking.{command_in}
use Rattle.cilk_debug_console.specs.Input.{longest, most_lines, line_too_long, too_many_lines, Asked, faulty, asking, within, asked_last}
use Rattle.cilk_debug_console.specs.Input.{asked_by_lines, asked_behind}
use Rattle.cilk_debug_console.specs.Taking.{IsPlain, IsLine}

is_other : (b : ℕ) → not (b == 10) ≡ true → (b == 10) ≡ false
is_other b h = grind (arith, nat_tests)

-- the lines of some bytes, with others in front
onto : List ℕ → Lines → Lines
onto [] ls = ls
onto (b ∷ front) ls = behind_byte b (onto front ls).whole (onto front ls).rest

lines_onto : (front more : List ℕ) → IsPlain front → lines_of (front ++ more) ≡ onto front (lines_of more)
unfolding onto
lines_onto [] more p = refl
lines_onto (b ∷ front) more p =
    let q = and_parts (not (b == 10)) (list_all (λ x. not (x == 10)) front) p in
    rw (is_other b q.0, lines_onto front more q.1) refl

onto_line : (front line : List ℕ) (whole : List (List ℕ)) (rest : List ℕ)
    → onto front (record { whole = line ∷ whole; rest = rest }) ≡ record { whole = (front ++ line) ∷ whole; rest = rest }
unfolding onto
onto_line [] line whole rest = refl
onto_line (b ∷ front) line whole rest = rw (onto_line front line whole rest) refl

onto_rest : (front rest : List ℕ) → onto front (record { whole = []; rest = rest }) ≡ record { whole = []; rest = front ++ rest }
unfolding onto
onto_rest [] rest = refl
onto_rest (b ∷ front) rest = rw (onto_rest front rest) refl

abbrev asked_by : ℕ → Lines → Asked
asked_by k ls = asked_by_lines k ls.whole ls.rest

fits : (k : ℕ) (line : List ℕ) (asked : Asked) → IsLine k line → within k line asked ≡ asked
fits k line asked is = rw (lt-ltb k most_lines is.room, le-leb (length line) longest is.short) refl

pub one_line : (k : ℕ) (line more : List ℕ) → IsLine k line
    → asked_behind k (line ++ 10 ∷ more) ≡ asking (command_in (strip_carriage_return line)) (asked_behind (suc k) more)
one_line k line more is =
    ap (asked_by k)
    (lines_onto line (10 ∷ more) is.plain ∙ onto_line line [] (lines_of more).whole (lines_of more).rest
    ∙ ap (λ l. record { whole = l ∷ (lines_of more).whole; rest = (lines_of more).rest }) (append-nil line))
    ∙ fits k line (asking (command_in (strip_carriage_return line)) (asked_behind (suc k) more)) is

last_of : (k : ℕ) (line : List ℕ) → IsLine k line → 0 < length line → asked_last k line ≡ asking (command_in line) (record { commands = []; fault = None })
last_of k [] is some = absurd (omega (arith, some))
last_of k (b ∷ line) is some = fits k (b ∷ line) (asking (command_in (b ∷ line)) (record { commands = []; fault = None })) is

pub last_line : (k : ℕ) (line : List ℕ) → IsLine k line → 0 < length line
    → asked_behind k line ≡ asking (command_in line) (record { commands = []; fault = None })
last_line k line is some =
    ap (asked_behind k) (sym (append-nil line))
    ∙ ap (asked_by k) (lines_onto line [] is.plain ∙ onto_rest line [] ∙ ap (λ (l : List ℕ). record { whole = []; rest = l }) (append-nil line))
    ∙ last_of k line is some

over : (k : ℕ) (front line : List ℕ) (asked : Asked) → k < most_lines → longest < length front → within k (front ++ line) asked ≡ faulty line_too_long
over k front line asked room long =
    let more : longest < length (front ++ line) = omega (arith, long, length-append front line) in
    rw (lt-ltb k most_lines room, lt-leb (length (front ++ line)) longest more) refl

over_last : (k : ℕ) (front rest : List ℕ) → k < most_lines → longest < length front → asked_last k (front ++ rest) ≡ faulty line_too_long
over_last k [] rest room long = absurd (omega (arith, long))
over_last k (b ∷ front) rest room long = over k (b ∷ front) rest (asking (command_in ((b ∷ front) ++ rest)) (record { commands = []; fault = None })) room long

over_by : (k : ℕ) (front : List ℕ) (whole : List (List ℕ)) (rest : List ℕ) → k < most_lines → longest < length front
    → asked_by k (onto front (record { whole = whole; rest = rest })) ≡ faulty line_too_long
over_by k front [] rest room long = ap (asked_by k) (onto_rest front rest) ∙ over_last k front rest room long
over_by k front (line ∷ whole) rest room long =
    ap (asked_by k) (onto_line front line whole rest)
    ∙ over k front line (asking (command_in (strip_carriage_return (front ++ line))) (asked_by_lines (suc k) whole rest)) room long

pub long_line : (k : ℕ) (front more : List ℕ) → k < most_lines → IsPlain front → longest < length front → asked_behind k (front ++ more) ≡ faulty line_too_long
long_line k front more room plain long = ap (asked_by k) (lines_onto front more plain) ∙ over_by k front (lines_of more).whole (lines_of more).rest room long

full : (k : ℕ) (line : List ℕ) (asked : Asked) → most_lines ≤ k → within k line asked ≡ faulty too_many_lines
full k line asked many = rw (le-ltb k most_lines many) refl

full_by : (k b : ℕ) (whole : List (List ℕ)) (rest : List ℕ) → most_lines ≤ k → asked_by k (behind_byte b whole rest) ≡ faulty too_many_lines
full_by k b [] rest many = full k (b ∷ rest) (asking (command_in (b ∷ rest)) (record { commands = []; fault = None })) many
full_by k b (line ∷ whole) rest many = full k (b ∷ line) (asking (command_in (strip_carriage_return (b ∷ line))) (asked_by_lines (suc k) whole rest)) many

full_at : (k b : ℕ) (more : List ℕ) (c : Bool) → most_lines ≤ k
    → asked_by k
    (cond c (record { whole = [] ∷ (lines_of more).whole; rest = (lines_of more).rest })
    (behind_byte b (lines_of more).whole (lines_of more).rest)) ≡ faulty too_many_lines
full_at k b more true many = full k [] (asking (command_in (strip_carriage_return [])) (asked_by_lines (suc k) (lines_of more).whole (lines_of more).rest)) many
full_at k b more false many = full_by k b (lines_of more).whole (lines_of more).rest many

pub many_lines : (k b : ℕ) (more : List ℕ) → most_lines ≤ k → asked_behind k (b ∷ more) ≡ faulty too_many_lines
many_lines k b more many = full_at k b more (b == 10) many
