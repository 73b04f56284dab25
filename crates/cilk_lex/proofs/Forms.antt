-- The forms of fronts: none is empty, each ends with an ASCII byte, and lexemes are ASCII.
use Rattle.std.proofs.Common.{◌≡◌, ℕ, ◌-◌, ◌<◌, Bool, true, false, ltb, cond, List, [], ◌∷◌, ◌++◌, length, get_or, codes, Option, Some, refl, sym, ap}
use Rattle.std.proofs.Common.{subst, ◌∙◌, arith, length-append, append_assoc}
use Rattle.std.specs.Prelude.{IsAscii, ◌==◌}
use Rattle.std.specs.List.{list_all}
use Rattle.std.proofs.lemmas.Bool.{and_parts, and_from}
use Rattle.std.proofs.lemmas.Bool.Decides.{nat_tests}
use Rattle.std.proofs.lemmas.List.{get_or_push}
use Rattle.cilk_lex_tokens.specs.declared.header.Header.{Header}
use Rattle.cilk_lex_tokens.specs.declared.header.Header.TheVariants as head
use Rattle.cilk_lex_tokens.specs.Byte.{is_line_blank, is_plain, is_escape, opens_header}
use Rattle.cilk_lex_tokens.specs.Lexeme.{Lexeme}
use Rattle.cilk_lex_tokens.specs.Lexing.{Front, of_blank, of_comment, of_word, of_name, of_number, of_mark, of_text, of_include}
use Rattle.cilk_lex_tokens.specs.Spelling.{spelling, has_name_form, has_number_form, Says, says_nothing, says_byte, says_escape, IsText, IsInclude}
use Rattle.cilk_lex_tokens.specs.Spelling.{IsComment, header_spelling, closing_of}
use Rattle.cilk_lex.proofs.Marks.{is_low, low, mark_form}
use Rattle.cilk_lex.proofs.Numbers.{constant_form, number_passes}
use Rattle.cilk_lex.proofs.Runs.{run_ascii, blank_low, name_low, number_low}
use Rattle.cilk_lex.proofs.Words.{word_form, name_passes}

-- ---- runs of ASCII bytes

all_append : (class : ℕ → Bool) (v w : List ℕ) → list_all class v ≡ true → list_all class w ≡ true → list_all class (v ++ w) ≡ true
all_append class [] w h k = k
all_append class (b ∷ v) w h k = let p = and_parts (class b) (list_all class v) h in and_from (class b) _ p.0 (all_append class v w p.1 k)

all_low : (class : ℕ → Bool) → ((b : ℕ) → class b ≡ true → is_low b ≡ true) → (w : List ℕ) → list_all class w ≡ true → list_all is_low w ≡ true
all_low class k [] h = refl
all_low class k (b ∷ bs) h = let p = and_parts (class b) (list_all class bs) h in and_from (is_low b) _ (k b p.0) (all_low class k bs p.1)

line_blank_low : (b : ℕ) → is_line_blank b ≡ true → is_low b ≡ true
unfolding is_low
line_blank_low b h = grind (arith, nat_tests)

plain_low : (b : ℕ) → is_plain b ≡ true → is_low b ≡ true
unfolding is_low
plain_low b h = grind (arith, nat_tests)

escape_low : (b : ℕ) → is_escape b ≡ true → is_low b ≡ true
unfolding is_low
escape_low b h = grind (arith, nat_tests)

opens_low : (b : ℕ) → opens_header b ≡ true → is_low b ≡ true
unfolding is_low
opens_low b h = grind (arith, nat_tests)

closes_low : (b : ℕ) → is_low (closing_of b) ≡ true
unfolding is_low
closes_low b = at (b == 60)
  where
    at : (c : Bool) → ltb (cond c 62 34) 128 ≡ true
    at true = refl
    at false = refl

header_low : (h : Header) → list_all is_low (header_spelling h) ≡ true
unfolding is_low
header_low head.Cilk = refl
header_low head.CilkLib = refl
header_low head.CilkLibCilkh = refl
header_low head.Stdio = refl
header_low head.Stdlib = refl

body_low : {w s : List ℕ} → Says w s → list_all is_low w ≡ true
unfolding is_low
body_low says_nothing = refl
body_low (says_byte {w = w} b h r) = and_from (is_low b) (list_all is_low w) (plain_low b h) (body_low r)
body_low (says_escape {w = w} c h r) = and_from (is_low c) (list_all is_low w) (escape_low c h) (body_low r)

text_low : {w s : List ℕ} → IsText w s → list_all is_low w ≡ true
unfolding is_low
text_low x = rw x.form (all_append is_low x.body (codes "\"") (body_low x.says) refl)

include_low : {w : List ℕ} {h : Header} → IsInclude w h → list_all is_low w ≡ true
unfolding is_low
include_low {w} {h} x =
    let name = all_append is_low (header_spelling h) (closing_of x.opening ∷ []) (header_low h)
    (and_from (is_low (closing_of x.opening)) true (closes_low x.opening) refl) in
    let last = and_from (is_low x.opening) _ (opens_low x.opening x.opens) name in
    let behind = all_append is_low x.between (x.opening ∷ (header_spelling h ++ (closing_of x.opening ∷ [])))
    (all_low is_line_blank line_blank_low x.between x.blank_between) last in
    rw x.form
    (all_append is_low x.before (codes "include" ++ (x.between ++ (x.opening ∷ (header_spelling h ++ (closing_of x.opening ∷ [])))))
    (all_low is_line_blank line_blank_low x.before x.blank_before) behind)

-- ---- fronts

-- not empty, and ASCII
abbrev pub IsPlain : List ℕ → Type 0
IsPlain w = (0 < length w) × IsAscii w

pub name_plain : (w : List ℕ) → has_name_form w ≡ true → IsPlain w
name_plain [] h = absurd cc
name_plain (b ∷ bs) h = (omega arith, run_ascii _ name_low (b ∷ bs) (name_passes (b ∷ bs) h))

pub number_plain : (w : List ℕ) → has_number_form w ≡ true → IsPlain w
number_plain [] h = absurd cc
number_plain (b ∷ bs) h = (omega arith, run_ascii _ number_low (b ∷ bs) (number_passes (b ∷ bs) h))

pub lexeme_plain : {fresh : Bool} {w rest : List ℕ} {x : Lexeme} → Front fresh w rest (Some x) → IsPlain w
lexeme_plain f = at f refl
  where
    at : {fresh : Bool} {w rest : List ℕ} {x : Lexeme} {y : Option Lexeme} → Front fresh w rest y → y ≡ Some x → IsPlain w
    at (of_blank b h e) i = absurd cc
    at (of_comment c) i = absurd cc
    at (of_word k e s) i = subst (λ x. IsPlain x) (sym e) (name_plain (spelling k) (word_form k))
    at (of_name n s) i = name_plain _ n.form
    at (of_number n h s) i = number_plain _ (constant_form h)
    at (of_mark m e s) i = let f = mark_form m in subst (λ x. IsPlain x) (sym e) (f.some, f.ascii)
    at (of_text said x) i = (omega (arith, ap length x.form), run_ascii is_low low _ (text_low x))
    at (of_include h g x e) i = (omega (arith, ap length x.form), run_ascii is_low low _ (include_low x))

-- not empty, and its last byte is ASCII
abbrev pub EndsPlain : List ℕ → Type 0
EndsPlain w = (0 < length w) × (get_or w (length w - 1) 0 < 128)

plain_ends : (w : List ℕ) → IsPlain w → EndsPlain w
plain_ends w p = (p.0, p.1 (length w - 1))

byte_ends : (w : List ℕ) (b : ℕ) → w ≡ b ∷ [] → b < 128 → EndsPlain w
byte_ends w b e l = subst (λ x. EndsPlain x) (sym e) (omega arith, l)

comment_ends : {w : List ℕ} → IsComment w → EndsPlain w
comment_ends {w} c =
    let v : List ℕ = codes "/*" ++ (c.inside ++ codes "*") in
    let e : w ≡ v ++ (47 ∷ []) = c.form ∙ ap (λ t. codes "/*" ++ t) (sym (append_assoc c.inside (codes "*") (47 ∷ []))) in
    let n : length w - 1 ≡ length v = omega (arith, ap length e, length-append v (47 ∷ [])) in
    let l : get_or w (length w - 1) 0 ≡ 47 = rw (n, e) (get_or_push v 47 0 (length v) refl) in
    (omega (arith, ap length c.form), omega (arith, l))

pub front_ends : {fresh : Bool} {w rest : List ℕ} {x : Option Lexeme} → Front fresh w rest x → EndsPlain w
front_ends (of_blank b h e) = byte_ends _ b e (blank_low b h)
front_ends (of_comment c) = comment_ends c
front_ends (of_word k e s) = plain_ends _ (lexeme_plain (of_word {fresh = true} k e s))
front_ends (of_name n s) = plain_ends _ (lexeme_plain (of_name {fresh = true} n s))
front_ends (of_number n h s) = plain_ends _ (lexeme_plain (of_number {fresh = true} n h s))
front_ends (of_mark m e s) = plain_ends _ (lexeme_plain (of_mark {fresh = true} m e s))
front_ends (of_text {rest = r} said x) = plain_ends _ (lexeme_plain (of_text {fresh = true} {rest = r} said x))
front_ends (of_include h f x e) = plain_ends _ (lexeme_plain (of_include h f x e))

pub front_some : {fresh : Bool} {w rest : List ℕ} {x : Option Lexeme} → Front fresh w rest x → 0 < length w
front_some f = (front_ends f).0
