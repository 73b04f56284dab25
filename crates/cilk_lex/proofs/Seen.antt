-- What the rules say of the front of a text is what is computed.
use Rattle.std.proofs.Common.{◌≡◌, ◌≢◌, ℕ, ◌<◌, Bool, true, false, List, [], ◌∷◌, ◌++◌, length, codes, Option, Some, None, refl, ap, ◌∙◌, arith}
use Rattle.std.specs.Prelude.{◌==◌}
use Rattle.std.specs.Char.{is_ascii_digit}
use Rattle.std.specs.List.{list_all}
use Rattle.std.proofs.lemmas.Bool.{eqb-true, and_parts}
use Rattle.std.proofs.lemmas.Bool.Decides.{nat_tests}
use Rattle.cilk_lex_tokens.specs.declared.fault.LexFault.{LexFault}
use Rattle.cilk_lex_tokens.specs.declared.fault.LexFault.TheVariants.{BadNumber}
use Rattle.cilk_lex_tokens.specs.declared.mark.Mark.TheVariants as sign
use Rattle.cilk_lex_tokens.specs.Byte.{is_blank, begins_name, continues_name, continues_number}
use Rattle.cilk_lex_tokens.specs.Lexeme.{Lexeme, number}
use Rattle.cilk_lex_tokens.specs.Lexing.{Front, of_blank, of_comment, of_word, of_name, of_number, of_mark, of_text, of_include, EndsBefore}
use Rattle.cilk_lex_tokens.specs.Lexing.{Amiss, bad_byte, open_comment, open_text, bad_text, bad_number, bad_directive, BeginsNothing}
use Rattle.cilk_lex.specs.Sight.{found, amiss, opens_comment, name_sight, number_in, number_sight, number_shown, mark_sight, comment_sight}
use Rattle.cilk_lex.specs.Sight.{text_sight, include_sight, sight}
use Rattle.cilk_lex_tokens.specs.Spelling.{spelling, mark_spelling, has_name_form, has_number_form}
use Rattle.cilk_lex.proofs.Comments.{comment_seen, open_seen}
use Rattle.cilk_lex.proofs.Inclusions.{include_seen, directive_seen}
use Rattle.cilk_lex.proofs.Marks.{begins_other, five_false, mark_form, mark_seen, no_mark_seen}
use Rattle.cilk_lex.proofs.Numbers.{constant_form, number_seen, no_number_in, number_sight_of}
use Rattle.cilk_lex.proofs.Quotes.{text_seen, lost_seen, bad_seen}
use Rattle.cilk_lex.proofs.Words.{word_form, named_word, named_name, name_sight_of}

-- ---- the first byte tells the kind

pub name_no_blank : (b : ℕ) → begins_name b ≡ true → is_blank b ≡ false
name_no_blank b h = grind (arith, nat_tests)

pub digit_no_blank : (b : ℕ) → is_ascii_digit b ≡ true → is_blank b ≡ false
digit_no_blank b h = grind (arith, nat_tests)

pub digit_no_name : (b : ℕ) → is_ascii_digit b ≡ true → begins_name b ≡ false
digit_no_name b h = grind (arith, nat_tests)

module _ (fresh : Bool) (at : ℕ) where
  at_blank : (b : ℕ) (bs : List ℕ) → is_blank b ≡ true → sight fresh at (b ∷ bs) ≡ found 1 None
  unfolding sight
  at_blank b bs h = rw h refl

  at_name : (w rest : List ℕ) → has_name_form w ≡ true → sight fresh at (w ++ rest) ≡ name_sight (w ++ rest)
  unfolding sight
  at_name [] rest h = absurd cc
  at_name (b ∷ bs) rest h =
      let p = (and_parts (begins_name b) (list_all continues_name bs) h).0 in
      rw (name_no_blank b p, p) refl

  at_number : (w rest : List ℕ) → has_number_form w ≡ true → sight fresh at (w ++ rest) ≡ number_sight at (w ++ rest)
  unfolding sight
  at_number [] rest h = absurd cc
  at_number (b ∷ bs) rest h =
      let p = (and_parts (is_ascii_digit b) (list_all continues_number bs) h).0 in
      rw (digit_no_blank b p, digit_no_name b p, p) refl

  at_quote : (text t : List ℕ) → text ≡ 34 ∷ t → sight fresh at text ≡ text_sight at text
  unfolding sight
  at_quote text t e = rw e refl

  at_directive : (text t : List ℕ) → text ≡ 35 ∷ t → sight fresh at text ≡ include_sight fresh at text
  unfolding sight
  at_directive text t e = rw e refl

  at_comment : (text t : List ℕ) → text ≡ 47 ∷ 42 ∷ t → sight fresh at text ≡ comment_sight at text
  unfolding sight opens_comment
  at_comment text t e = rw e refl

  at_other : (b : ℕ) (bs : List ℕ) → begins_other b ≡ false → opens_comment (b ∷ bs) ≡ false → sight fresh at (b ∷ bs) ≡ mark_sight at (b ∷ bs)
  unfolding sight
  at_other b bs h c =
      let f = five_false (is_blank b) (begins_name b) (is_ascii_digit b) (b == 34) (b == 35) h in
      rw (f.0, f.1, f.2, f.3, f.4, c) refl

  at_mark : (w rest : List ℕ) → 0 < length w → ((b : ℕ) (bs : List ℕ) → w ≡ b ∷ bs → begins_other b ≡ false) → opens_comment (w ++ rest) ≡ false
      → sight fresh at (w ++ rest) ≡ mark_sight at (w ++ rest)
  at_mark [] rest l h c = absurd (omega (arith, l))
  at_mark (b ∷ bs) rest l h c = at_other b (bs ++ rest) (h b bs refl) c

-- ---- comments and marks

pub comment_opened : (text : List ℕ) → opens_comment text ≡ true → (t : List ℕ) × (text ≡ codes "/*" ++ t)
unfolding opens_comment
comment_opened [] h = absurd cc
comment_opened (a ∷ []) h = absurd cc
comment_opened (a ∷ b ∷ t) h = let p = and_parts (a == 47) (b == 42) h in (t, rw (eqb-true a 47 p.0, eqb-true b 42 p.1) refl)

no_comment : (text : List ℕ) → ((t : List ℕ) → text ≢ codes "/*" ++ t) → opens_comment text ≡ false
no_comment text h = is (opens_comment text) refl
  where
    is : (c : Bool) → opens_comment text ≡ c → opens_comment text ≡ false
    is true e = let o = comment_opened text e in absurd (h o.0 o.1)
    is false e = e

nothing_opened : (b : ℕ) (rest : List ℕ) → BeginsNothing b rest → (t : List ℕ) → b ∷ rest ≢ codes "/*" ++ t
nothing_opened b rest n t e = n.no_mark sign.Slash (42 ∷ t) e

other_byte : (b : ℕ) (rest : List ℕ) → BeginsNothing b rest → begins_other b ≡ false
other_byte b rest n = rw (n.no_blank, n.no_name, n.no_number, n.no_quote, n.no_directive) refl

-- ---- fronts, and faults

number_shows : (at : ℕ) (w rest : List ℕ) (n : ℕ) → has_number_form w ≡ true → EndsBefore continues_number rest → number_in w ≡ Some n
    → number_sight at (w ++ rest) ≡ found (length w) (Some (number n))
unfolding number_shown
number_shows at w rest n h e i = number_sight_of at w rest (Some n) h e i

no_number_shows : (at : ℕ) (w rest : List ℕ) → has_number_form w ≡ true → EndsBefore continues_number rest → number_in w ≡ None
    → number_sight at (w ++ rest) ≡ amiss (BadNumber at)
unfolding number_shown
no_number_shows at w rest h e i = number_sight_of at w rest None h e i

pub front_seen : {fresh : Bool} {w rest : List ℕ} {x : Option Lexeme} (at : ℕ) → Front fresh w rest x → sight fresh at (w ++ rest) ≡ found (length w) x
front_seen {fresh} {w} {rest} at (of_blank b h e) = rw e (at_blank fresh at b rest h)
front_seen {fresh} {w} {rest} at (of_comment c) = at_comment fresh at (w ++ rest) _ (ap (λ t. t ++ rest) c.form) ∙ comment_seen at w rest c
front_seen {fresh} {w} {rest} at (of_word k e s) =
    rw e
    (at_name fresh at (spelling k) rest (word_form k) ∙ name_sight_of (spelling k) rest (word_form k) s
    ∙ ap (λ (y : Lexeme). found (length (spelling k)) (Some y)) (named_word k))
front_seen {fresh} {w} {rest} at (of_name n s) =
    at_name fresh at w rest n.form ∙ name_sight_of w rest n.form s ∙ ap (λ (y : Lexeme). found (length w) (Some y)) (named_name w n.no_word)
front_seen {fresh} {w} {rest} at (of_number n h s) = at_number fresh at w rest (constant_form h) ∙ number_shows at w rest n (constant_form h) s (number_seen h)
front_seen {fresh} {w} {rest} at (of_mark m e l) =
    let f = mark_form m in
    rw e (at_mark fresh at (mark_spelling m) rest f.some f.head (no_comment _ l.no_comment) ∙ mark_seen at m rest l)
front_seen {fresh} {w} {rest} at (of_text said x) = at_quote fresh at (w ++ rest) _ (ap (λ t. t ++ rest) x.form) ∙ text_seen at w rest said x
front_seen {fresh} {w} {rest} at (of_include h f x e) = at_directive fresh at (w ++ rest) _ (ap (λ t. t ++ rest) x.form) ∙ rw f (include_seen at w rest h x e)

pub amiss_seen : {fresh : Bool} {at : ℕ} {text : List ℕ} {f : LexFault} → Amiss fresh at text f → sight fresh at text ≡ amiss f
amiss_seen {fresh} {at} (bad_byte {b = b} rest n e g) =
    rw (e, g) (at_other fresh at b rest (other_byte b rest n) (no_comment (b ∷ rest) (nothing_opened b rest n)) ∙ no_mark_seen at (b ∷ rest) n.no_mark)
amiss_seen {fresh} {at} (open_comment rest n e g) = rw (e, g) (at_comment fresh at (codes "/*" ++ rest) rest refl ∙ open_seen at rest n)
amiss_seen {fresh} {at} (open_text body rest h n e g) = rw (e, g) (at_quote fresh at (codes "\"" ++ (body ++ rest)) _ refl ∙ lost_seen at body rest h n)
amiss_seen {fresh} {at} {f = f} (bad_text body rest h b e) =
    rw e (at_quote fresh at (codes "\"" ++ (body ++ (codes "\"" ++ rest))) _ refl ∙ bad_seen at body rest f h b)
amiss_seen {fresh} {at} (bad_number w rest h s n e g) = rw (e, g) (at_number fresh at w rest h ∙ no_number_shows at w rest h s (no_number_in w n))
amiss_seen {fresh} {at} {text} (bad_directive rest e n g) =
    rw g (at_directive fresh at text rest e ∙ directive_seen fresh at text rest e (λ w more h f. n w more h f))
