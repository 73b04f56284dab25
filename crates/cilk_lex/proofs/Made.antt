-- Texts made of some lexemes, wherever they stand, and what may be put before them.
use Rattle.std.proofs.Common.{◌≡◌, ℕ, ◌+◌, List, [], ◌∷◌, ◌++◌, length, map, codes, refl, ap, subst, Bool, true, Some, None, append_assoc}
use Rattle.std.proofs.lemmas.Bool.{or_parts}
use Rattle.cilk_lex_tokens.specs.declared.header.Header.{Header}
use Rattle.cilk_lex_tokens.specs.Byte.{continues_name, continues_number}
use Rattle.cilk_lex_tokens.specs.Lexeme.{Lexeme, Piece, literal, inclusion}
use Rattle.cilk_lex_tokens.specs.Lexing.{EndsBefore, EndsLine, Front, of_blank, of_text, of_include, fresh_behind, Lexes, finished, skipped, taken}
use Rattle.cilk_lex_tokens.specs.Spelling.{Says, IsInclude, header_spelling}

-- the text is made of these lexemes, at each place, where it is fresh or not
pub record Made (fresh : Bool) (text : List ℕ) (ls : List Lexeme) : Type 0 where
  pub from : (at : ℕ) → (ps : List Piece) × Lexes fresh at text ps × (map (λ p. p.lexeme) ps ≡ ls)

-- no word, name or number goes on with this text
abbrev pub Stops : List ℕ → Type 0
Stops text = EndsBefore continues_number text

pub nothing_made : (fresh : Bool) → Made fresh [] []
nothing_made fresh = record { from = λ at. ([], finished refl refl, refl) }

pub skip_made : {fresh : Bool} {w rest : List ℕ} {ms : List Lexeme} → Front fresh w rest None → Made (fresh_behind fresh w) rest ms → Made fresh (w ++ rest) ms
skip_made {w = w} f m = record { from = λ at. let k = m.from (at + length w) in (k.0, skipped f refl k.1, k.2) }

pub take_made : {fresh : Bool} {w rest : List ℕ} {x : Lexeme} {ms : List Lexeme} → Front fresh w rest (Some x)
    → Made (fresh_behind fresh w) rest ms → Made fresh (w ++ rest) (x ∷ ms)
take_made {w = w} {x = x} f m = record {
  from = λ at.
      let k = m.from (at + length w) in
      let p : Piece = record { lexeme = x; start = at; end = at + length w } in
      (p ∷ k.0, taken f refl k.1 refl, ap (λ ls. x ∷ ls) k.2);
}

pub newline_made : {fresh : Bool} {rest : List ℕ} {ms : List Lexeme} → Made true rest ms → Made fresh (10 ∷ rest) ms
newline_made m = skip_made (of_blank 10 refl refl) m

-- a text literal
pub text_front : {fresh : Bool} {body rest said : List ℕ} → Says body said → Front fresh (codes "\"" ++ (body ++ codes "\"")) rest (Some (literal said))
text_front {body = body} {said = said} s = of_text said (record { body = body; says = s; form = refl })

-- a line that includes a header
pub include_made : {rest : List ℕ} {ms : List Lexeme} (h : Header) → Made true rest ms
    → Made true (codes "#include <" ++ (header_spelling h ++ (codes ">\n" ++ rest))) (inclusion h ∷ ms)
include_made {rest} {ms} h m =
    let w : List ℕ = codes "#include <" ++ (header_spelling h ++ codes ">") in
    let line : IsInclude w h = record
    { before = []; between = codes " "; opening = 60; blank_before = refl; blank_between = refl; opens = refl; form = refl } in
    let end : EndsLine (codes "\n" ++ rest) = record { trailing = []; more = codes "\n" ++ rest; blank = refl; at_end = refl; form = refl } in
    subst (λ t. Made true (codes "#include <" ++ t) (inclusion h ∷ ms)) (append_assoc (header_spelling h) (codes ">") (codes "\n" ++ rest))
    (take_made {w = w} (of_include h refl line end) (newline_made m))

-- what ends a number ends a name
pub name_stops : (rest : List ℕ) → Stops rest → EndsBefore continues_name rest
name_stops [] s = tt
name_stops (b ∷ bs) s = (or_parts (continues_name b) _ s).0
