-- How far a text is read.
use Rattle.std.proofs.Common.{◌≡◌, ℕ, ◌+◌, ◌-◌, ◌<◌, ◌≤◌, Bool, true, List, [], ◌∷◌, ◌++◌, length, take, drop, Option, Some, None, refl, sym, ap}
use Rattle.std.proofs.Common.{subst, ◌∙◌, arith, append_assoc}
use Rattle.std.specs.Prelude.{option_map, All, IsCharBoundary, IsUtf8, slice_range}
use Rattle.std.proofs.lemmas.List.{map_push, append-nil, length-take-le, length-drop, take-append-drop, drop-drop, nil_from_length}
use Rattle.std.proofs.lemmas.List.Elements.{All-push}
use Rattle.std.proofs.lemmas.Str.{IsCharBoundary-from_drop, IsCharBoundary-from_rest}
use Rattle.cilk_lex_tokens.specs.declared.fault.LexFault.{LexFault}
use Rattle.cilk_lex_tokens.specs.declared.token.TokenKind.{TokenKind}
use Rattle.cilk_lex_tokens.specs.declared.token.Token.{Token}
use Rattle.cilk_lex_tokens.specs.Lexeme.{Lexeme, lexeme_of, Piece, piece_of, pieces_of}
use Rattle.cilk_lex_tokens.specs.Lexing.{Front, fresh_behind, Lexes, finished, skipped, taken, Faulty, here, later}
use Rattle.cilk_lex.specs.Sight.{sight, amiss}
use Rattle.cilk_lex.proofs.Forms.{front_ends, front_some, lexeme_plain}
use Rattle.cilk_lex.proofs.Sees.{sees}
use Rattle.cilk_lex.proofs.Shows.{Shows}
use Rattle.cilk_lex.specs.declared.found.Found.{Found}
use Rattle.cilk_lex.specs.Front.{IsSeen}
use Rattle.cilk_lex.specs.Reading.{IsWithin}
use Rattle.cilk_lex.proofs.Cuts.{ends_cut}

-- ---- what is seen is so

pub record IsFound (fresh : Bool) (text : List ℕ) (f : Found) : Type 0 where
  pub in_text : f.end ≤ length text
  pub front : Front fresh (take f.end text) (drop f.end text) (option_map (lexeme_of (take f.end text)) f.kind)

pub found_there : (fresh : Bool) (at : ℕ) (text : List ℕ) (f : Found) → IsSeen text (sight fresh at text) f → IsFound fresh text f
found_there fresh at text f e =
    let s = subst (λ s. Shows fresh at text s) e (sees fresh at text) in
    record { in_text = s.0; front = s.1 }

pub fault_there : (fresh : Bool) (at : ℕ) (text : List ℕ) (f : LexFault) → sight fresh at text ≡ amiss f → Faulty fresh at text f
fault_there fresh at text f e = here (subst (λ s. Shows fresh at text s) e (sees fresh at text))

pub found_cut : (fresh : Bool) (text : List ℕ) (f : Found) → IsUtf8 text → IsFound fresh text f → IsCharBoundary text f.end
found_cut fresh text f u i = ends_cut text f.end u i.in_text (front_ends i.front)

-- ---- how far

-- the tokens ts have been read, and what is left begins at this place
pub record ReadSoFar (text : List ℕ) (ts : List Token) (fresh : Bool) (at : ℕ) (rest : List ℕ) : Type 0 where
  pub place : at + length rest ≡ length text
  pub left : rest ≡ drop at text
  pub lexed : (ps : List Piece) → Lexes fresh at rest ps → Lexes true 0 text (pieces_of text ts ++ ps)
  pub faulty : (f : LexFault) → Faulty fresh at rest f → Faulty true 0 text f
  pub within : All (IsWithin text) ts

front_length : (rest : List ℕ) (n : ℕ) → n ≤ length rest → length (take n rest) ≡ n
front_length rest n l = length-take-le n rest l

module _ (text rest : List ℕ) (ts : List Token) (fresh : Bool) (at n : ℕ) (s : ReadSoFar text ts fresh at rest) (l : n ≤ length rest) where
  place_on : at + n + length (drop n rest) ≡ length text
  place_on = omega (arith, s.place, length-drop n rest, l)

  left_on : drop n rest ≡ drop (at + n) text
  left_on = ap (λ t. drop n t) s.left ∙ drop-drop n at text

  faulty_on : {x : Option Lexeme} → Front fresh (take n rest) (drop n rest) x → (f : LexFault)
      → Faulty (fresh_behind fresh (take n rest)) (at + n) (drop n rest) f → Faulty true 0 text f
  faulty_on f g h =
      s.faulty g
      (later f (sym (take-append-drop n rest)) (subst (λ i. Faulty (fresh_behind fresh (take n rest)) (at + i) (drop n rest) g)
      (sym (front_length rest n l)) h))

  pub blank_read : Front fresh (take n rest) (drop n rest) None → ReadSoFar text ts (fresh_behind fresh (take n rest)) (at + n) (drop n rest)
  blank_read f = record {
    place = place_on;
    left = left_on;
    lexed =
        λ ps h. s.lexed ps
        (skipped f (sym (take-append-drop n rest)) (subst (λ i. Lexes (fresh_behind fresh (take n rest)) (at + i) (drop n rest) ps)
        (sym (front_length rest n l)) h));
    faulty = faulty_on f;
    within = s.within;
  }

  module _ (k : TokenKind) (f : Front fresh (take n rest) (drop n rest) (Some (lexeme_of (take n rest) k))) where
    -- the token that stands there
    token : Token
    token = record { kind = k; start = at; end = at + n }

    bytes_are : slice_range text at (at + n) ≡ take n rest
    bytes_are =
        let e : at + n - at ≡ n = omega arith in
        rw (e, s.left) refl

    piece_is : ◌≡◌ {A = Piece} (record { lexeme = lexeme_of (take n rest) k; start = at; end = at + length (take n rest) }) (piece_of text token)
    unfolding token
    piece_is = rw (bytes_are, front_length rest n l) refl

    lexed_on : (ps : List Piece) → Lexes (fresh_behind fresh (take n rest)) (at + n) (drop n rest) ps
        → Lexes true 0 text (pieces_of text (ts ++ token ∷ []) ++ ps)
    lexed_on ps h =
        let g = s.lexed _
        (taken f (sym (take-append-drop n rest)) (subst (λ i. Lexes (fresh_behind fresh (take n rest)) (at + i) (drop n rest) ps)
        (sym (front_length rest n l)) h) (ap (λ p. p ∷ ps) (sym piece_is))) in
        subst (λ ps. Lexes true 0 text ps)
        (sym (append_assoc (pieces_of text ts) (piece_of text token ∷ []) ps)
        ∙ ap (λ qs. qs ++ ps) (sym (map_push (piece_of text) ts token))) g

    within_on : IsUtf8 text → IsUtf8 rest → IsWithin text token
    unfolding token
    within_on u v =
        let p = lexeme_plain f in
        record {
          not_empty = omega (arith, p.0, front_length rest n l);
          in_text = omega (arith, s.place, l);
          cut_at_start = IsCharBoundary-from_drop text at (omega (arith, s.place)) (subst (λ t. IsUtf8 t) s.left v);
          cut_at_end =
              IsCharBoundary-from_rest text at n (omega (arith, s.place))
              (subst (λ t. IsCharBoundary t n) s.left (ends_cut rest n v l (front_ends f)));
          ascii = rw bytes_are p.1;
        }

    pub token_read : IsUtf8 text → IsUtf8 rest
        → ReadSoFar text (ts ++ record { kind = k; start = at; end = at + n } ∷ []) (fresh_behind fresh (take n rest)) (at + n)
        (drop n rest)
    unfolding token
    token_read u v = record {
      place = place_on;
      left = left_on;
      lexed = lexed_on;
      faulty = faulty_on f;
      within = All-push (IsWithin text) ts token s.within (within_on u v);
    }

-- at the end of the text
pub all_read : (text rest : List ℕ) (ts : List Token) (fresh : Bool) (at : ℕ) → ReadSoFar text ts fresh at rest → length rest ≡ 0
    → Lexes true 0 text (pieces_of text ts)
all_read text rest ts fresh at s e = subst (λ ps. Lexes true 0 text ps) (append-nil (pieces_of text ts)) (s.lexed [] (finished (nil_from_length rest e) refl))

-- ---- one turn of the loop

pub takes_some : (fresh : Bool) (rest : List ℕ) (f : Found) → IsFound fresh rest f → 0 < f.end
takes_some fresh rest f i = omega (arith, front_some i.front, front_length rest f.end i.in_text)

-- what the loop knows behind a front: a blank, or one more token
pub record Behind (text rest more : List ℕ) (ts us : List Token) (after : Bool) (at : ℕ) (f : Found) : Type 0 where
  pub blank : f.kind ≡ None → us ≡ ts → ReadSoFar text us after (at + f.end) more
  pub token : (k : TokenKind) → IsUtf8 text → IsUtf8 rest → f.kind ≡ Some k → us ≡ ts ++ record { kind = k; start = at; end = at + f.end } ∷ []
      → ReadSoFar text us after (at + f.end) more

pub behind : (text rest more : List ℕ) (ts us : List Token) (fresh after : Bool) (at : ℕ) (f : Found) → ReadSoFar text ts fresh at rest → IsFound fresh rest f
    → more ≡ drop f.end rest → after ≡ fresh_behind fresh (take f.end rest) → Behind text rest more ts us after at f
behind text rest more ts us fresh after at f s i h b =
    let front = λ (k : Option TokenKind) (e : f.kind ≡ k). subst
    (λ k. Front fresh (take f.end rest) (drop f.end rest) (option_map (lexeme_of (take f.end rest)) k)) e i.front in
    record {
      blank = λ e g. rw (g, h, b) (blank_read text rest ts fresh at f.end s i.in_text (front None e));
      token = λ k u v e g. rw (g, h, b) (token_read text rest ts fresh at f.end s i.in_text k (front (Some k) e) u v);
    }
