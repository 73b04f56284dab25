-- The places of faults, and what reading all tokens says of the text.
use Rattle.std.proofs.Common.{◌≡◌, ℕ, ◌-◌, ◌<◌, ◌≤◌, true, List, [], ◌∷◌, length, take, drop, map, Result, Ok, Err, IfErr, refl}
use Rattle.std.proofs.Common.{sym, ap, subst, ◌∙◌, arith, slice_index_or, All, ◌⊎◌, inl, inr}
use Rattle.std.proofs.lemmas.List.Elements.{All-head, All-drop}
use Rattle.std.proofs.lemmas.List.{drop-map, length-map, take_all, length-drop}
use Rattle.cilk_lex.specs.lexeme.Lexeme.{Piece, piece_of, pieces_of}
use Rattle.cilk_lex.specs.lexeme.declared.fault.LexFault.{LexFault}
use Rattle.cilk_lex.specs.lexeme.declared.fault.LexFault.TheVariants as lex
use Rattle.cilk_lex.specs.lexeme.declared.token.Token.{Token}
use Rattle.cilk_lex.specs.lexeme.Lexing.{Lexes, text_limit}
use Rattle.cilk_lex.proofs.Unique.{one_reading, never_both}
use Rattle.cilk_lex.specs.Reading.{IsWithin}
use Rattle.cilk_parse_grammar.specs.syntax.Tree as tree
use Rattle.cilk_parse_grammar.specs.declared.fault.Fault.{Fault}
use Rattle.cilk_parse_grammar.specs.declared.fault.Fault.TheVariants.{Unexpected, TooDeep}
use Rattle.cilk_parse_grammar.specs.declared.fault.ReadError.{ReadError}
use Rattle.cilk_parse_grammar.specs.declared.fault.ReadError.TheVariants as errors
use Rattle.cilk_parse_grammar.specs.ReadsAs.{Fails}
use Rattle.cilk_parse_grammar.specs.Rule.{Read}
use Rattle.cilk_parse_grammar.proofs.RulesTools.{ok_is}
use Rattle.cilk_parse_grammar.specs.Fault.{IsNotGoingOn, any_limits, the_limits, start_or, place_left}
use Rattle.cilk_parse_grammar.proofs.Programs.{program_takes, program_again}
use Rattle.cilk_parse_grammar.proofs.Viable.{unexpected_stops, too_deep_stops, unexpected_within, too_deep_within, too_deep_token}
use Rattle.cilk_parse.specs.declared.fault.ReadFault.{ReadFault}
use Rattle.cilk_parse.specs.declared.fault.ReadFault.TheVariants as fault
use Rattle.cilk_parse.specs.Text.{Spells, StopsAt, told_at, told_of, ReadingStops, HasLexFault, HasFault}
use Rattle.cilk_parse.specs.FaultPlace.{place_of}
use Rattle.cilk_parse.proofs.Programs.{Parts, whole}

-- ---- tokens in their text

first_start : (text : List ℕ) (end : ℕ) (xs : List Token) (d : Token) → 1 ≤ length xs → (slice_index_or xs 0 d).start ≡ start_or end (map (piece_of text) xs)
first_start text end [] d le = absurd (omega (arith, le))
first_start text end (x ∷ xs) d le = refl

-- the place of the first of the tokens that are left
pub first_left : (text : List ℕ) (end left : ℕ) (ts : List Token) (d : Token) → left ≤ length ts → 1 ≤ left
    → (slice_index_or (take (length ts - (length ts - left)) (drop (length ts - left) ts)) 0 d).start ≡ place_left end (pieces_of text ts) left
first_left text end left ts d le some =
    let rest = drop (length ts - left) ts in
    let long : length rest ≡ left = omega (arith, length-drop (length ts - left) ts, le) in
    let all : take (length ts - (length ts - left)) rest ≡ rest = take_all (length ts - (length ts - left)) rest (omega (arith, long, le)) in
    let same : map (piece_of text) rest ≡ drop (length (pieces_of text ts) - left) (pieces_of text ts) =
    sym (drop-map (piece_of text) (length ts - left) ts) ∙ ap (λ n. drop (n - left) (pieces_of text ts)) (sym (length-map ts (piece_of text))) in
    ap (λ (l : List Token). (slice_index_or l 0 d).start) all ∙ first_start text end rest d (omega (arith, long, some))
    ∙ ap (λ (l : List Piece). start_or end l) same

start_in : (text : List ℕ) (xs : List Token) → All (IsWithin text) xs → start_or (length text) (map (piece_of text) xs) ≤ length text
start_in text [] h = omega arith
start_in text (x ∷ xs) h = let w : IsWithin text x = All-head (IsWithin text) x xs h in omega (arith, w.not_empty, w.in_text)

start_before : (text : List ℕ) (xs : List Token) → All (IsWithin text) xs → 1 ≤ length xs → start_or (length text) (map (piece_of text) xs) < length text
start_before text [] h le = absurd (omega (arith, le))
start_before text (x ∷ xs) h le = let w : IsWithin text x = All-head (IsWithin text) x xs h in omega (arith, w.not_empty, w.in_text)

left_is : (text : List ℕ) (k : ℕ) (ts : List Token)
    → place_left (length text) (pieces_of text ts) k ≡ start_or (length text) (map (piece_of text) (drop (length ts - k) ts))
left_is text k ts =
    ap (λ n. start_or (length text) (drop (n - k) (pieces_of text ts))) (length-map ts (piece_of text))
    ∙ ap (λ (l : List Piece). start_or (length text) l) (drop-map (piece_of text) (length ts - k) ts)

-- a place of tokens is in the text, and before its end where some token is left
left_in : (text : List ℕ) (k : ℕ) (ts : List Token) → All (IsWithin text) ts → place_left (length text) (pieces_of text ts) k ≤ length text
left_in text k ts h = rw (left_is text k ts) (start_in text (drop (length ts - k) ts) (All-drop (IsWithin text) (length ts - k) ts h))

left_before : (text : List ℕ) (k : ℕ) (ts : List Token) → All (IsWithin text) ts → 1 ≤ k → k ≤ length ts
    → place_left (length text) (pieces_of text ts) k < length text
left_before text k ts h some le =
    rw (left_is text k ts)
    (start_before text (drop (length ts - k) ts) (All-drop (IsWithin text) (length ts - k) ts h) (omega (arith, some, le, length-drop (length ts - k) ts)))

-- ---- programs

pub program_found : (text : List ℕ) (ps : List Piece) (p : tree.Program) (rest : List Piece) → Lexes true 0 text ps
    → whole ps ≡ Ok ((p.headers, p.items), rest) → p.length ≡ length text → Spells text p
program_found text ps p rest lexed e n = record { pieces = ps; lexed = lexed; spelled = program_takes 200 200 201 ps p rest e; length = n }

program_read : (text : List ℕ) (ps : List Piece) (p : tree.Program) → Lexes true 0 text ps → Spells text p → whole ps ≡ Ok ((p.headers, p.items), [])
program_read text ps p lexed s = ap whole (one_reading lexed s.lexed) ∙ program_again 200 200 201 s.pieces p s.spelled

pub program_same : (text : List ℕ) (ps : List Piece) (p q : tree.Program) (rest : List Piece) → Lexes true 0 text ps
    → whole ps ≡ Ok ((q.headers, q.items), rest) → q.length ≡ length text → Spells text p → q ≡ p
program_same text ps p q rest lexed e n s =
    let h = ok_is ((q.headers, q.items), rest) ((p.headers, p.items), []) (sym e ∙ program_read text ps p lexed s) in
    let headers_same : q.headers ≡ p.headers = ap (λ (z : Parts × List Piece). z.0.0) h in
    let items_same : q.items ≡ p.items = ap (λ (z : Parts × List Piece). z.0.1) h in
    let length_same : q.length ≡ p.length = n ∙ sym s.length in
    λ i. record { headers = headers_same i; items = items_same i; length = length_same i }

pub one_program : (text : List ℕ) (p q : tree.Program) → Spells text p → Spells text q → p ≡ q
one_program text p q s t = program_same text s.pieces q p [] s.lexed (program_again 200 200 201 s.pieces p s.spelled) s.length t

abbrev read_as : Parts × List Piece → Read Piece Parts
read_as x = Ok x

pub no_program : (text : List ℕ) (ps : List Piece) (f : Fault) (p : tree.Program) → Lexes true 0 text ps → whole ps ≡ Err f → Spells text p → ⊥
no_program text ps f p lexed e s = let h : read_as ((p.headers, p.items), []) ≡ Err f = sym (program_read text ps p lexed s) ∙ e in cc

-- ---- a text that has tokens has no fault of these

pub no_lex_fault : (text : List ℕ) (ps : List Piece) (f : LexFault) → length text ≤ text_limit → Lexes true 0 text ps → HasLexFault text f → ⊥
no_lex_fault text ps lex.TooLong short l h = absurd (omega (arith, short, h.1))
no_lex_fault text ps (lex.BadByte at) short l h = never_both l h.1.1
no_lex_fault text ps (lex.OpenComment at) short l h = never_both l h.1.1
no_lex_fault text ps (lex.OpenText at) short l h = never_both l h.1.1
no_lex_fault text ps (lex.BadNumber at) short l h = never_both l h.1.1
no_lex_fault text ps (lex.BadEscape at) short l h = never_both l h.1.1
no_lex_fault text ps (lex.BadDirective at) short l h = never_both l h.1.1
no_lex_fault text ps lex.Memory short l h = absurd (h.0 refl)

pub too_long_so : (text : List ℕ) (r : Result tree.Program ReadFault) → IfErr r (HasFault text) → r ≡ Err (fault.Lex lex.TooLong) → text_limit < length text
too_long_so text (Ok p) h e = absurd cc
too_long_so text (Err f) h e =
    let same : f ≡ fault.Lex lex.TooLong = cc in let x : HasFault text (fault.Lex lex.TooLong) = subst (λ g. HasFault text g) same h in x.1

-- ---- where reading stops

stops_at : (allowed : ℕ → ℕ → ℕ → Type 0) (text : List ℕ) (ps : List Piece) (at : ℕ) → length text ≤ text_limit → Lexes true 0 text ps
    → IsNotGoingOn allowed (length text) ps at → StopsAt allowed text at
stops_at allowed text ps at short lexed h = record { short = short; pieces = ps; lexed = lexed; stops = h }

reading_stops : (text : List ℕ) (ps : List Piece) (f : Fault) → Lexes true 0 text ps → whole ps ≡ Err f → ReadingStops text (told_at (length text) ps f)
reading_stops text ps f lexed e = record { pieces = ps; lexed = lexed; met = f; stops = e; is = refl }

abbrev as_err : Fault → Read Piece Parts
as_err f = Err f

err_is : (f g : Fault) → as_err f ≡ as_err g → f ≡ g
err_is f g e = cc

-- what is told where reading stops, is what was told
one_stop : (text : List ℕ) (ps : List Piece) (f : Fault) (told : ReadFault) → Lexes true 0 text ps → whole ps ≡ Err f
    → ReadingStops text told → told_at (length text) ps f ≡ told
one_stop text ps f told lexed e s =
    let same : ps ≡ s.pieces = one_reading lexed s.lexed in
    let both : f ≡ s.met = err_is f s.met (sym e ∙ ap whole same ∙ s.stops) in
    ap (λ (v : List Piece). told_at (length text) v f) same ∙ ap (told_at (length text) s.pieces) both ∙ sym s.is

-- a text whose reading stops is no program
pub no_stop : (text : List ℕ) (ps : List Piece) (y : Parts × List Piece) (told : ReadFault) → Lexes true 0 text ps → whole ps ≡ Ok y
    → ReadingStops text told → ⊥
no_stop text ps y told lexed e s =
    let both : read_as y ≡ Err s.met = sym e ∙ ap whole (one_reading lexed s.lexed) ∙ s.stops in cc

-- ---- what is told of the tokens of a text, where reading them fails so

-- no more are left than there are
pub unexpected_left : (text : List ℕ) (ts : List Token) (e : ReadError) (k : ℕ) → e ≡ errors.Fault (Unexpected k)
    → Fails e (whole (pieces_of text ts)) → k ≤ length ts
unexpected_left text ts e k is h =
    let met : Fails (errors.Fault (Unexpected k)) (whole (pieces_of text ts)) = subst (λ x. Fails x (whole (pieces_of text ts))) is h in
    omega (arith, unexpected_within 200 200 201 (pieces_of text ts) k met, length-map ts (piece_of text))

pub too_deep_left : (text : List ℕ) (ts : List Token) (e : ReadError) (k : ℕ) → e ≡ errors.Fault (TooDeep k)
    → Fails e (whole (pieces_of text ts)) → k ≤ length ts
too_deep_left text ts e k is h =
    let met : Fails (errors.Fault (TooDeep k)) (whole (pieces_of text ts)) = subst (λ x. Fails x (whole (pieces_of text ts))) is h in
    omega (arith, too_deep_within 200 200 201 (pieces_of text ts) k met, length-map ts (piece_of text))

module _ (text : List ℕ) (ts : List Token) (short : length text ≤ text_limit) (lexed : Lexes true 0 text (pieces_of text ts)) where
  abbrev pieces : List Piece
  pieces = pieces_of text ts

  abbrev told : ReadError → ReadFault
  told e = told_of (length text) pieces e

  pub refused_so : All (IsWithin text) ts → (e : ReadError) → Fails e (whole pieces) → HasFault text (told e)
  refused_so within errors.Memory h = tt
  refused_so within (errors.Fault (Unexpected k)) h = (
    reading_stops text pieces (Unexpected k) lexed h,
    stops_at any_limits text pieces _ short lexed (unexpected_stops (length text) pieces k h),
  )
  refused_so within (errors.Fault (TooDeep k)) h = (
    reading_stops text pieces (TooDeep k) lexed h,
    stops_at the_limits text pieces _ short lexed (too_deep_stops (length text) pieces k h),
    left_before text k ts within (too_deep_token 200 200 201 pieces k h) (too_deep_left text ts (errors.Fault (TooDeep k)) k refl h),
  )

  pub placed_so : All (IsWithin text) ts → (e : ReadError) → place_of (told e) ≤ length text
  placed_so within errors.Memory = omega arith
  placed_so within (errors.Fault (Unexpected k)) = left_in text k ts within
  placed_so within (errors.Fault (TooDeep k)) = left_in text k ts within

  pub no_program_so : (e : ReadError) (p : tree.Program) → Fails e (whole pieces) → Spells text p → told e ≡ fault.Memory
  no_program_so errors.Memory p h s = refl
  no_program_so (errors.Fault f) p h s = absurd (no_program text pieces f p lexed h s)

  pub one_fault_so : (e : ReadError) (g : ReadFault) → Fails e (whole pieces) → ReadingStops text g → (told e ≡ g) ⊎ (told e ≡ fault.Memory)
  one_fault_so errors.Memory g h s = inr refl
  one_fault_so (errors.Fault f) g h s = inl (one_stop text pieces f g lexed h s)
