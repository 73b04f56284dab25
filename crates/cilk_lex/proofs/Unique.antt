-- A text has one reading, or one first fault, and not both.
use Rattle.std.proofs.Common.{◌≡◌, ℕ, suc, zero, ◌+◌, ◌<◌, ◌≤◌, Bool, ◌⊎◌, inl, inr, List, [], ◌∷◌, ◌++◌, length, take, drop, Option, Some, None}
use Rattle.std.proofs.Common.{refl, sym, ap, subst, ◌∙◌, arith, length-append}
use Rattle.std.proofs.lemmas.Option.{same_Some}
use Rattle.std.proofs.lemmas.List.{take-append-drop, nil_from_length}
use Rattle.cilk_lex_tokens.specs.declared.fault.LexFault.{LexFault}
use Rattle.cilk_lex_tokens.specs.Lexeme.{Lexeme, Piece}
use Rattle.cilk_lex_tokens.specs.Lexing.{Front, fresh_behind, Lexes, finished, skipped, taken, Amiss, Faulty, here, later}
use Rattle.cilk_lex.specs.Sight.{Sight, found, amiss, nothing, sight}
use Rattle.cilk_lex.proofs.Forms.{front_some}
use Rattle.cilk_lex.proofs.Runs.{split_same}
use Rattle.cilk_lex.proofs.Seen.{front_seen, amiss_seen}
use Rattle.cilk_lex.proofs.Sees.{sees}
use Rattle.cilk_lex.proofs.Shows.{Shows}

-- ---- the front

found_is : (m n : ℕ) (x y : Option Lexeme) → found m x ≡ found n y → (m ≡ n) × (x ≡ y)
found_is m n x y e = (ap long e, ap lexeme e)
  where
    long : Sight → ℕ
    long (found n x) = n
    long (amiss f) = 0
    long nothing = 0

    lexeme : Sight → Option Lexeme
    lexeme (found n x) = x
    lexeme (amiss f) = None
    lexeme nothing = None

amiss_is : (f g : LexFault) → amiss f ≡ amiss g → f ≡ g
amiss_is f g e = cc

pub front_same : {fresh : Bool} {w rest v more : List ℕ} {x y : Option Lexeme} → Front fresh w rest x → Front fresh v more y
    → w ++ rest ≡ v ++ more → (w ≡ v) × (rest ≡ more) × (x ≡ y)
front_same {fresh} {w} {rest} {v} {more} {x} {y} f g e =
    let h = found_is (length w) (length v) x y (sym (front_seen 0 f) ∙ ap (sight fresh 0) e ∙ front_seen 0 g) in
    let p = split_same w rest v more e h.0 in
    (p.0, p.1, h.1)

pub front_no_fault : {fresh : Bool} {at : ℕ} {w rest text : List ℕ} {x : Option Lexeme} {g : LexFault} → Front fresh w rest x
    → Amiss fresh at text g → text ≡ w ++ rest → ⊥
front_no_fault {fresh} {at} {w} {rest} {text} {x} {g} f h e =
    let c : found (length w) x ≡ amiss g = sym (front_seen at f) ∙ ap (sight fresh at) (sym e) ∙ amiss_seen h in
    cc

pub amiss_same : {fresh : Bool} {at : ℕ} {text : List ℕ} {f g : LexFault} → Amiss fresh at text f → Amiss fresh at text g → f ≡ g
amiss_same {f = f} {g = g} h k = amiss_is f g (sym (amiss_seen h) ∙ amiss_seen k)

-- ---- texts

not_empty : {fresh : Bool} {w rest text : List ℕ} {x : Option Lexeme} → Front fresh w rest x → text ≡ w ++ rest → text ≡ [] → ⊥
not_empty {w = w} {rest = rest} f e z = omega (arith, front_some f, ap length z, ap length e, length-append w rest)

amiss_some : {fresh : Bool} {at : ℕ} {text : List ℕ} {f : LexFault} → Amiss fresh at text f → text ≡ [] → ⊥
unfolding sight
amiss_some {fresh} {at} {text} {f} h z = let c : nothing ≡ amiss f = ap (sight fresh at) (sym z) ∙ amiss_seen h in cc

empty_read : {fresh : Bool} {at : ℕ} {text : List ℕ} {ps : List Piece} → Lexes fresh at text ps → text ≡ [] → ps ≡ []
empty_read (finished e p) z = p
empty_read (skipped f e l) z = absurd (not_empty f e z)
empty_read (taken f e l p) z = absurd (not_empty f e z)

empty_right : {fresh : Bool} {at : ℕ} {text : List ℕ} {g : LexFault} → Faulty fresh at text g → text ≡ [] → ⊥
empty_right (here h) z = amiss_some h z
empty_right (later f e l) z = not_empty f e z

-- what is read behind a front is read behind the same front
moved : {w rest v more : List ℕ} (P : List ℕ → List ℕ → Type 0) → w ≡ v → rest ≡ more → P v more → P w rest
moved {w} {rest} {v} {more} P e f p = subst (λ t. P w t) (sym f) (subst (λ u. P u more) (sym e) p)

abbrev piece : Lexeme → ℕ → List ℕ → Piece
piece x at w = record { lexeme = x; start = at; end = at + length w }

same_pieces : (at : ℕ) (x y : Lexeme) (w v : List ℕ) (ts us : List Piece) → x ≡ y → w ≡ v → ts ≡ us
    → ◌≡◌ {A = List Piece} (piece x at w ∷ ts) (piece y at v ∷ us)
same_pieces at x y w v ts us e f g = rw (e, f, g) refl

pub one_reading : {fresh : Bool} {at : ℕ} {text : List ℕ} {ps qs : List Piece} → Lexes fresh at text ps → Lexes fresh at text qs → ps ≡ qs
one_reading (finished e p) m = p ∙ sym (empty_read m e)
one_reading (skipped f e l) (finished g q) = absurd (not_empty f e g)
one_reading {fresh} {at} {qs = qs} (skipped f e l) (skipped g d m) =
    let s = front_same f g (sym e ∙ d) in one_reading l (moved (λ w t. Lexes (fresh_behind fresh w) (at + length w) t qs) s.0 s.1 m)
one_reading (skipped f e l) (taken g d m q) = let s = (front_same f g (sym e ∙ d)).2 in absurd cc
one_reading (taken f e l p) (finished g q) = absurd (not_empty f e g)
one_reading (taken f e l p) (skipped g d m) = let s = (front_same f g (sym e ∙ d)).2 in absurd cc
one_reading {fresh} {at} (taken f e l p) (taken {qs = us} g d m q) =
    let s = front_same f g (sym e ∙ d) in
    p ∙ same_pieces at _ _ _ _ _ _ (same_Some _ _ s.2) s.0 (one_reading l (moved (λ w t. Lexes (fresh_behind fresh w) (at + length w) t us) s.0 s.1 m)) ∙ sym q

pub never_both : {fresh : Bool} {at : ℕ} {text : List ℕ} {ps : List Piece} {g : LexFault} → Lexes fresh at text ps → Faulty fresh at text g → ⊥
never_both (finished e p) h = empty_right h e
never_both (skipped f e l) (here h) = front_no_fault f h e
never_both {fresh} {at} {g = g} (skipped f e l) (later k d m) =
    let s = front_same f k (sym e ∙ d) in never_both l (moved (λ w t. Faulty (fresh_behind fresh w) (at + length w) t g) s.0 s.1 m)
never_both (taken f e l p) (here h) = front_no_fault f h e
never_both {fresh} {at} {g = g} (taken f e l p) (later k d m) =
    let s = front_same f k (sym e ∙ d) in never_both l (moved (λ w t. Faulty (fresh_behind fresh w) (at + length w) t g) s.0 s.1 m)

pub one_fault : {fresh : Bool} {at : ℕ} {text : List ℕ} {g h : LexFault} → Faulty fresh at text g → Faulty fresh at text h → g ≡ h
one_fault (here a) (here b) = amiss_same a b
one_fault (here a) (later f e l) = absurd (front_no_fault f a e)
one_fault (later f e l) (here a) = absurd (front_no_fault f a e)
one_fault {fresh} {at} {h = h} (later f e l) (later k d m) =
    let s = front_same f k (sym e ∙ d) in one_fault l (moved (λ w t. Faulty (fresh_behind fresh w) (at + length w) t h) s.0 s.1 m)

-- ---- each text has a reading or a fault

abbrev pub Read : Bool → ℕ → List ℕ → Type 0
Read fresh at text = ((ps : List Piece) × Lexes fresh at text ps) ⊎ ((f : LexFault) × Faulty fresh at text f)

on : (fresh : Bool) (at : ℕ) (w rest text : List ℕ) (x : Option Lexeme) → Front fresh w rest x → text ≡ w ++ rest
    → Read (fresh_behind fresh w) (at + length w) rest → Read fresh at text
on fresh at w rest text x f e (inr r) = inr (r.0, later f e r.1)
on fresh at w rest text None f e (inl r) = inl (r.0, skipped f e r.1)
on fresh at w rest text (Some x) f e (inl r) = inl (record { lexeme = x; start = at; end = at + length w } ∷ r.0, taken f e r.1 refl)

shown : (fresh : Bool) (at : ℕ) (text : List ℕ) (s : Sight) → Shows fresh at text s
    → ((w rest : List ℕ) → 0 < length w → text ≡ w ++ rest → Read (fresh_behind fresh w) (at + length w) rest) → Read fresh at text
shown fresh at text (found n x) h more =
    on fresh at (take n text) (drop n text) text x h.1 (sym (take-append-drop n text))
    (more (take n text) (drop n text) (front_some h.1) (sym (take-append-drop n text)))
shown fresh at text (amiss f) h more = inr (f, here h)
shown fresh at text nothing h more = inl ([], finished h refl)

read_within : (n : ℕ) (fresh : Bool) (at : ℕ) (text : List ℕ) → length text ≤ n → Read fresh at text
read_within zero fresh at text l = inl ([], finished (nil_from_length text (omega (arith, l))) refl)
read_within (suc n) fresh at text l =
    shown fresh at text (sight fresh at text) (sees fresh at text)
    (λ w rest p e. read_within n (fresh_behind fresh w) (at + length w) rest (omega (arith, p, l, ap length e, length-append w rest)))

pub reading_or_fault : (fresh : Bool) (at : ℕ) (text : List ℕ) → Read fresh at text
reading_or_fault fresh at text = read_within (length text) fresh at text (omega arith)
