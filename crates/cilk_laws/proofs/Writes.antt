-- Texts that write some lexemes, whatever stands before them and behind.
use Rattle.std.proofs.Common.{◌≡◌, ℕ, Bool, true, false, ◌||◌, List, [], ◌∷◌, ◌++◌, Some, None, refl, subst, append_assoc, codes}
use Rattle.std.proofs.lemmas.Bool.{or_parts}
use Rattle.cilk_check.specs.lexeme.declared.keyword.Keyword.{Keyword}
use Rattle.cilk_check.specs.lexeme.declared.mark.Mark.{Mark}
use Rattle.cilk_check.specs.lexeme.Byte.{is_blank, continues_number}
use Rattle.cilk_check.specs.lexeme.Lexeme.{Lexeme, word, name, number, mark, literal}
use Rattle.cilk_check.specs.lexeme.Lexing.{EndsBefore, Front, fresh_behind, of_blank, of_word, of_name, of_number, of_mark}
use Rattle.cilk_parse.specs.Sight.{named}
use Rattle.cilk_check.specs.lexeme.Spelling.{spelling, mark_spelling, has_name_form, IsName, IsNumber, Says}
use Rattle.cilk_parse.proofs.lex_laws.Longest.{continues_mark, opens_mark, first_byte, longest_before, longest_alone}
use Rattle.cilk_parse.proofs.lex_laws.Made.{Made, Stops, skip_made, take_made, name_stops, text_front}
use Rattle.cilk_parse.proofs.lex_laws.Words.{named_front}

-- ---- what follows

-- a byte with which a word, a name, a number or a mark can go on
abbrev pub goes_on : ℕ → Bool
goes_on b = continues_number b || continues_mark b

-- nothing goes on with this text
abbrev pub Ends : List ℕ → Type 0
Ends text = EndsBefore goes_on text

ends_number : (rest : List ℕ) → Ends rest → Stops rest
ends_number [] e = tt
ends_number (b ∷ bs) e = (or_parts (continues_number b) (continues_mark b) e).0

ends_mark : (rest : List ℕ) → Ends rest → EndsBefore continues_mark rest
ends_mark [] e = tt
ends_mark (b ∷ bs) e = (or_parts (continues_number b) (continues_mark b) e).1

ends_on : (t rest : List ℕ) → Ends t → Ends rest → Ends (t ++ rest)
ends_on [] rest e f = f
ends_on (b ∷ bs) rest e f = e

-- ---- texts and their lexemes

-- made of these lexemes at each place, on a fresh line or not
abbrev pub MadeAnywhere : List ℕ → List Lexeme → Type 0
MadeAnywhere text ls = (fresh : Bool) → Made fresh text ls

-- the text s writes the lexemes ls, where what follows ends it
pub record Writes (s : List ℕ) (ls : List Lexeme) : Type 0 where
  pub before : (rest : List ℕ) (ms : List Lexeme) → Ends rest → MadeAnywhere rest ms → MadeAnywhere (s ++ rest) (ls ++ ms)

-- the text s writes the lexemes ls, whatever follows
pub record WritesAlone (s : List ℕ) (ls : List Lexeme) : Type 0 where
  pub before : (rest : List ℕ) (ms : List Lexeme) → MadeAnywhere rest ms → MadeAnywhere (s ++ rest) (ls ++ ms)

pub weaken : {s : List ℕ} {ls : List Lexeme} → WritesAlone s ls → Writes s ls
weaken w = record { before = λ rest ms e m. w.before rest ms m }

pub nothing_writes : WritesAlone [] []
nothing_writes = record { before = λ rest ms m. m }

-- the lexemes in another form
pub same_alone : {s : List ℕ} {ls ks : List Lexeme} → ls ≡ ks → WritesAlone s ls → WritesAlone s ks
same_alone {s = s} e w = subst (λ (l : List Lexeme). WritesAlone s l) e w

pub same_writes : {s : List ℕ} {ls ks : List Lexeme} → ls ≡ ks → Writes s ls → Writes s ks
same_writes {s = s} e w = subst (λ (l : List Lexeme). Writes s l) e w

regroup : (s t rest : List ℕ) (ls ks ms : List Lexeme) → MadeAnywhere (s ++ (t ++ rest)) (ls ++ (ks ++ ms)) → MadeAnywhere ((s ++ t) ++ rest) ((ls ++ ks) ++ ms)
regroup s t rest ls ks ms m = rw (append_assoc s t rest, append_assoc ls ks ms) m

-- one text after another: the first may be followed by anything
pub alone_then : {s t : List ℕ} {ls ks : List Lexeme} → WritesAlone s ls → Writes t ks → Writes (s ++ t) (ls ++ ks)
alone_then {s} {t} {ls} {ks} v w = record { before = λ rest ms e m. regroup s t rest ls ks ms (v.before (t ++ rest) (ks ++ ms) (w.before rest ms e m)) }

pub both_alone : {s t : List ℕ} {ls ks : List Lexeme} → WritesAlone s ls → WritesAlone t ks → WritesAlone (s ++ t) (ls ++ ks)
both_alone {s} {t} {ls} {ks} v w = record { before = λ rest ms m. regroup s t rest ls ks ms (v.before (t ++ rest) (ks ++ ms) (w.before rest ms m)) }

-- the second ends the first
pub ended_then : {s t : List ℕ} {ls ks : List Lexeme} → Writes s ls → Ends t → Writes t ks → Writes (s ++ t) (ls ++ ks)
ended_then {s} {t} {ls} {ks} v h w =
    record
    { before = λ rest ms e m. regroup s t rest ls ks ms (v.before (t ++ rest) (ks ++ ms) (ends_on t rest h e) (w.before rest ms e m)) }

-- the second has a first byte, which ends the first
pub ended_alone : {s t : List ℕ} {ls ks : List Lexeme} → Writes s ls → ((rest : List ℕ) → Ends (t ++ rest)) → WritesAlone t ks → WritesAlone (s ++ t) (ls ++ ks)
ended_alone {s} {t} {ls} {ks} v h w = record { before = λ rest ms m. regroup s t rest ls ks ms (v.before (t ++ rest) (ks ++ ms) (h rest) (w.before rest ms m)) }

-- ---- one lexeme

skipped_anywhere : {w rest : List ℕ} {ms : List Lexeme} → ((fresh : Bool) → Front fresh w rest None) → MadeAnywhere rest ms → MadeAnywhere (w ++ rest) ms
skipped_anywhere {w} f m fresh = skip_made (f fresh) (m (fresh_behind fresh w))

taken_anywhere : {w rest : List ℕ} {x : Lexeme} {ms : List Lexeme} → ((fresh : Bool) → Front fresh w rest (Some x)) → MadeAnywhere rest ms
    → MadeAnywhere (w ++ rest) (x ∷ ms)
taken_anywhere {w} f m fresh = take_made (f fresh) (m (fresh_behind fresh w))

pub blank_writes : (b : ℕ) → is_blank b ≡ true → WritesAlone (b ∷ []) []
blank_writes b h = record { before = λ rest ms m. skipped_anywhere (λ fresh. of_blank b h refl) m }

-- a mark with which no longer one begins
pub sure_mark : (k : Mark) → opens_mark (first_byte k) ≡ false → WritesAlone (mark_spelling k) (mark k ∷ [])
sure_mark k closed = record { before = λ rest ms m. taken_anywhere (λ fresh. of_mark k refl (longest_alone k rest closed)) m }

pub mark_writes : (k : Mark) → Writes (mark_spelling k) (mark k ∷ [])
mark_writes k = record { before = λ rest ms e m. taken_anywhere (λ fresh. of_mark k refl (longest_before k rest (ends_mark rest e))) m }

taken_mark : (k : Mark) (t rest : List ℕ) (ls ms : List Lexeme) → EndsBefore continues_mark (t ++ rest)
    → MadeAnywhere (t ++ rest) (ls ++ ms) → MadeAnywhere ((mark_spelling k ++ t) ++ rest) (mark k ∷ (ls ++ ms))
taken_mark k t rest ls ms h m = rw (append_assoc (mark_spelling k) t rest) (taken_anywhere (λ fresh. of_mark k refl (longest_before k (t ++ rest) h)) m)

-- any mark, and what has a first byte that continues no mark
pub mark_then : {t : List ℕ} {ls : List Lexeme} (k : Mark) → ((rest : List ℕ) → EndsBefore continues_mark (t ++ rest)) → Writes t ls
    → Writes (mark_spelling k ++ t) (mark k ∷ ls)
mark_then {t} {ls} k h w = record { before = λ rest ms e m. taken_mark k t rest ls ms (h rest) (w.before rest ms e m) }

pub word_writes : (k : Keyword) → Writes (spelling k) (word k ∷ [])
word_writes k = record { before = λ rest ms e m. taken_anywhere (λ fresh. of_word k refl (name_stops rest (ends_number rest e))) m }

pub name_writes : {w : List ℕ} → IsName w → Writes w (name w ∷ [])
name_writes n = record { before = λ rest ms e m. taken_anywhere (λ fresh. of_name n (name_stops rest (ends_number rest e))) m }

-- a name, and what has a first byte that continues no name
pub name_then : {w t : List ℕ} {ls : List Lexeme} → IsName w → ((rest : List ℕ) → Stops (t ++ rest)) → Writes t ls → Writes (w ++ t) (name w ∷ ls)
name_then {w} {t} {ls} n h v =
    record {
      before = λ rest ms e m. rw (append_assoc w t rest)
          (taken_anywhere (λ fresh. of_name n (name_stops (t ++ rest) (h rest))) (v.before rest ms e m));
    }

-- a text that is seen to be a name
pub fixed_name : (w : List ℕ) → has_name_form w ≡ true → named w ≡ name w → Writes w (name w ∷ [])
fixed_name w f n = record {
  before =
      λ rest ms e m. taken_anywhere
      (λ fresh. subst (λ x. Front fresh w rest (Some x)) n (named_front fresh w rest f (name_stops rest (ends_number rest e)))) m;
}

pub number_writes : {w : List ℕ} {n : ℕ} → IsNumber w n → Writes w (number n ∷ [])
number_writes {w} {n} h = record { before = λ rest ms e m. taken_anywhere (λ fresh. of_number n h (ends_number rest e)) m }

-- a text literal
pub text_writes : {body said : List ℕ} → Says body said → WritesAlone (codes "\"" ++ (body ++ codes "\"")) (literal said ∷ [])
text_writes s = record { before = λ rest ms m. taken_anywhere (λ fresh. text_front s) m }
