-- Single tokens, as the cursor reads them.
use Rattle.std.proofs.Common.{◌≡◌, ℕ, Bool, true, false, if◌then◌else◌, List, [], ◌∷◌, length, Some, None, Ok, Err, refl}
use Rattle.cilk_parse_grammar.specs.lexeme.Lexeme.{Lexeme, Piece, word, name, number, mark, literal, inclusion}
use Rattle.cilk_parse_grammar.specs.lexeme.declared.keyword.Keyword.{Keyword}
use Rattle.cilk_parse_grammar.specs.declared.fault.Fault.TheVariants.{Unexpected}
use Rattle.cilk_parse_grammar.specs.syntax.Tree.{Word}
use Rattle.cilk_parse_grammar.specs.Rule.{◌>>=◌, Read, has, is, class_at, token_at, wanted}
use Rattle.cilk_parse_grammar.specs.Classes.{a_word, a_number, a_literal, an_inclusion, names, cls, class_of}
use Rattle.cilk_parse_grammar.specs.Front.{place_at, name_at, name_by, number_at, number_by, header_at, header_by, literal_at, literal_by}
use Rattle.cilk_parse_grammar.proofs.ClassFacts.{names_are}
use Rattle.cilk_parse_grammar.specs.Parts.{the_word, the_name, the_number, the_literal, the_header}
use Rattle.cilk_parse_grammar.specs.Spelling.{said, given, leaf_at}

no_meaning : {A : Type 0} (b : Bool) (ts : List Piece) → given {A = A} b None ts ≡ Err (Unexpected (length ts))
no_meaning true ts = refl
no_meaning false ts = refl

-- a name of one of these classes
pub some_name : (cs : List ℕ) (ts : List Piece) → leaf_at (the_name cs) ts ≡ (if has cs (class_at cls ts) then name_at ts else Err (Unexpected (length ts)))
unfolding leaf_at name_at
some_name cs [] = by (has cs None)
  where
    nothing : Read Piece Word
    nothing = Err (Unexpected 0)

    by : (b : Bool) → nothing ≡ (if b then nothing else nothing)
    by true = refl
    by false = refl
some_name cs (t ∷ ts) = by (has cs (Some (cls t))) t.lexeme
  where
    by : (b : Bool) (x : Lexeme)
        → given {A = Word} b (said (the_name cs) x t.start) (t ∷ ts) ≡ (if b then name_by t ts x else Err (Unexpected (length (t ∷ ts))))
    by true (name x) = refl
    by true (word x) = refl
    by true (number x) = refl
    by true (mark x) = refl
    by true (literal x) = refl
    by true (inclusion x) = refl
    by false (name x) = refl
    by false (word x) = refl
    by false (number x) = refl
    by false (mark x) = refl
    by false (literal x) = refl
    by false (inclusion x) = refl

-- any name
pub any_name : (ts : List Piece) → leaf_at (the_name names) ts ≡ name_at ts
unfolding leaf_at name_at
any_name [] = refl
any_name (t ∷ ts) = by t.lexeme
  where
    by : (x : Lexeme) → given (has names (Some (class_of x))) (said (the_name names) x t.start) (t ∷ ts) ≡ name_by t ts x
    by (name x) = rw (names_are x) refl
    by (word w) = no_meaning _ (t ∷ ts)
    by (number n) = refl
    by (mark m) = no_meaning _ (t ∷ ts)
    by (literal b) = refl
    by (inclusion h) = refl

pub a_word_is : (w : Keyword) (ts : List Piece) → leaf_at (the_word w) ts ≡ (token_at cls (a_word w) ts >>= λ us. Ok (place_at ts, us))
unfolding leaf_at
a_word_is w [] = refl
a_word_is w (t ∷ ts) = by (is (a_word w) (Some (cls t)))
  where
    by : (b : Bool) → given b (Some t.start) (t ∷ ts) ≡ (wanted b (t ∷ ts) >>= λ us. Ok (t.start, us))
    by true = refl
    by false = refl

pub a_number_is : (ts : List Piece) → leaf_at the_number ts ≡ number_at ts
unfolding leaf_at number_at
a_number_is [] = refl
a_number_is (t ∷ ts) = by t.lexeme
  where
    by : (x : Lexeme) → given (is a_number (Some (class_of x))) (said the_number x t.start) (t ∷ ts) ≡ number_by t ts x
    by (name x) = no_meaning _ (t ∷ ts)
    by (word w) = no_meaning _ (t ∷ ts)
    by (number n) = refl
    by (mark m) = no_meaning _ (t ∷ ts)
    by (literal b) = refl
    by (inclusion h) = refl

pub a_literal_is : (ts : List Piece) → leaf_at the_literal ts ≡ literal_at ts
unfolding leaf_at literal_at
a_literal_is [] = refl
a_literal_is (t ∷ ts) = by t.lexeme
  where
    by : (x : Lexeme) → given (is a_literal (Some (class_of x))) (said the_literal x t.start) (t ∷ ts) ≡ literal_by t ts x
    by (name x) = no_meaning _ (t ∷ ts)
    by (word w) = no_meaning _ (t ∷ ts)
    by (number n) = refl
    by (mark m) = no_meaning _ (t ∷ ts)
    by (literal b) = refl
    by (inclusion h) = refl

pub a_header_is : (ts : List Piece) → leaf_at the_header ts ≡ header_at ts
unfolding leaf_at header_at
a_header_is [] = refl
a_header_is (t ∷ ts) = by t.lexeme
  where
    by : (x : Lexeme) → given (is an_inclusion (Some (class_of x))) (said the_header x t.start) (t ∷ ts) ≡ header_by t ts x
    by (name x) = no_meaning _ (t ∷ ts)
    by (word w) = no_meaning _ (t ∷ ts)
    by (number n) = refl
    by (mark m) = no_meaning _ (t ∷ ts)
    by (literal b) = refl
    by (inclusion h) = refl
