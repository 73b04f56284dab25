-- Integers, truth values, words, lists and options as trees of numbers, one to one, which the logic stores.
use Rattle.std.specs.Prelude.{◌≡◌, refl, ℕ, zero, suc, ℤ, pos, negsuc, List, [], ◌∷◌, Option, Some, None, Bool, true, false}
use Rattle.std.specs.Coded.{Coded}
use Rattle.std.proofs.Common.{sym, ap, ◌∙◌}
use base.Stored.{Gv, gnil, gnum, gcons}
use Rattle.cilk_tree_syntax.specs.Tree.{Word, Literal, Label}

-- a type whose values `to` stores and `from` gives back
abbrev pub coded_back : {A : Type 0} (to : A → Gv) (from : Gv → A) → ((x : A) → from (to x) ≡ x) → Coded A
coded_back to from back = record { code = to; inj = λ x y e. sym (back x) ∙ ap from e ∙ back y }

module _ {A : Type 0} (to : A → Gv) (from : Gv → A) (back : (x : A) → from (to x) ≡ x) where
  abbrev pub list_to : List A → Gv
  list_to [] = gnil
  list_to (x ∷ xs) = gcons (to x) (list_to xs)

  abbrev pub list_from : Gv → List A
  list_from (gcons x xs) = from x ∷ list_from xs
  list_from _ = []

  pub list_back : (xs : List A) → list_from (list_to xs) ≡ xs
  list_back [] = refl
  list_back (x ∷ xs) = λ i. back x i ∷ list_back xs i

  abbrev pub option_to : Option A → Gv
  option_to None = gnil
  option_to (Some x) = gcons gnil (to x)

  abbrev pub option_from : Gv → Option A
  option_from (gcons _ x) = Some (from x)
  option_from _ = None

  pub option_back : (x : Option A) → option_from (option_to x) ≡ x
  option_back None = refl
  option_back (Some x) = λ i. Some (back x i)

abbrev pub integer_to : ℤ → Gv
integer_to (pos n) = gcons (gnum 0) (gnum n)
integer_to (negsuc n) = gcons (gnum 1) (gnum n)

abbrev pub integer_from : Gv → ℤ
integer_from (gcons (gnum zero) (gnum n)) = pos n
integer_from (gcons (gnum (suc _)) (gnum n)) = negsuc n
integer_from _ = pos 0

pub integer_back : (x : ℤ) → integer_from (integer_to x) ≡ x
integer_back (pos n) = refl
integer_back (negsuc n) = refl

abbrev pub text_to : List ℕ → Gv
text_to [] = gnil
text_to (x ∷ xs) = gcons (gnum x) (text_to xs)

abbrev pub text_from : Gv → List ℕ
text_from (gcons (gnum x) rest) = x ∷ text_from rest
text_from _ = []

pub text_back : (xs : List ℕ) → text_from (text_to xs) ≡ xs
text_back [] = refl
text_back (x ∷ xs) = ap (λ ys. x ∷ ys) (text_back xs)

abbrev pub word_to : Word → Gv
word_to w = gcons (gnum w.place) (text_to w.text)

abbrev pub word_from : Gv → Word
word_from (gcons (gnum place) text) = record { text = text_from text; place = place }
word_from _ = record { text = []; place = 0 }

pub word_back : (w : Word) → word_from (word_to w) ≡ w
word_back w = λ i. record { text = text_back w.text i; place = w.place }

abbrev pub literal_to : Literal → Gv
literal_to l = gcons (gnum l.place) (text_to l.bytes)

abbrev pub literal_from : Gv → Literal
literal_from (gcons (gnum place) text) = record { bytes = text_from text; place = place }
literal_from _ = record { bytes = []; place = 0 }

pub literal_back : (l : Literal) → literal_from (literal_to l) ≡ l
literal_back l = λ i. record { bytes = text_back l.bytes i; place = l.place }

abbrev pub label_to : Label → Gv
label_to l = gcons (gnum l.at) (option_to integer_to integer_from integer_back l.value)

abbrev pub label_from : Gv → Label
label_from (gcons (gnum at) value) = record { at = at; value = option_from integer_to integer_from integer_back value }
label_from _ = record { at = 0; value = None }

pub label_back : (l : Label) → label_from (label_to l) ≡ l
label_back l = λ i. record { at = l.at; value = option_back integer_to integer_from integer_back l.value i }

abbrev pub bool_to : Bool → Gv
bool_to false = gnum 0
bool_to true = gnum 1

abbrev pub bool_from : Gv → Bool
bool_from (gnum zero) = false
bool_from _ = true

pub bool_back : (x : Bool) → bool_from (bool_to x) ≡ x
bool_back false = refl
bool_back true = refl
