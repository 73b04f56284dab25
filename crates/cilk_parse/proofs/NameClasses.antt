-- The next token compared by the class of its name, and by its number.
use Rattle.std.proofs.Common.{◌≡◌, ℕ, ◌==◌, Bool, true, false, if◌then◌else◌, List, [], ◌∷◌, Option, Some, None, refl, sym, ap, ◌∙◌}
use Rattle.std.specs.Option.{option_eq}
use Rattle.std.proofs.lemmas.Bool.{eqb-true, eq-eqb, false_from_ne_true}
use denote.Enum.Bare.{sameb, same_true, same_false}
use Rattle.cilk_parse_grammar.specs.declared.name_class.NameClass.{NameClass}
use Rattle.cilk_parse_grammar.specs.contracts.name_class.NameClass as name_type
use Rattle.cilk_parse_grammar.specs.declared.name_class.NameClass.TheVariants as class
use Rattle.cilk_parse_grammar.specs.contracts.name_class.NameClassPartialEq.TheImpl.{eq-value}
use Rattle.cilk_parse_grammar.specs.Rule.{is}
use Rattle.cilk_parse_grammar.specs.Operators.{found}
use Rattle.cilk_parse_grammar.specs.NameClasses.{name_classes, named_class, named_in}
use Rattle.cilk_parse.specs.ClassNumbers.{number_of}

-- the row of a table that is found is of the class that was looked for
abbrev Numbered : {A : Type 0} → (A → ℕ) → List (ℕ × A) → Type 0
Numbered f [] = Unit {0}
Numbered f ((c, x) ∷ rows) = (f x ≡ c) × Numbered f rows

found_is : {A : Type 0} (f : A → ℕ) (rows : List (ℕ × A)) (c : ℕ) (x : A) → Numbered f rows → found rows c ≡ Some x → f x ≡ c
found_is f [] c x n e = absurd cc
found_is f ((d, y) ∷ rows) c x n e = by (d == c) refl e (λ h. found_is f rows c x n.1 h)
  where
    by : (b : Bool) → (d == c) ≡ b → (if b then Some y else found rows c) ≡ Some x → (found rows c ≡ Some x → f x ≡ c) → f x ≡ c
    by true h e i = ap f (let g : x ≡ y = cc in g) ∙ n.0 ∙ eqb-true d c h
    by false h e i = i e

number_is : (c : ℕ) (x : NameClass) → named_class c ≡ Some x → number_of x ≡ c
number_is c x e = found_is number_of name_classes c x (refl, (refl, (refl, (refl, (refl, (refl, (refl, tt))))))) e

again : (x : NameClass) → named_class (number_of x) ≡ Some x
again class.Main = refl
again class.Char = refl
again class.Printf = refl
again class.LockInit = refl
again class.Lock = refl
again class.Unlock = refl
again class.Other = refl

same_class : (v w : NameClass) → number_of v ≡ number_of w → v ≡ w
same_class v w e = let h : Some v ≡ Some w = sym (again v) ∙ ap named_class e ∙ again w in cc

compared : (w v : NameClass) (b : Bool) → sameb name_type.the_type v w ≡ b → b ≡ (number_of w == number_of v)
compared w v true h = sym (eq-eqb (number_of w) (number_of v) (ap number_of (sym (same_true name_type.the_type tt v w h))))
compared w v false h = sym (false_from_ne_true _ (λ e. same_false name_type.the_type v w h (sym (same_class w v (eqb-true _ _ e)))))

pub is_class : (w : NameClass) (k : Option ℕ) → option_eq eq-value.it (named_in k) (Some w) ≡ is (number_of w) k
is_class w None = refl
is_class w (Some c) = by (named_class c) refl
  where
    by : (o : Option NameClass) → named_class c ≡ o → option_eq eq-value.it o (Some w) ≡ (number_of w == c)
    by None e = sym (false_from_ne_true _ (λ h. let g : None ≡ Some w = sym e ∙ ap named_class (sym (eqb-true _ _ h)) ∙ again w in cc))
    by (Some v) e = compared w v _ refl ∙ ap (λ d. number_of w == d) (number_is c v e)
