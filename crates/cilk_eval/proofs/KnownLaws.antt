-- The value of a plain expression is that over what is known of its variables.
use Rattle.std.proofs.Common.{◌≡◌, ◌<◌, zero, suc, drop, ◌⊎◌, inl, inr, ◌&&◌, ◌==◌, Bool, true, false, ℕ, ℤ, List, [], ◌∷◌, ◌++◌, map, refl, sym, ap}
use Rattle.std.proofs.Common.{◌∙◌, arith, cond}
use Rattle.std.proofs.lemmas.Bool.{and_parts, and_from}
use Rattle.std.specs.Prelude.{Decides, Option, Some, None, length, option_and_then}
use Rattle.std.specs.Ordering.{int_eq}
use Rattle.std.proofs.lemmas.List.{map-append}
use Rattle.std.proofs.lemmas.Bool.Decides.{Decides-int_eq, nat_tests}
use Rattle.cilk_frame.specs.labelled.Term.{Term, number, variable, element, synched, unary, binary, choose}
use Rattle.cilk_frame.specs.labelled.Value.{value_of}
use Rattle.cilk_frame.specs.nodes.declared.area.Area.{Area}
use Rattle.cilk_frame.specs.nodes.declared.area.Area.TheVariants.{Own, Outer, Global}
use Rattle.cilk_frame.specs.nodes.declared.slot.Slot.{Slot}
use Rattle.cilk_eval.specs.declared.known.Known.{Known}
use Rattle.cilk_eval.specs.Known.{behind_known, is_area, is_known, is_slot, known, known_in, known_of, known_value, variables_of}
use Rattle.cilk_frame.specs.nodes.Reads.{is_plain}
use Rattle.cilk_frame.specs.nodes.Reads.{ReadsSame}
use Rattle.cilk_frame.specs.nodes.Areas.{Cells, environment, slot_cell}
use Rattle.cilk_frame.proofs.nodes_laws.Environments.{value_of-same}

-- ---- one slot or two

same-area : (a b : Area) → is_area a b ≡ true → a ≡ b
same-area Own Own is = refl
same-area Outer Outer is = refl
same-area Global Global is = refl
same-area Own Outer is = cc
same-area Own Global is = cc
same-area Outer Own is = cc
same-area Outer Global is = cc
same-area Global Own is = cc
same-area Global Outer is = cc

own-area : (a : Area) → is_area a a ≡ true
own-area Own = refl
own-area Outer = refl
own-area Global = refl

same-number : (m n : ℕ) → (m == n) ≡ true → m ≡ n
same-number m n is = grind (arith, nat_tests)

own-number : (n : ℕ) → (n == n) ≡ true
own-number n = grind (arith, nat_tests)

pub same-slot : (a b : Slot) → is_slot a b ≡ true → a ≡ b
same-slot a b is =
    let front = (and_parts (is_area a.area b.area && (a.offset == b.offset)) (a.length == b.length) is).0 in
    let area = same-area a.area b.area (and_parts (is_area a.area b.area) (a.offset == b.offset) front).0 in
    let offset = same-number a.offset b.offset (and_parts (is_area a.area b.area) (a.offset == b.offset) front).1 in
    let length = same-number a.length b.length (and_parts (is_area a.area b.area && (a.offset == b.offset)) (a.length == b.length) is).1 in
    λ i. record { area = area i; offset = offset i; length = length i }

pub own-slot : (a : Slot) → is_slot a a ≡ true
own-slot a =
    and_from (is_area a.area a.area && (a.offset == a.offset)) (a.length == a.length)
    (and_from (is_area a.area a.area) (a.offset == a.offset) (own-area a.area) (own-number a.offset)) (own-number a.length)

-- ---- what is known of a variable

-- a slot stands among others
abbrev Has : List Slot → Slot → Type 0
Has [] p = ⊥
Has (s ∷ ss) p = (s ≡ p) ⊎ Has ss p

has-left : (ss ts : List Slot) (p : Slot) → Has ss p → Has (ss ++ ts) p
has-left [] ts p has = absurd has
has-left (s ∷ ss) ts p (inl is) = inl is
has-left (s ∷ ss) ts p (inr has) = inr (has-left ss ts p has)

has-right : (ss ts : List Slot) (p : Slot) → Has ts p → Has (ss ++ ts) p
has-right [] ts p has = has
has-right (s ∷ ss) ts p has = inr (has-right ss ts p has)

module _ (cells : Cells) where
  one-known : (s p : Slot) (others : ℤ) (is : Bool) → is_slot s p ≡ is → ((s ≡ p) ⊎ (others ≡ slot_cell cells p 0))
      → cond is (slot_cell cells s 0) others ≡ slot_cell cells p 0
  one-known s p others true same where_ = ap (λ (it : Slot). slot_cell cells it 0) (same-slot s p same)
  one-known s p others false other (inl is) = let own = own-slot p in let not : is_slot p p ≡ false = ap (λ (it : Slot). is_slot it p) (sym is) ∙ other in cc
  one-known s p others false other (inr known) = known

  known-there : (ss : List Slot) (p : Slot) → Has ss p → known_value (map (known_in cells) ss) p ≡ slot_cell cells p 0
  known-there [] p has = absurd has
  known-there (s ∷ ss) p (inl is) = one-known s p (known_value (map (known_in cells) ss) p) (is_slot s p) refl (inl is)
  known-there (s ∷ ss) p (inr has) = one-known s p (known_value (map (known_in cells) ss) p) (is_slot s p) refl (inr (known-there ss p has))

  -- ---- what a plain expression reads

  module _ (ks : List Known) where
    reads-known : (t : Term Slot) → is_plain t ≡ true → ((p : Slot) → Has (variables_of t) p → known_value ks p ≡ slot_cell cells p 0)
        → ReadsSame (known ks) (environment cells) t
    reads-known (number n) plain there = tt
    reads-known (variable p) plain there = there p (inl refl)
    reads-known (element p t) plain there = cc
    reads-known synched plain there = cc
    reads-known (unary op t) plain there = reads-known t plain there
    reads-known (binary op a b) plain there = (
      reads-known a (and_parts (is_plain a) (is_plain b) plain).0 (λ p has. there p (has-left (variables_of a) (variables_of b) p has)),
      reads-known b (and_parts (is_plain a) (is_plain b) plain).1 (λ p has. there p (has-right (variables_of a) (variables_of b) p has)),
    )
    reads-known (choose t a b) plain there =
        let others = (and_parts (is_plain t) (is_plain a && is_plain b) plain).1 in
        let behind : (p : Slot) → Has (variables_of a ++ variables_of b) p → known_value ks p ≡ slot_cell cells p 0 =
        λ p has. there p (has-right (variables_of t) (variables_of a ++ variables_of b) p has) in (
          reads-known t (and_parts (is_plain t) (is_plain a && is_plain b) plain).0
              (λ p has. there p (has-left (variables_of t) (variables_of a ++ variables_of b) p has)),
          reads-known a (and_parts (is_plain a) (is_plain b) others).0 (λ p has. behind p (has-left (variables_of a) (variables_of b) p has)),
          reads-known b (and_parts (is_plain a) (is_plain b) others).1 (λ p has. behind p (has-right (variables_of a) (variables_of b) p has)),
        )

  pub plain-value : (t : Term Slot) → is_plain t ≡ true → value_of (known (known_of cells t)) t ≡ value_of (environment cells) t
  plain-value t plain =
      value_of-same (known (known_of cells t)) (environment cells) t (reads-known (known_of cells t) t plain (λ p has. known-there (variables_of t) p has))

-- ---- known values in front of others

by_first : (is : Bool) (all front : Option (List Known)) (ys : List Known) → all ≡ option_and_then (behind_known ys) front
    → cond is all None ≡ option_and_then (behind_known ys) (cond is front None)
by_first true all front ys same = same
by_first false all front ys same = refl

pub behind_both : (xs ys values : List Known) → behind_known (xs ++ ys) values ≡ option_and_then (behind_known ys) (behind_known xs values)
behind_both [] ys values = refl
behind_both (x ∷ xs) ys [] = refl
behind_both (x ∷ xs) ys (first ∷ others) = by_first (is_known first x) (behind_known (xs ++ ys) others) (behind_known xs others) ys (behind_both xs ys others)

-- what is known of two lists of variables
pub behind_two : (cells : Cells) (ss ts : List Slot) (values : List Known) → behind_known (map (known_in cells) (ss ++ ts)) values
    ≡ option_and_then (behind_known (map (known_in cells) ts)) (behind_known (map (known_in cells) ss) values)
behind_two cells ss ts values =
    ap (λ ks. behind_known ks values) (map-append (known_in cells) ss ts) ∙ behind_both (map (known_in cells) ss) (map (known_in cells) ts) values

same-known : (a b : Known) → is_known a b ≡ true → a ≡ b
same-known a b is =
    let slot = same-slot a.slot b.slot (and_parts (is_slot a.slot b.slot) (int_eq a.value b.value) is).0 in
    let value = (Decides-int_eq a.value b.value).0 (and_parts (is_slot a.slot b.slot) (int_eq a.value b.value) is).1 in
    λ i. record { slot = slot i; value = value i }

own-known : (a : Known) → is_known a a ≡ true
own-known a = and_from (is_slot a.slot a.slot) (int_eq a.value a.value) (own-slot a.slot) ((Decides-int_eq a.value a.value).1 refl)

nothing-behind : (rest : List Known) → Some rest ≡ Some [] → rest ≡ []
nothing-behind rest is = cc

first_behind : (k first : Known) (ks others : List Known) (same : Bool) → is_known first k ≡ same → (behind_known ks others ≡ Some [] → others ≡ ks)
    → cond same (behind_known ks others) None ≡ Some [] → first ∷ others ≡ k ∷ ks
first_behind k first ks others true same rest left = λ i. same-known first k same i ∷ rest left i
first_behind k first ks others false same rest left = cc

pub all_behind : (ks values : List Known) → behind_known ks values ≡ Some [] → values ≡ ks
all_behind [] values is = nothing-behind values is
all_behind (k ∷ ks) [] is = cc
all_behind (k ∷ ks) (first ∷ others) is = first_behind k first ks others (is_known first k) refl (all_behind ks others) is

pub behind_all : (ks : List Known) → behind_known ks ks ≡ Some []
behind_all [] = refl
behind_all (k ∷ ks) = rw (own-known k) (behind_all ks)

-- whether all values stood there, by what is left of them
pub some_left : (ks values rest : List Known) (is_empty : Bool) → Some rest ≡ behind_known ks values → is_empty ≡ (length rest == 0)
    → Decides is_empty (values ≡ ks)
some_left ks values [] is_empty left empty = (λ yes. all_behind ks values (sym left), λ same. empty)
some_left ks values (r ∷ rs) is_empty left empty = (
  λ yes. absurd (omega (arith, same-number (length (r ∷ rs)) 0 (sym empty ∙ yes))),
  λ same. let bad : Some (r ∷ rs) ≡ Some [] = left ∙ ap (behind_known ks) same ∙ behind_all ks in cc,
)

pub none_left : (ks values : List Known) → None ≡ behind_known ks values → Decides false (values ≡ ks)
none_left ks values left = (
  λ yes. cc,
  λ same. let bad : None ≡ Some [] = left ∙ ap (behind_known ks) same ∙ behind_all ks in cc,
)

-- nothing is left for a variable
pub behind_nothing : (cells : Cells) (ss : List Slot) (i : ℕ) (left : List Known) → i < length ss → length left ≡ 0
    → behind_known (map (known_in cells) (drop i ss)) left ≡ None
behind_nothing cells [] i left there empty = absurd (omega (arith, there))
behind_nothing cells (s ∷ ss) zero [] there empty = refl
behind_nothing cells (s ∷ ss) zero (k ∷ ks) there empty = absurd (omega (arith, empty))
behind_nothing cells (s ∷ ss) (suc i) left there empty = behind_nothing cells ss i left (omega (arith, there)) empty
