-- What names stand for in the pass is what they mean in the labelled program.
use Rattle.std.proofs.Common.{◌≡◌, ℕ, zero, suc, ◌+◌, ◌<◌, Bool, true, false, not, cond, nat_lt, ◌≤◌, ◌⊎◌, List, [], ◌∷◌, ◌++◌, length, map, Option, Some}
use Rattle.std.proofs.Common.{None, inl, inr, refl, sym, ap, ◌∙◌, arith}
use Rattle.std.specs.Prelude.{bytes_eq, slice_index_or, position}
use Rattle.std.specs.List.{prefix_len}
use Rattle.std.proofs.lemmas.Bool.{lt-ltb, le-ltb, cases_lt}
use Rattle.cilk_load_nodes.specs.scopes.Scopes.{Declared}
use Rattle.cilk_load.specs.nodes.declared.area.Area.{Area}
use Rattle.cilk_load.specs.nodes.declared.area.Area.TheVariants.{Own, Outer, Global}
use Rattle.cilk_load.specs.nodes.declared.slot.Slot.{Slot}
use Rattle.cilk_load.specs.labelled.Labelled.{Declaration, unknown}
use Rattle.cilk_load.specs.labelled.Names as label
use Rattle.cilk_load.specs.labelled.Names.{Names, meaning_at, number_of, with_name}
use Rattle.cilk_load.specs.declared.binding.Binding.{Binding}
use Rattle.cilk_load.specs.Scope.{Named, Scope, found, visible, outward_area, outward, outward_named, declared, entered}

abbrev pub binding_of : (Declaration → Slot) → Declaration → Binding
binding_of slots d = record { slot = slots d; number = number_of d }

abbrev pub same_name : List ℕ → Declared → Bool
same_name name d = bytes_eq d.name.text name

abbrev pub meaning_in : Names → List ℕ → Declaration
meaning_in names name = meaning_at names.means (position (same_name name) (names.scopes.innermost ++ names.scopes.outer))

-- each name stands for what it means
pub record Agree (slots : Declaration → Slot) (names : Names) (s : Scope) : Type 0 where
  pub bindings : (name : List ℕ) → found (visible s) name ≡ binding_of slots (meaning_in names name)

shift : (m n : ℕ) (d : Declaration) (means : List Declaration)
    → meaning_at (d ∷ means) (cond (nat_lt (1 + m) (suc n)) (Some (1 + m)) None) ≡ meaning_at means (cond (nat_lt m n) (Some m) None)
shift m n d means = by_cases (cases_lt m n)
  where
    e : 1 + m ≡ suc m
    e = omega arith

    by_cases : (m < n) ⊎ (n ≤ m) → meaning_at (d ∷ means) (cond (nat_lt (1 + m) (suc n)) (Some (1 + m)) None) ≡ meaning_at means
        (cond (nat_lt m n) (Some m) None)
    by_cases (inl h) =
        ap (λ (b : Bool). meaning_at (d ∷ means) (cond b (Some (1 + m)) None)) (lt-ltb (1 + m) (suc n) (omega (arith, h)))
        ∙ ap (λ k. slice_index_or (d ∷ means) k unknown) e
        ∙ sym (ap (λ (b : Bool). meaning_at means (cond b (Some m) None)) (lt-ltb m n h))
    by_cases (inr h) =
        ap (λ (b : Bool). meaning_at (d ∷ means) (cond b (Some (1 + m)) None)) (le-ltb (1 + m) (suc n) (omega (arith, h)))
        ∙ sym (ap (λ (b : Bool). meaning_at means (cond b (Some m) None)) (le-ltb m n h))

first-place : (n : ℕ) → nat_lt 0 (suc n) ≡ true
first-place n = lt-ltb 0 (suc n) (omega arith)

-- the first of some declarations, or one of the others
pub meaning-first : (t : Declared → Bool) (x : Declared) (xs : List Declared) (d : Declaration) (means : List Declaration)
    → meaning_at (d ∷ means) (position t (x ∷ xs)) ≡ cond (t x) d (meaning_at means (position t xs))
meaning-first t x xs d means = by_test (t x)
  where
    m : ℕ
    m = prefix_len (λ y. not (t y)) xs

    by_test : (b : Bool) → meaning_at (d ∷ means) (cond (nat_lt (cond (not b) (1 + m) 0) (suc (length xs))) (Some (cond (not b) (1 + m) 0)) None) ≡ cond
        b d (meaning_at means (position t xs))
    by_test true = ap (λ (b : Bool). meaning_at (d ∷ means) (cond b (Some 0) None)) (first-place (length xs))
    by_test false = shift m (length xs) d means

-- behind one more declaration on both sides
pub agree-declared : (slots : Declaration → Slot) (names : Names) (s : Scope) (d : Declaration) (what : Declared) (e : Named) → e.name ≡ what.name.text
    → e.binding ≡ binding_of slots d → Agree slots names s → Agree slots (with_name names d what) (declared s e)
agree-declared slots names s d what e same stands agree = record {
  bindings = λ name.
      (λ i. cond (bytes_eq (same i) name) (stands i) (agree.bindings name i))
      ∙ choice (bytes_eq what.name.text name) (binding_of slots d) (meaning_in names name)
      ∙ ap (binding_of slots) (sym (meaning-first (same_name name) what (names.scopes.innermost ++ names.scopes.outer) d names.means));
}
  where
    choice : (b : Bool) (k : Binding) (m : Declaration) → cond b (binding_of slots d) (binding_of slots m) ≡ binding_of slots (cond b d m)
    choice true k m = refl
    choice false k m = refl

map-append : (xs ys : List Named) → map outward_named (xs ++ ys) ≡ map outward_named xs ++ map outward_named ys
map-append [] ys = refl
map-append (x ∷ xs) ys = ap (λ l. outward_named x ∷ l) (map-append xs ys)

outward-twice : (a : Area) → outward_area (outward_area a) ≡ outward_area a
outward-twice Own = refl
outward-twice Outer = refl
outward-twice Global = refl

once : (xs : List Named) → map outward_named xs ≡ map outward_named (map outward_named xs)
once [] = refl
once (x ∷ xs) = λ i. record {
  name = x.name;
  binding = record {
    slot = record { area = sym (outward-twice x.binding.slot.area) i; offset = x.binding.slot.offset; length = x.binding.slot.length };
    number
        = x.binding.number;
  };
} ∷ once xs i

-- what is visible in an inlet is what is visible around it, in its outer activation
pub visible-entered : (s : Scope) → visible (entered s) ≡ map outward_named (visible s)
visible-entered s =
    map-append s.innermost s.outer
    ∙ ap (λ l. map outward_named s.innermost ++ l) (once s.outer)
    ∙ sym (map-append s.innermost (map outward_named s.outer))

pub found-outward : (es : List Named) (name : List ℕ) → found (map outward_named es) name ≡ outward (found es name)
found-outward [] name = refl
found-outward (e ∷ es) name =
    ap (λ k. cond (bytes_eq e.name name) (outward e.binding) k) (found-outward es name) ∙ choice (bytes_eq e.name name) e.binding (found es name)
  where
    choice : (b : Bool) (k l : Binding) → cond b (outward k) (outward l) ≡ outward (cond b k l)
    choice true k l = refl
    choice false k l = refl

outward-means : (means : List Declaration) (k : ℕ) → slice_index_or (map label.outward means) k unknown ≡ label.outward (slice_index_or means k unknown)
outward-means [] k = refl
outward-means (d ∷ means) zero = refl
outward-means (d ∷ means) (suc k) = outward-means means k

outward-meaning : (means : List Declaration) (o : Option ℕ) → meaning_at (map label.outward means) o ≡ label.outward (meaning_at means o)
outward-meaning means None = refl
outward-meaning means (Some k) = outward-means means k

-- in an inlet, where slots stand for the outer activation
pub agree-inlet : (slots inner : Declaration → Slot) (names : Names) (s : Scope)
    → ((d : Declaration) → outward (binding_of slots d) ≡ binding_of inner (label.outward d)) → Agree slots names s
    → Agree inner (label.in_inlet names) (entered s)
agree-inlet slots inner names s outer agree = record {
  bindings = λ name.
      ap (λ es. found es name) (visible-entered s)
      ∙ found-outward (visible s) name
      ∙ ap outward (agree.bindings name)
      ∙ outer (meaning_in names name)
      ∙ ap (binding_of inner) (sym (outward-meaning names.means (position (same_name name) (names.scopes.innermost ++ names.scopes.outer))));
}

-- a scope that is entered in an activation says the same
pub agree-entered : (slots : Declaration → Slot) (names : Names) (s : Scope) → Agree slots names s → Agree slots (label.entered names) s
agree-entered slots names s agree = record { bindings = agree.bindings }
