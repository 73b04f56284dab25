-- A sorted list of the paths is the definition's.
use Rattle.std.proofs.Common.{◌≡◌, ℕ, ◌+◌, ◌<◌, Bool, true, false, cond, ◌&&◌, ◌||◌, ◌==◌, List, [], ◌∷◌, refl, sym, ap, ◌∙◌, subst, arith}
use Rattle.std.proofs.Common.{if◌then◌else◌, count_by}
use Rattle.std.specs.Prelude.{⊤, nat_lt}
use Rattle.std.proofs.Common.{Ordering, Less, Equal, Greater}
use Rattle.std.specs.Ordering.{nat_cmp, is_lt, ordering_then, ordering_reverse}
use Rattle.std.specs.Cmp.{IsStrictWeakOrder}
use Rattle.std.proofs.lemmas.Cmp.{nat_list_cmp_total}
use Rattle.std.proofs.lemmas.List.Sorted.{ranks_by}
use Rattle.std.proofs.lemmas.List.Sums.{sum_by-cons}
use Rattle.std.proofs.lemmas.Map.Lookups.{exact_bytes}
use Rattle.std.specs.Cmp.Lexicographic.{slice_cmp}
use Rattle.cilk_machine_agree.specs.model.Path.{Path, same_path}
use Rattle.cilk_machine_agree.proofs.runs_laws.Entries.{same-is, same-self}
use Rattle.cilk_machine_agree.specs.model.ViewTrees.{is_before, placed, in_order}

abbrev pub before : Path → Path → Bool
before p q = is_lt (slice_cmp nat_cmp p q)

by_first : (b c : Bool) (r : Ordering) → b || (c && is_lt r) ≡ is_lt (ordering_then (cond b Less (cond c Equal Greater)) r)
by_first true c r = refl
by_first false true r = refl
by_first false false r = refl

pub before_is : (p q : Path) → is_before p q ≡ before p q
before_is [] [] = refl
before_is [] (l ∷ q) = refl
before_is (k ∷ p) [] = refl
before_is (k ∷ p) (l ∷ q) = ap (λ b. nat_lt k l || (k == l && b)) (before_is p q) ∙ by_first (nat_lt k l) (k == l) (slice_cmp nat_cmp p q)

pub order : IsStrictWeakOrder before
order = ranks_by nat_list_cmp_total (λ (p : Path). p)

-- two paths of which neither is before the other are one
by_answer : (p q : Path) (r : Ordering) → slice_cmp nat_cmp p q ≡ r → before p q ≡ false → before q p ≡ false → p ≡ q
by_answer p q Less e none other = let yes : before p q ≡ true = ap is_lt e in cc
by_answer p q Equal e none other = exact_bytes p q e
by_answer p q Greater e none other =
    let turned : slice_cmp nat_cmp q p ≡ Less = nat_list_cmp_total.antisymm q p ∙ ap ordering_reverse e in
    let yes : before q p ≡ true = ap is_lt turned in
    cc

pub one_path : (p q : Path) → before p q ≡ false → before q p ≡ false → p ≡ q
one_path p q none other = by_answer p q (slice_cmp nat_cmp p q) refl none other

-- none of these is before x
abbrev pub Low : Path → List Path → Type 0
Low x [] = ⊤
Low x (y ∷ ys) = (before y x ≡ false) × Low x ys

abbrev pub Up : List Path → Type 0
Up [] = ⊤
Up (x ∷ xs) = Low x xs × Up xs

abbrev once : Bool → ℕ
once b = cond b 1 0

-- where p is among them
low_by : (x p y : Path) (ys : List Path) (b : Bool) → same_path p y ≡ b → Low x (y ∷ ys) → 0 < count_by (same_path p) (y ∷ ys)
    → (0 < count_by (same_path p) ys → before p x ≡ false) → before p x ≡ false
low_by x p y ys true e low some later = ap (λ q. before q x) (same-is p y e) ∙ low.0
low_by x p y ys false e low some later =
    let none : once (same_path p y) ≡ 0 = ap once e in
    let both = sum_by-cons (λ (q : Path). once (same_path p q)) y ys in
    later (omega (arith, some, none, both))

low_there : (x p : Path) (ys : List Path) → Low x ys → 0 < count_by (same_path p) ys → before p x ≡ false
low_there x p [] low some = absurd (omega (arith, some))
low_there x p (y ∷ ys) low some = low_by x p y ys (same_path p y) refl low some (λ more. low_there x p ys low.1 more)

pub itself : (x : Path) → before x x ≡ false
itself x = by_test (before x x) refl
  where
    by_test : (b : Bool) → before x x ≡ b → b ≡ false
    by_test true e = let other : before x x ≡ false = order.one_way x x e in cc
    by_test false e = refl

count_first : (x : Path) (xs : List Path) → 0 < count_by (same_path x) (x ∷ xs)
count_first x xs =
    let one : once (same_path x x) ≡ 1 = ap once (same-self x) in
    let both = sum_by-cons (λ (q : Path). once (same_path x q)) x xs in
    omega (arith, one, both)

abbrev Alike : List Path → List Path → Type 0
Alike xs ys = (p : Path) → count_by (same_path p) xs ≡ count_by (same_path p) ys

-- two sorted lists with the same paths are one
pub one_list : (xs ys : List Path) → Up xs → Up ys → Alike xs ys → xs ≡ ys
one_list [] [] up other same = refl
one_list [] (y ∷ ys) up other same = let some = count_first y ys in let e = same y in absurd (omega (arith, some, e))
one_list (x ∷ xs) [] up other same = let some = count_first x xs in let e = same x in absurd (omega (arith, some, e))
one_list (x ∷ xs) (y ∷ ys) up other same =
    let here : before x y ≡ false = low_there y x (y ∷ ys) (itself y, other.0) (subst (λ n. 0 < n) (same x) (count_first x xs)) in
    let there : before y x ≡ false = low_there x y (x ∷ xs) (itself x, up.0) (subst (λ n. 0 < n) (sym (same y)) (count_first y ys)) in
    let first : x ≡ y = one_path x y here there in
    let rest : Alike xs ys = λ p.
    (let a = sum_by-cons (λ (q : Path). once (same_path p q)) x xs in
    let b = sum_by-cons (λ (q : Path). once (same_path p q)) y ys in
    let e = same p in
    let c : once (same_path p x) ≡ once (same_path p y) = ap (λ q. once (same_path p q)) first in
    omega (arith, a, b, e, c)) in
    λ i. first i ∷ one_list xs ys up.1 other.1 rest i

low_placed_by : (x p q : Path) (qs ps : List Path) (b : Bool) → before p x ≡ false → Low x (q ∷ qs) → Low x ps → Low x (if b then p ∷ q ∷ qs else q ∷ ps)
low_placed_by x p q qs ps true one low later = (one, low)
low_placed_by x p q qs ps false one low later = (low.0, later)

low_placed : (x p : Path) (qs : List Path) → before p x ≡ false → Low x qs → Low x (placed p qs)
low_placed x p [] one low = (one, tt)
low_placed x p (q ∷ qs) one low = low_placed_by x p q qs (placed p qs) (is_before p q) one low (low_placed x p qs one low.1)

-- where p is before q, those that are not before q are not before p
low_more : (p q : Path) (qs : List Path) → before q p ≡ false → Low q qs → Low p qs
low_more p q [] first low = tt
low_more p q (r ∷ qs) first low = (order.chain r q p low.0 first, low_more p q qs first low.1)

-- p is not before q, or comes in front of it
up_placed_at : (p q : Path) (qs ps : List Path) (b : Bool) → is_before p q ≡ b → Up (q ∷ qs) → (before p q ≡ false → Low q ps) → Up ps
    → Up (if b then p ∷ q ∷ qs else q ∷ ps)
up_placed_at p q qs ps true e up low later =
    let first : before q p ≡ false = order.one_way p q (sym (before_is p q) ∙ e) in
    ((first, low_more p q qs first up.0), up)
up_placed_at p q qs ps false e up low later = (low (sym (before_is p q) ∙ e), later)

up_placed : (p : Path) (qs : List Path) → Up qs → Up (placed p qs)
up_placed p [] up = (tt, tt)
up_placed p (q ∷ qs) up = up_placed_at p q qs (placed p qs) (is_before p q) refl up (λ none. low_placed q p qs none up.0) (up_placed p qs up.1)

pub up_in_order : (ps : List Path) → Up (in_order ps)
up_in_order [] = tt
up_in_order (p ∷ ps) = up_placed p (in_order ps) (up_in_order ps)

count_placed_by : (t p q : Path) (qs ps : List Path) (b : Bool) → count_by (same_path t) ps ≡ once (same_path t p) + count_by (same_path t) qs
    → count_by (same_path t) (if b then p ∷ q ∷ qs else q ∷ ps) ≡ once (same_path t p) + count_by (same_path t) (q ∷ qs)
count_placed_by t p q qs ps true e = sum_by-cons (λ (r : Path). once (same_path t r)) p (q ∷ qs)
count_placed_by t p q qs ps false e =
    let a = sum_by-cons (λ (r : Path). once (same_path t r)) q ps in
    let b = sum_by-cons (λ (r : Path). once (same_path t r)) q qs in
    omega (arith, a, b, e)

count_placed : (t p : Path) (qs : List Path) → count_by (same_path t) (placed p qs) ≡ once (same_path t p) + count_by (same_path t) qs
count_placed t p [] = sum_by-cons (λ (r : Path). once (same_path t r)) p []
count_placed t p (q ∷ qs) = count_placed_by t p q qs (placed p qs) (is_before p q) (count_placed t p qs)

pub count_in_order : (t : Path) (ps : List Path) → count_by (same_path t) (in_order ps) ≡ count_by (same_path t) ps
count_in_order t [] = refl
count_in_order t (p ∷ ps) =
    let a = count_placed t p (in_order ps) in
    let b = count_in_order t ps in
    let c = sum_by-cons (λ (r : Path). once (same_path t r)) p ps in
    omega (arith, a, b, c)

-- each is not before the one in front of it
abbrev pub Ascends : List Path → Type 0
Ascends [] = ⊤
Ascends (x ∷ []) = ⊤
Ascends (x ∷ y ∷ xs) = (before y x ≡ false) × Ascends (y ∷ xs)

low_front : (x : Path) (xs : List Path) → Up xs → Ascends (x ∷ xs) → Low x xs
low_front x [] up h = tt
low_front x (y ∷ xs) up h = (h.0, low_more x y xs h.0 up.0)

pub up_from : (xs : List Path) → Ascends xs → Up xs
up_from [] h = tt
up_from (x ∷ []) h = (tt, tt)
up_from (x ∷ y ∷ xs) h = let rest = up_from (y ∷ xs) h.1 in (low_front x (y ∷ xs) rest h, rest)
