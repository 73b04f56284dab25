-- A tally of one run more.
use Rattle.std.proofs.Common.{◌≡◌, ◌+◌, ◌≤◌, ◌∙◌, arith, refl, sym, subst, ap, ap₂, ℕ, zero, suc, Bool, true, false, not, ◌||◌, ◌&&◌, cond, List, []}
use Rattle.std.proofs.Common.{◌∷◌, ◌++◌, length, map}
use Rattle.std.proofs.lemmas.Bool.{and_parts}
use Rattle.std.specs.Prelude.{⊤, if◌then◌else◌, filter, count_by}
use Rattle.std.specs.List.{list_any, position_or_len}
use Rattle.std.specs.Str.{bytes_eq}
use Rattle.std.proofs.Math.Bool.{or-true}
use Rattle.std.proofs.lemmas.List.Elements.{filter-append}
use Rattle.std.proofs.lemmas.List.Sums.{count_by-le-length, sum_by-cons, sum_by_push}
use Rattle.std.proofs.lemmas.Slice.Eq.{bytes_eq-Decides}
use Rattle.cilk_run.specs.labelled.Labelled.{Labelled}
use Rattle.cilk_run.specs.Tallied.{Outcome, Row, bumped, firsts, outcome_of, outcomes_from, row_of, same_outcome, tally}
use Rattle.cilk_run.specs.Tallying.{AreAtMost, added, begun, has_row, new_row}

-- ---- outcomes that are the same

same-is : (a b : Outcome) → same_outcome a b ≡ true → a ≡ b
same-is a b h =
    let both = and_parts (bytes_eq a.printed b.printed) (bytes_eq a.ended b.ended) h in
    let printed : a.printed ≡ b.printed = (bytes_eq-Decides a.printed b.printed).0 both.0 in
    let ended : a.ended ≡ b.ended = (bytes_eq-Decides a.ended b.ended).0 both.1 in
    λ i. record { printed = printed i; ended = ended i }

pub same-self : (a : Outcome) → same_outcome a a ≡ true
same-self a = λ i. (bytes_eq-Decides a.printed a.printed).1 refl i && (bytes_eq-Decides a.ended a.ended).1 refl i

same-sym : (a b : Outcome) → same_outcome a b ≡ same_outcome b a
same-sym a b = go (same_outcome a b) (same_outcome b a) refl refl
  where
    go : (x y : Bool) → same_outcome a b ≡ x → same_outcome b a ≡ y → x ≡ y
    go true true e f = refl
    go false false e f = refl
    go true false e f =
        let is : a ≡ b = same-is a b e in
        let bad : true ≡ false = sym (ap (λ o. same_outcome o a) (sym is) ∙ same-self a) ∙ f in
        cc
    go false true e f =
        let is : b ≡ a = same-is b a f in
        let bad : true ≡ false = sym (ap (λ o. same_outcome o b) (sym is) ∙ same-self b) ∙ e in
        cc

-- ---- each of a list

abbrev Each : {X : Type 0} → (X → Type 0) → List X → Type 0
Each P [] = ⊤
Each P (x ∷ xs) = P x × Each P xs

each-filter : {X : Type 0} (P : X → Type 0) (test : X → Bool) (xs : List X) → Each P xs → Each P (filter test xs)
each-filter P test [] all = tt
each-filter P test (x ∷ xs) all = go (test x) (each-filter P test xs all.1)
  where
    go : (b : Bool) → Each P (filter test xs) → Each P (cond b (x ∷ filter test xs) (filter test xs))
    go true rest = (all.0, rest)
    go false rest = rest

each-turned : {X : Type 0} (P Q : X → Type 0) → ((x : X) → P x → Q x) → (xs : List X) → Each P xs → Each Q xs
each-turned P Q turn [] all = tt
each-turned P Q turn (x ∷ xs) all = (turn x all.0, each-turned P Q turn xs all.1)

map-each : {X Y : Type 0} (f g : X → Y) (xs : List X) → Each (λ x. f x ≡ g x) xs → map f xs ≡ map g xs
map-each f g [] all = refl
map-each f g (x ∷ xs) all = λ i. all.0 i ∷ map-each f g xs all.1 i

map-map : {X Y Z : Type 0} (f : Y → Z) (g : X → Y) (xs : List X) → map (λ x. f (g x)) xs ≡ map f (map g xs)
map-map f g [] = refl
map-map f g (x ∷ xs) = λ i. f (g x) ∷ map-map f g xs i

map-over : {X Y : Type 0} (f : X → Y) (xs ys : List X) → map f (xs ++ ys) ≡ map f xs ++ map f ys
map-over f [] ys = refl
map-over f (x ∷ xs) ys = λ i. f x ∷ map-over f xs ys i

-- ---- one run more

abbrev is_there : Outcome → List Outcome → Bool
is_there o runs = list_any (λ x. same_outcome x o) runs

-- the outcome, where no run had it
abbrev new_one : {X : Type 0} → Bool → X → List X
new_one there x = cond there [] (x ∷ [])

or_then : (b : Bool) (x y : Bool) → (b ≡ false → x ≡ y) → (b || x) ≡ (b || y)
or_then true x y h = refl
or_then false x y h = h refl

there-filter : (y o : Outcome) → same_outcome y o ≡ false → (xs : List Outcome)
    → is_there o (filter (λ x. not (same_outcome y x)) xs) ≡ is_there o xs
there-filter y o apart [] = refl
there-filter y o apart (x ∷ xs) = go (there-filter y o apart xs) (same_outcome y x) refl
  where
    go : is_there o (filter (λ z. not (same_outcome y z)) xs) ≡ is_there o xs → (b : Bool) → same_outcome y x ≡ b
        → is_there o (cond (not b) (x ∷ filter (λ z. not (same_outcome y z)) xs) (filter (λ z. not (same_outcome y z)) xs))
        ≡ (same_outcome x o || is_there o xs)
    go rest true e =
        let not_x : same_outcome x o ≡ false = ap (λ z. same_outcome z o) (sym (same-is y x e)) ∙ apart in
        rest ∙ (λ i. sym not_x i || is_there o xs)
    go rest false e = λ i. same_outcome x o || rest i

-- what comes first is what is there
pub there-first : (o : Outcome) (runs : List Outcome) → is_there o (firsts runs) ≡ is_there o runs
there-first o [] = refl
there-first o (y ∷ runs) =
    or_then (same_outcome y o) (is_there o (filter (λ x. not (same_outcome y x)) (firsts runs))) (is_there o runs)
    (λ apart. there-filter y o apart (firsts runs) ∙ there-first o runs)

last_kept : (y o : Outcome) (there : Bool) → filter (λ x. not (same_outcome y x)) (new_one there o) ≡ new_one (same_outcome y o || there) o
last_kept y o true = ap (λ b. new_one b o) (sym (or-true (same_outcome y o)))
last_kept y o false = go (same_outcome y o)
  where
    go : (b : Bool) → cond (not b) (o ∷ []) [] ≡ new_one (b || false) o
    go true = refl
    go false = refl

firsts-more : (o : Outcome) (runs : List Outcome) → firsts (runs ++ o ∷ []) ≡ firsts runs ++ new_one (is_there o runs) o
firsts-more o [] = refl
firsts-more o (y ∷ runs) =
    ap (λ found. y ∷ filter (λ x. not (same_outcome y x)) found) (firsts-more o runs)
    ∙ ap (λ kept. y ∷ kept) (filter-append (λ x. not (same_outcome y x)) (firsts runs) (new_one (is_there o runs) o))
    ∙ ap (λ last. y ∷ (filter (λ x. not (same_outcome y x)) (firsts runs) ++ last)) (last_kept y o (is_there o runs))

-- ---- its numbers

count-more : (f : Outcome → Bool) (o : Outcome) (runs : List Outcome) → count_by f (runs ++ o ∷ []) ≡ count_by f runs + cond (f o) 1 0
count-more f o runs = sum_by_push (λ x. cond (f x) 1 0) runs o

count-none : (f : Outcome → Bool) (runs : List Outcome) → list_any f runs ≡ false → count_by f runs ≡ 0
count-none f [] none = refl
count-none f (y ∷ runs) none = sum_by-cons (λ x. cond (f x) 1 0) y runs ∙ go (f y) (count-none f runs) none
  where
    go : (b : Bool) → (list_any f runs ≡ false → count_by f runs ≡ 0) → (b || list_any f runs) ≡ false → cond b 1 0 + count_by f runs ≡ 0
    go true rest bad = cc
    go false rest others = omega (arith, rest others)

place-kept : (f : Outcome → Bool) (o : Outcome) (runs : List Outcome) → list_any f runs ≡ true → position_or_len f (runs ++ o ∷ []) ≡ position_or_len f runs
place-kept f o [] there = cc
place-kept f o (y ∷ runs) there = go (f y) (place-kept f o runs) there
  where
    go : (b : Bool) → (list_any f runs ≡ true → position_or_len f (runs ++ o ∷ []) ≡ position_or_len f runs) → (b || list_any f runs) ≡ true
        → cond (not b) (1 + position_or_len f (runs ++ o ∷ [])) 0 ≡ cond (not b) (1 + position_or_len f runs) 0
    go true rest h = refl
    go false rest h = ap (λ n. 1 + n) (rest h)

place-last : (f : Outcome → Bool) (o : Outcome) (runs : List Outcome) → list_any f runs ≡ false → f o ≡ true → position_or_len f (runs ++ o ∷ []) ≡ length runs
place-last f o [] none is = λ i. cond (not (is i)) 1 0
place-last f o (y ∷ runs) none is = go (f y) (λ others. place-last f o runs others is) none
  where
    go : (b : Bool) → (list_any f runs ≡ false → position_or_len f (runs ++ o ∷ []) ≡ length runs) → (b || list_any f runs) ≡ false
        → cond (not b) (1 + position_or_len f (runs ++ o ∷ [])) 0 ≡ suc (length runs)
    go true rest bad = cc
    go false rest others =
        let more : 1 + length runs ≡ suc (length runs) = omega arith in
        ap (λ n. 1 + n) (rest others) ∙ more

-- an outcome that comes first is that of a run
first-there : (runs : List Outcome) → Each (λ x. list_any (same_outcome x) runs ≡ true) (firsts runs)
first-there [] = tt
first-there (y ∷ runs) = (
  (λ i. same-self y i || list_any (same_outcome y) runs),
  each-filter (λ x. list_any (same_outcome x) (y ∷ runs) ≡ true) (λ x. not (same_outcome y x)) (firsts runs)
      (each-turned (λ x. list_any (same_outcome x) runs ≡ true) (λ x. list_any (same_outcome x) (y ∷ runs) ≡ true)
      (λ x there. (λ i. same_outcome x y || there i) ∙ or-true (same_outcome x y)) (firsts runs) (first-there runs)),
)

row-more : (seed : ℕ) (runs : List Outcome) (o x : Outcome) → list_any (same_outcome x) runs ≡ true
    → row_of seed (runs ++ o ∷ []) x ≡ bumped o (row_of seed runs x)
row-more seed runs o x there = go (same_outcome x o) refl
  where
    first_is : position_or_len (same_outcome x) (runs ++ o ∷ []) ≡ position_or_len (same_outcome x) runs
    first_is = place-kept (same_outcome x) o runs there

    go : (b : Bool) → same_outcome x o ≡ b
        → row_of seed (runs ++ o ∷ []) x
        ≡ (if b then record (row_of seed runs x) { count = count_by (same_outcome x) runs + 1 } else row_of seed runs x)
    go true e =
        let counted : count_by (same_outcome x) (runs ++ o ∷ []) ≡ count_by (same_outcome x) runs + 1 =
        count-more (same_outcome x) o runs ∙ (λ i. count_by (same_outcome x) runs + cond (e i) 1 0) in
        λ i. record { outcome = x; count = counted i; first = seed + first_is i }
    go false e =
        let counted : count_by (same_outcome x) (runs ++ o ∷ []) ≡ count_by (same_outcome x) runs =
        count-more (same_outcome x) o runs ∙ (λ i. count_by (same_outcome x) runs + cond (e i) 1 0) ∙ omega arith in
        λ i. record { outcome = x; count = counted i; first = seed + first_is i }

any-turned : (o : Outcome) (runs : List Outcome) → list_any (same_outcome o) runs ≡ is_there o runs
any-turned o [] = refl
any-turned o (x ∷ runs) = λ i. same-sym o x i || any-turned o runs i

row-new : (seed : ℕ) (runs : List Outcome) (o : Outcome) → is_there o runs ≡ false
    → row_of seed (runs ++ o ∷ []) o ≡ begun o (seed + length runs)
row-new seed runs o none =
    let apart : list_any (same_outcome o) runs ≡ false = any-turned o runs ∙ none in
    let counted : count_by (same_outcome o) (runs ++ o ∷ []) ≡ 1 =
    count-more (same_outcome o) o runs ∙ (λ i. count-none (same_outcome o) runs apart i + cond (same-self o i) 1 0) in
    let first_is = place-last (same_outcome o) o runs apart (same-self o) in
    λ i. record { outcome = o; count = counted i; first = seed + first_is i }

rows-new : (seed : ℕ) (runs : List Outcome) (o : Outcome) (there : Bool) → is_there o runs ≡ there
    → map (row_of seed (runs ++ o ∷ [])) (new_one there o) ≡ new_row there o (seed + length runs)
rows-new seed runs o true e = refl
rows-new seed runs o false e = λ i. row-new seed runs o e i ∷ []

tally-more : (seed : ℕ) (runs : List Outcome) (o : Outcome)
    → tally seed (runs ++ o ∷ []) ≡ map (bumped o) (tally seed runs) ++ new_row (is_there o runs) o (seed + length runs)
tally-more seed runs o =
    let row = row_of seed (runs ++ o ∷ []) in
    let old : map row (firsts runs) ≡ map (bumped o) (tally seed runs) =
    map-each row (λ x. bumped o (row_of seed runs x)) (firsts runs)
    (each-turned (λ x. list_any (same_outcome x) runs ≡ true) (λ x. row x ≡ bumped o (row_of seed runs x)) (row-more seed runs o) (firsts runs)
    (first-there runs))
    ∙ map-map (bumped o) (row_of seed runs) (firsts runs) in
    ap (map row) (firsts-more o runs) ∙ map-over row (firsts runs) (new_one (is_there o runs) o)
    ∙ ap₂ (λ xs ys. xs ++ ys) old (rows-new seed runs o (is_there o runs) refl)

-- ---- what is there, by the rows

rows-there : (seed : ℕ) (runs : List Outcome) (o : Outcome) (found : List Outcome) → has_row o (map (row_of seed runs) found) ≡ is_there o found
rows-there seed runs o [] = refl
rows-there seed runs o (x ∷ found) = λ i. same_outcome x o || rows-there seed runs o found i

pub tally-step : (seed : ℕ) (runs : List Outcome) (o : Outcome) → tally seed (runs ++ o ∷ []) ≡ added o (seed + length runs) (tally seed runs)
tally-step seed runs o =
    let there : has_row o (tally seed runs) ≡ is_there o runs = rows-there seed runs o (firsts runs) ∙ there-first o runs in
    tally-more seed runs o ∙ (λ i. map (bumped o) (tally seed runs) ++ new_row (sym there i) o (seed + length runs))

-- ---- how many there are

pub outcomes-length : (program : Labelled) (n limit seed k : ℕ) → length (outcomes_from program n limit seed k) ≡ k
outcomes-length program n limit seed zero = refl
outcomes-length program n limit seed (suc k) = one_more (outcomes_from program n limit seed k) (outcome_of program n limit (seed + k))
    ∙ ap suc (outcomes-length program n limit seed k)
  where
    one_more : (xs : List Outcome) (x : Outcome) → length (xs ++ x ∷ []) ≡ suc (length xs)
    one_more [] x = refl
    one_more (y ∷ xs) x = ap suc (one_more xs x)

-- no row has more runs than there are
few-rows : (seed : ℕ) (runs found : List Outcome) → AreAtMost (length runs) (map (row_of seed runs) found)
few-rows seed runs [] = tt
few-rows seed runs (x ∷ found) = (count_by-le-length (same_outcome x) runs, few-rows seed runs found)

pub tally-few : (seed : ℕ) (runs : List Outcome) → AreAtMost (length runs) (tally seed runs)
tally-few seed runs = few-rows seed runs (firsts runs)

-- the tally of a run more
pub next-tally : (program : Labelled) (n limit seed k at : ℕ) (rows new : List Row) → rows ≡ tally seed (outcomes_from program n limit seed k)
    → at ≡ seed + k → new ≡ added (outcome_of program n limit at) at rows
    → new ≡ tally seed (outcomes_from program n limit seed (k + 1))
next-tally program n limit seed k at rows new is at_is more =
    let runs = outcomes_from program n limit seed k in
    let o = outcome_of program n limit (seed + k) in
    let next : suc k ≡ k + 1 = omega arith in
    let count = sym (outcomes-length program n limit seed k) in
    more ∙ ap (λ s. added (outcome_of program n limit s) s rows) at_is ∙ ap (added o (seed + k)) is
    ∙ ap (λ m. added o (seed + m) (tally seed runs)) count
    ∙ sym (tally-step seed runs o) ∙ ap (λ m. tally seed (outcomes_from program n limit seed m)) next

at_most : (a b : ℕ) → a ≤ b → (rows : List Row) → AreAtMost a rows → AreAtMost b rows
at_most a b le [] all = tt
at_most a b le (r ∷ rows) all = (omega (arith, le, all.0), at_most a b le rows all.1)

pub few-counted : (program : Labelled) (n limit seed k most : ℕ) (rows : List Row) → rows ≡ tally seed (outcomes_from program n limit seed k) → k ≤ most
    → AreAtMost most rows
few-counted program n limit seed k most rows is le =
    let runs = outcomes_from program n limit seed k in
    let within : length runs ≤ most = omega (arith, outcomes-length program n limit seed k, le) in
    subst (AreAtMost most) (sym is) (at_most (length runs) most within (tally seed runs) (tally-few seed runs))
