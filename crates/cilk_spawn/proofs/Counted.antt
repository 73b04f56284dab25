-- Two trees in which as many live: where each that lives in the one has a partner in the other, none is left over in the other.
use Rattle.std.proofs.Common.{◌≡◌, ◌<◌, ◌≤◌, ◌++◌, ◌∷◌, [], ℕ, suc, Bool, List, true, false, length, map, refl, sym, ap, ◌∙◌, subst, arith}
use Rattle.std.proofs.Common.{◌⊎◌, ⊎_elim, slice_index_or}
use Rattle.std.specs.List.{list_any, IsDistinct}
use Rattle.std.proofs.Math.Dec.{eqb}
use Rattle.std.proofs.lemmas.Bool.{cases_Bool, cases_eq}
use Rattle.std.proofs.lemmas.Bool.Decides.{nat_tests}
use Rattle.std.proofs.lemmas.Cmp.{nat_eq_equiv}
use Rattle.std.proofs.lemmas.List.{get_or-map, length-map, length_push}
use Rattle.std.proofs.lemmas.List.Folds.{list_any-append}
use Rattle.std.proofs.lemmas.Map.Keys.{IsDistinct-push, IsDistinct-from_apart}
use Rattle.std.proofs.lemmas.Map.Steps.{length-le_from_distinct_below}
use Rattle.cilk_spawn.specs.declared.record.Record.{Record}
use Rattle.cilk_spawn.specs.Family.{Family}
use Rattle.cilk_spawn.specs.Nodes.{Node, node_at, is_live, path_at}
use Rattle.cilk_spawn.specs.Records.{nodes_of, place_at, Kept}
use Rattle.cilk_spawn.specs.Alike.{SameNode, LivesAs, SameTree}
use Rattle.cilk_spawn.proofs.Trees.{names, live_there}
use Rattle.cilk_spawn.proofs.Written.{nodes_are}

-- where a number stands in a list
found : (xs : List ℕ) (y : ℕ) → list_any (eqb y) xs ≡ true → (k : ℕ) × (k < length xs) × (slice_index_or xs k 0 ≡ y)
found [] y h = cc
found (x ∷ xs) y h = ⊎_elim
    (λ t. let same : x ≡ y = grind (arith, nat_tests) in (0, omega arith, same))
    (λ f. let rest = found xs y (rw f at h) in (suc rest.0, omega (arith, rest.1), rest.2))
    (cases_Bool (eqb y x))

-- numbers below n, n of them and no two equal, are all that are below n
none_left : (xs : List ℕ) (n y : ℕ) → length xs ≡ n → IsDistinct eqb xs → ((k : ℕ) → k < length xs → slice_index_or xs k 0 < n) → y < n
    → (k : ℕ) × (k < length xs) × (slice_index_or xs k 0 ≡ y)
none_left xs n y long apart below lt = ⊎_elim
    (λ has. found xs y has)
    (λ absent.
    let inside : (q : ℕ) → list_any (eqb q) (xs ++ y ∷ []) ≡ true → q < n =
    λ q h. ⊎_elim
    (λ t. let at = found xs q t in subst (λ z. z < n) at.2 (below at.0 at.1))
    (λ f. let rest = rw (list_any-append (eqb q) xs (y ∷ []), f) at h in let same : q ≡ y = grind (arith, nat_tests) in omega (arith, same, lt))
    (cases_Bool (list_any (eqb q) xs)) in
    let most = length-le_from_distinct_below (xs ++ y ∷ []) n (IsDistinct-push nat_eq_equiv xs y apart absent) inside in
    absurd (omega (arith, length_push xs y, most, long)))
    (cases_Bool (list_any (eqb y) xs))

module _ (rs qs : List Record) (ids others : List ℕ) (kept : Kept rs ids) (also : Kept qs others)
    (told : (i : ℕ) → is_live (node_at (nodes_of rs) i) ≡ true → (j : ℕ) × SameNode (nodes_of rs) (nodes_of qs) i j) where
  -- the partner of one that lives
  abbrev partner_by : (i : ℕ) (b : Bool) → is_live (node_at (nodes_of rs) i) ≡ b → ℕ
  partner_by i true e = (told i e).0
  partner_by i false e = 0

  abbrev partner : ℕ → ℕ
  partner i = partner_by i (is_live (node_at (nodes_of rs) i)) refl

  same_by : (i : ℕ) (b : Bool) (e : is_live (node_at (nodes_of rs) i) ≡ b) → b ≡ true → SameNode (nodes_of rs) (nodes_of qs) i (partner_by i b e)
  same_by i true e live = (told i e).1
  same_by i false e live = cc

  same : (i : ℕ) → is_live (node_at (nodes_of rs) i) ≡ true → SameNode (nodes_of rs) (nodes_of qs) i (partner i)
  same i live = same_by i (is_live (node_at (nodes_of rs) i)) refl live

  -- where the partner of the one at a place stands
  abbrev lands : ℕ → ℕ
  lands i = place_at qs (partner i)

  abbrev places : List ℕ
  places = map lands ids

  place_is : (k : ℕ) → k < length ids → slice_index_or places k 0 ≡ lands (slice_index_or ids k 0)
  place_is k lt = get_or-map lands ids k 0 0 lt

  there_is : (k : ℕ) → k < length ids → SameNode (nodes_of rs) (nodes_of qs) (slice_index_or ids k 0) (partner (slice_index_or ids k 0))
  there_is k lt = same (slice_index_or ids k 0) (kept.lives k lt)

  -- two that land at one place are one
  once : (a b : ℕ) → a < length ids → b < length ids → lands (slice_index_or ids a 0) ≡ lands (slice_index_or ids b 0) → a ≡ b
  once a b h g e =
      let here = slice_index_or ids a 0 in
      let there = slice_index_or ids b 0 in
      let one = there_is a h in
      let other = there_is b g in
      let met : partner here ≡ partner there =
      sym (also.place (partner here) one.live) ∙ ap (λ k. slice_index_or others k 0) e ∙ also.place (partner there) other.live in
      let path : path_at (nodes_of rs) here ≡ path_at (nodes_of rs) there = one.path ∙ ap (path_at (nodes_of qs)) met ∙ sym other.path in
      let is : here ≡ there =
      names (nodes_of rs) kept.tree here there (live_there (nodes_of rs) here (kept.lives a h)) (live_there (nodes_of rs) there (kept.lives b g)) path in
      sym (kept.stands a h) ∙ ap (place_at rs) is ∙ kept.stands b g

  pub as-many : length ids ≡ length others → SameTree (nodes_of rs) (nodes_of qs)
  as-many count =
      let long : length places ≡ length ids = length-map ids lands in
      let apart : IsDistinct eqb places =
      IsDistinct-from_apart eqb places (λ i j d lt within. ⊎_elim
      (λ e. let no : i ≡ j = once i j (omega (arith, lt, within, long)) (omega (arith, within, long))
      (sym (get_or-map lands ids i 0 d (omega (arith, lt, within, long))) ∙ e ∙ get_or-map lands ids j 0 d (omega (arith, within, long))) in
      absurd (omega (arith, no, lt)))
      (λ ne. grind (arith, nat_tests, ne))
      (cases_eq (slice_index_or places i d) (slice_index_or places j d))) in
      let below : (k : ℕ) → k < length places → slice_index_or places k 0 < length others =
      λ k lt. let inside : k < length ids = omega (arith, lt, long) in
      subst (λ z. z < length others) (sym (place_is k inside)) (also.within (partner (slice_index_or ids k 0)) (there_is k inside).live) in
      record {
        here = told;
        there = λ j live.
            let at = none_left places (length others) (place_at qs j) (long ∙ count) apart below (also.within j live) in
            let inside : at.0 < length ids = omega (arith, at.1, long) in
            let own = slice_index_or ids at.0 0 in
            let meets : partner own ≡ j =
            sym (also.place (partner own) (there_is at.0 inside).live) ∙ ap (λ k. slice_index_or others k 0) (sym (place_is at.0 inside) ∙ at.2)
            ∙ also.place j live in
            record {
              partner = own;
              live = kept.lives at.0 inside;
              path = (there_is at.0 inside).path ∙ ap (path_at (nodes_of qs)) meets;
            };
      }

-- each that lives in the one has a partner in the other
abbrev pub EachIsTold : List Node → List Node → Type 0
EachIsTold ns ms = (i : ℕ) → is_live (node_at ns i) ≡ true → (j : ℕ) × SameNode ns ms i j

pub as_many_told : (rs qs : List Record) (ids others : List ℕ) (v w : Family) → (let f : Family = record { nodes = nodes_of rs; living = ids } in f ≡ v)
    → (let f : Family = record { nodes = nodes_of qs; living = others } in f ≡ w) → Kept rs ids → Kept qs others → length ids ≡ length others
    → EachIsTold v.nodes w.nodes → SameTree v.nodes w.nodes
as_many_told rs qs ids others v w e g kept also count =
    subst (λ ns. EachIsTold ns w.nodes → SameTree ns w.nodes) (nodes_are (nodes_of rs) ids v e)
    (subst (λ ms. EachIsTold (nodes_of rs) ms → SameTree (nodes_of rs) ms) (nodes_are (nodes_of qs) others w g)
    (λ told. as-many rs qs ids others kept also told count))
