-- The relation of two steps by what is kept of their instances is that of the events.
use Rattle.std.proofs.Common.{◌≡◌, ◌<◌, ◌≤◌, ◌+◌, ◌-◌, ◌⊎◌, ◌==◌, ℕ, zero, suc, Bool, true, false, not, ◌&&◌, List, [], ◌∷◌, ◌++◌, length, take}
use Rattle.std.proofs.Common.{drop, Option, Some, None}
use Rattle.std.proofs.Common.{refl, sym, ap, ◌∙◌, arith, inl, inr, option_map, if◌then◌else◌}
use Rattle.std.specs.Prelude.{nat_le, slice_index_or}
use Rattle.std.proofs.lemmas.Bool.{cases_lt, eqb-true, ne_eqb, lt-ltb, le-ltb}
use Rattle.std.proofs.lemmas.List.{append-nil, append_assoc}
use Rattle.std.proofs.Math.Seq.{take-suc}
use Rattle.cilk_log_replay.specs.machine.model.labelled.Labelled.{Labelled}
use Rattle.cilk_log_replay.specs.machine.model.Event.{Event}
use Rattle.cilk_log_replay.specs.machine.model.Path.{Path, same_path}
use Rattle.cilk_races.specs.Line.{Line}
use Rattle.cilk_races.specs.declared.touch.Placed as kept
use Rattle.cilk_races.specs.Kept.{path_in, block_in, last_by, last_in, Blocked}
use Rattle.cilk_races.specs.Order.{Parting, Relation, race, order, inlets, if_so, last_of}
use Rattle.cilk_races.specs.Order.{next_of, parting_from, block_of, by_branches, with_child, within_one, relation_of}
use Rattle.cilk_races.specs.Related.{common, child_by, within_by, relation_in}
use Rattle.cilk_races.specs.PairWords.{placed_of}

abbrev parted : Path → Option ℕ → Option ℕ → Parting
parted front first second = record { front = front; first = first; second = second }

parting-by : (front p q : Path) (k l : ℕ) (same : Bool)
    → parting_from (front ++ k ∷ []) p q ≡ parted ((front ++ k ∷ []) ++ take (common p q) p) (next_of (drop (common p q) p)) (next_of (drop (common p q) q))
    → (if same then parting_from (front ++ k ∷ []) p q else parted front (Some k) (Some l))
    ≡ parted (front ++ take (if same then suc (common p q) else 0) (k ∷ p)) (next_of (drop (if same then suc (common p q) else 0) (k ∷ p)))
    (next_of (drop (if same then suc (common p q) else 0) (l ∷ q)))
parting-by front p q k l true behind =
    behind ∙ ap (λ x. parted x (next_of (drop (common p q) p)) (next_of (drop (common p q) q))) (append_assoc front (k ∷ []) (take (common p q) p))
parting-by front p q k l false behind = ap (λ x. parted x (Some k) (Some l)) (sym (append-nil front))

parting-is : (front p q : Path) → parting_from front p q
    ≡ parted (front ++ take (common p q) p) (next_of (drop (common p q) p)) (next_of (drop (common p q) q))
parting-is front [] q = ap (λ x. parted x None (next_of q)) (sym (append-nil front))
parting-is front (k ∷ p) [] = ap (λ x. parted x (Some k) None) (sym (append-nil front))
parting-is front (k ∷ p) (l ∷ q) = parting-by front p q k l (k == l) (parting-is (front ++ k ∷ []) p q)

next-some : (p : Path) (n : ℕ) → n < length p → next_of (drop n p) ≡ Some (slice_index_or p n 0)
next-some [] n h = absurd (omega (arith, h))
next-some (k ∷ p) zero h = refl
next-some (k ∷ p) (suc n) h = next-some p n (omega (arith, h))

next-none : (p : Path) (n : ℕ) → length p ≤ n → next_of (drop n p) ≡ None
next-none [] zero h = refl
next-none [] (suc n) h = refl
next-none (k ∷ p) zero h = absurd (omega (arith, h))
next-none (k ∷ p) (suc n) h = next-none p n (omega (arith, h))

front-by : (p q : Path) (k l : ℕ) (same : Bool) → (k == l) ≡ same → take (common p q) p ≡ take (common p q) q
    → take (if same then suc (common p q) else 0) (k ∷ p) ≡ take (if same then suc (common p q) else 0) (l ∷ q)
front-by p q k l true e behind = λ j. eqb-true k l e j ∷ behind j
front-by p q k l false e behind = refl

front-is : (p q : Path) → take (common p q) p ≡ take (common p q) q
front-is [] q = refl
front-is (k ∷ p) [] = refl
front-is (k ∷ p) (l ∷ q) = front-by p q k l (k == l) refl (front-is p q)

last-number : (p : Path) → slice_index_or p (length p - 1) 0 ≡ last_of p
last-number [] = refl
last-number (k ∷ []) = refl
last-number (k ∷ l ∷ p) =
    let less : suc (suc (length p)) - 1 ≡ suc (length p) = omega arith in
    let same : length p ≡ suc (length p) - 1 = omega arith in
    ap (λ n. slice_index_or (k ∷ l ∷ p) n 0) less ∙ ap (λ n. slice_index_or (l ∷ p) n 0) same ∙ last-number (l ∷ p)

module _ (program : Labelled) (events : List Event) (rows : List Line) (blocked : Blocked program events rows) where
  abbrev path : ℕ → Path
  path = path_in rows

  abbrev block : Path → ℕ
  block c = block_of program events c

  whole : (p : Path) → take (length p) p ≡ p
  whole [] = refl
  whole (k ∷ p) = ap (λ x. k ∷ x) (whole p)

  last-is : (i : ℕ) → last_in rows i ≡ block (path i)
  last-is i = by (path i) refl
    where
      by : (p : Path) → path i ≡ p → last_by rows i (length p) ≡ block p
      by [] e = sym blocked.root
      by (k ∷ p) e =
          let size : length (path i) ≡ suc (length p) = ap length e in
          let less : suc (length p) - 1 ≡ length p = omega arith in
          ap (λ b. if b then 0 else block_in rows i (suc (length p) - 1)) (ne_eqb (suc (length p)) 0 (λ z. omega (arith, z)))
          ∙ ap (block_in rows i) less ∙ blocked.along i (length p) (omega (arith, size)) ∙ ap (λ x. block (take (suc (length p)) x)) e
          ∙ ap block (whole (k ∷ p))

  -- the child of a step's own instance, on the way to another
  way-is : (other n : ℕ) (front : Path) → n < length (path other) → front ≡ take n (path other)
      → front ++ slice_index_or (path other) n 0 ∷ [] ≡ take (suc n) (path other)
  way-is other n front h is = ap (λ x. x ++ slice_index_or (path other) n 0 ∷ []) is ∙ sym (take-suc (path other) n 0 h)

  block-is : (other n : ℕ) (front : Path) → n < length (path other) → front ≡ take n (path other)
      → block_in rows other n ≡ block (front ++ slice_index_or (path other) n 0 ∷ [])
  block-is other n front h is = blocked.along other n h ∙ ap block (sym (way-is other n front h is))

  child-is : (own : kept.Placed) (taking : Option ℕ) (other n : ℕ) (front : Path) → n < length (path other) → front ≡ take n (path other)
      → child_by rows taking own other n
      ≡ with_child program events (option_map path taking) (placed_of rows own) front (slice_index_or (path other) n 0)
  child-is own None other n front h is =
      ap (λ x. if_so (nat_le (slice_index_or (path other) n 0) own.children && (own.syncs == x)) race) (block-is other n front h is)
  child-is own (Some c) other n front h is =
      let more : n + 1 ≡ suc n = omega arith in
      let way = ap (λ k. take k (path other)) more ∙ sym (way-is other n front h is) in
      λ j. if_so (not (same_path (path c) (way j)) && (last-is c j == block-is other n front h is j)) race

  within-is : (a b : kept.Placed) (first second : Option ℕ)
      → within_by rows first second a b
      ≡ within_one program events (option_map path first) (option_map path second) (placed_of rows a) (placed_of rows b)
  within-is a b None None = refl
  within-is a b None (Some c) =
      λ j. if_so (nat_le (last-number (path c) j) a.children && (a.syncs == last-is c j)) order
  within-is a b (Some c) None =
      λ j. if_so (nat_le (last-number (path c) j) b.children && (b.syncs == last-is c j)) order
  within-is a b (Some c) (Some d) =
      λ j. if_so (not (same_path (path c) (path d)) && (last-is c j == last-is d j)) inlets

  module _ (a b : kept.Placed) where
    abbrev p : Path
    p = path a.place

    abbrev q : Path
    q = path b.place

    abbrev n : ℕ
    n = common p q

    abbrev branches : Option ℕ → Option ℕ → Relation
    branches first second = by_branches program events (take n p) first second (placed_of rows a) (placed_of rows b)

    abbrev tests : Bool → Bool → Relation
    tests first second =
        if first then (if second then if_so (block_in rows a.place n == block_in rows b.place n) race else child_by rows b.taking b a.place n)
        else (if second then child_by rows a.taking a b.place n else within_by rows a.taking b.taking a b)

    parts : relation_of program events (placed_of rows a) (placed_of rows b) ≡ branches (next_of (drop n p)) (next_of (drop n q))
    parts =
        ap (λ (x : Parting). by_branches program events x.front x.first x.second (placed_of rows a) (placed_of rows b)) (parting-is [] p q)

    by : (n < length p) ⊎ (length p ≤ n) → (n < length q) ⊎ (length q ≤ n) → relation_in rows a b ≡ branches (next_of (drop n p)) (next_of (drop n q))
    by (inl h) (inl k) =
        (λ j. tests (lt-ltb n (length p) h j) (lt-ltb n (length q) k j))
        ∙ (λ j. if_so (block-is a.place n (take n p) h refl j == block-is b.place n (take n p) k (front-is p q) j) race)
        ∙ (λ j. branches (sym (next-some p n h) j) (sym (next-some q n k) j))
    by (inl h) (inr k) =
        (λ j. tests (lt-ltb n (length p) h j) (le-ltb n (length q) k j)) ∙ child-is b b.taking a.place n (take n p) h refl
        ∙ (λ j. branches (sym (next-some p n h) j) (sym (next-none q n k) j))
    by (inr h) (inl k) =
        (λ j. tests (le-ltb n (length p) h j) (lt-ltb n (length q) k j)) ∙ child-is a a.taking b.place n (take n p) k (front-is p q)
        ∙ (λ j. branches (sym (next-none p n h) j) (sym (next-some q n k) j))
    by (inr h) (inr k) =
        (λ j. tests (le-ltb n (length p) h j) (le-ltb n (length q) k j)) ∙ within-is a b a.taking b.taking
        ∙ (λ j. branches (sym (next-none p n h) j) (sym (next-none q n k) j))

    pub relation-is : relation_in rows a b ≡ relation_of program events (placed_of rows a) (placed_of rows b)
    relation-is = by (cases_lt n (length p)) (cases_lt n (length q)) ∙ sym parts
