-- The records of a tree without the instance that was made last.
use Rattle.std.proofs.Common.{◌≡◌, ◌≢◌, ◌<◌, ◌++◌, ◌∷◌, [], ℕ, suc, List, Some, None, Bool, true, false, cond, length, refl, sym, ap, ◌∙◌, subst}
use Rattle.std.proofs.Common.{arith, inl, inr, slice_index_or, append-nil}
use Rattle.cilk_spawn.specs.declared.record.Record.{Record}
use Rattle.cilk_spawn.specs.Nodes.{Node, node_at, is_live, live_ids, IsTree}
use Rattle.cilk_spawn.specs.Records.{nodes_of, child_at, IsChild, Kept}
use Rattle.std.proofs.lemmas.Bool.{cases_lt}
use Rattle.cilk_spawn.proofs.Lists.{those, those_more, those_same}
use Rattle.cilk_spawn.proofs.Trees.{live_there}
use Rattle.cilk_spawn.proofs.Records.{nodes_length}
use Rattle.cilk_spawn.proofs.Revives.{below_by}
use Rattle.cilk_spawn.specs.Dropped.{Dropped}

module _ (rs now : List Record) (ids : List ℕ) (kept : Kept rs ids) (tree : IsTree (nodes_of now)) (d : Dropped rs now) where
  abbrev ns : List Node
  ns = nodes_of rs

  abbrev ms : List Node
  ms = nodes_of now

  -- who lived is still there
  there : (i : ℕ) → is_live (node_at ns i) ≡ true → i < length now
  there i live =
      let inside = live_there ns i live in
      let ne : i ≢ length now = λ (z : i ≡ length now). (let no : true ≡ false = sym live ∙ ap (λ (j : ℕ). is_live (node_at ns j)) z ∙ d.dead in cc) in
      omega (arith, inside, nodes_length rs, d.len, ne)

  within_now : (i : ℕ) → is_live (node_at ms i) ≡ true → i < length now
  within_now i live = let h = live_there ms i live in omega (arith, h, nodes_length now)

  lived : (i : ℕ) → is_live (node_at ms i) ≡ true → is_live (node_at ns i) ≡ true
  lived i live = sym (d.nodes i (within_now i live)).lives ∙ live

  still : (q k i : ℕ) → IsChild ns q k i → IsChild ms q k i
  still q k i c =
      let s = d.nodes i (there i c.lives) in
      record { lives = s.lives ∙ c.lives; parent = s.parent ∙ c.parent; ordinal = s.ordinal ∙ c.ordinal }

  found_all : (q k i : ℕ) → child_at now q k ≡ Some i → IsChild ms q k i
  found_all q k i h =
      elim (cases_lt q (length now)) [
        | inl l ↦ still q k i (kept.found q k i (sym (d.children q k l) ∙ h))
        | inr l ↦ absurd (let no : None ≡ Some i = sym (d.none_past q k l) ∙ h in cc)
      ]

  listed_all : (i q : ℕ) → is_live (node_at ms i) ≡ true → (node_at ms i).parent ≡ Some q → child_at now q (node_at ms i).ordinal ≡ Some i
  listed_all i q live up =
      let inside = within_now i live in
      let s = d.nodes i inside in
      let below = below_by i q (node_at ms i).parent (tree.below i) up in
      let parent : q < length now = omega (arith, below, inside) in
      ap (child_at now q) s.ordinal ∙ d.children q (node_at ns i).ordinal parent
      ∙ kept.listed i q (lived i live) (sym s.parent ∙ up)

  none_more : (b : Bool) → b ≡ false → (n : ℕ) → cond b (n ∷ []) [] ≡ []
  none_more true e n = cc
  none_more false e n = refl

  same_ids : live_ids ms ≡ live_ids ns
  same_ids =
      let size : length ns ≡ suc (length now) = nodes_length rs ∙ d.len ∙ omega arith in
      let short : length ms ≡ length now = nodes_length now in
      let p : ℕ → Bool = λ i. is_live (node_at ns i) in
      ap (those (λ i. is_live (node_at ms i))) short
      ∙ those_same (λ i. is_live (node_at ms i)) p (length now) (λ i h. (d.nodes i h).lives)
      ∙ sym (append-nil (those p (length now)))
      ∙ ap (λ (xs : List ℕ). those p (length now) ++ xs) (sym (none_more (p (length now)) d.dead (length now)))
      ∙ sym (those_more p (length now)) ∙ ap (those p) (sym size)

  pub dropped_kept : Kept now ids
  dropped_kept = record {
    tree = tree;
    found = found_all;
    listed = listed_all;
    within = λ i live. subst (λ (n : ℕ). n < length ids) (sym (d.places i (within_now i live))) (kept.within i (lived i live));
    place = λ i live. ap (λ (k : ℕ). slice_index_or ids k 0) (d.places i (within_now i live)) ∙ kept.place i (lived i live);
    lives = λ k h. let was = kept.lives k h in (d.nodes (slice_index_or ids k 0) (there (slice_index_or ids k 0) was)).lives ∙ was;
    stands = λ k h. d.places (slice_index_or ids k 0) (there (slice_index_or ids k 0) (kept.lives k h)) ∙ kept.stands k h;
    count = kept.count ∙ ap length (sym same_ids);
  }
