-- Instances of a tree by path, and the child that an event bears.
use Rattle.std.proofs.Common.{◌≡◌, ◌<◌, ◌≤◌, ◌+◌, ℕ, zero, suc, List, [], ◌∷◌, ◌++◌, map, length, Option, Some, None, refl, sym, ap, ◌∙◌, subst, arith}
use Rattle.std.proofs.Common.{slice_index_or}
use Rattle.std.specs.List.{range_with_len}
use Rattle.std.proofs.lemmas.List.{length_push, length-map, get_or_append_left, get_or_push, get_or_past}
use Rattle.cilk_log_replay.specs.machine.labelled.Labelled.{Labelled}
use Rattle.cilk_log_replay.specs.machine.model.Path.{Path, parent_of, child_path}
use Rattle.cilk_log_replay.specs.machine.model.Event.{Event}
use Rattle.cilk_log_replay.specs.machine.model.Made.{made, born}
use Rattle.cilk_log_replay.specs.machine.spawn.Nodes.{Node, IsTree, IsBelow, node_at, path_at, path_up, path_via, no_node}
use Rattle.cilk_log_replay.specs.machine.agree.Fated.{Fated}
use Rattle.cilk_log_replay.proofs.machine_laws.agree_laws.Made.{made-more}
use Rattle.cilk_log_replay.proofs.machine_laws.spawn_laws.Trees.{names, path_root, path_child}
use Rattle.cilk_log_replay.proofs.machine_laws.runs_laws.Family.{parent-child}
use Rattle.cilk_races.specs.CellsKept.{Named}

-- the instances of a tree go by their paths
past : (ns : List Node) (i : ℕ) → length ns ≤ i → path_at ns i ≡ []
past ns i high = ap (λ (n : Node). path_via (path_up ns i) n.parent n.ordinal) (get_or_past ns i no_node high)

pub named-by : (ns : List Node) → IsTree ns → Named (path_at ns) (length ns)
named-by ns tree =
    let some = tree.some in
    record {
      some = some;
      root = root (node_at ns 0).parent refl;
      past = past ns;
      apart = names ns tree;
    }
  where
    root : (o : Option ℕ) → (node_at ns 0).parent ≡ o → path_at ns 0 ≡ []
    root None e = path_root ns 0 e
    root (Some p) e = let low : p < 0 = subst (λ (o : Option ℕ). IsBelow o 0) e (tree.below 0) in absurd (omega (arith, low))

-- the paths of nodes are those that the events made
ranged-at : (f : ℕ → Path) (a n i : ℕ) → i < n → slice_index_or (map f (range_with_len a n)) i [] ≡ f (a + i)
ranged-at f a zero i h = absurd (omega arith)
ranged-at f a (suc n) zero h = ap f (omega arith)
ranged-at f a (suc n) (suc i) h = ranged-at f (a + 1) n i (omega arith) ∙ ap f (omega arith)

range-length : (a n : ℕ) → length (range_with_len a n) ≡ n
range-length a zero = refl
range-length a (suc n) = ap suc (range-length (a + 1) n)

module _ (program : Labelled) (ns : List Node) (events : List Event) (fated : Fated program ns events) where
  pub made-length : length ns ≡ length (made events)
  made-length =
      sym (range-length 0 (length ns)) ∙ sym (length-map (range_with_len 0 (length ns)) (path_at ns)) ∙ ap length fated.paths

  pub made-at : (i : ℕ) → i < length ns → path_at ns i ≡ slice_index_or (made events) i []
  made-at i h =
      let same : i ≡ 0 + i = omega arith in
      ap (path_at ns) same ∙ sym (ranged-at (path_at ns) 0 (length ns) i h) ∙ ap (λ (ps : List Path). slice_index_or ps i []) fated.paths

-- a tree before an event, and the tree behind it
module _ (program : Labelled) (ns now : List Node) (events : List Event) (e : Event) (tree : IsTree ns) (after : IsTree now)
    (before : Fated program ns events) (behind : Fated program now (events ++ e ∷ [])) where
  sum : length now ≡ length ns + length (born e)
  sum =
      made-length program now (events ++ e ∷ []) behind ∙ ap length (made-more events e)
      ∙ Rattle.std.proofs.Common.length-append (made events) (born e)
      ∙ ap (λ n. n + length (born e)) (sym (made-length program ns events before))

  pub grows : length ns ≤ length now
  grows = let all = sum in omega (arith, all)

  pub stays : (i : ℕ) → i < length ns → path_at now i ≡ path_at ns i
  stays i h =
      let size = made-length program ns events before in
      let all = sum in
      made-at program now (events ++ e ∷ []) behind i (omega (arith, h, all))
      ∙ ap (λ (ps : List Path). slice_index_or ps i []) (made-more events e)
      ∙ get_or_append_left (made events) (born e) [] i (omega (arith, h, size)) ∙ sym (made-at program ns events before i h)

  pub none-born : born e ≡ [] → length now ≡ length ns
  none-born bare = sum ∙ ap (λ (ps : List Path). length ns + length ps) bare ∙ omega arith

  pub one-born : (c : Path) → born e ≡ c ∷ [] → length now ≡ suc (length ns)
  one-born c bears = sum ∙ ap (λ (ps : List Path). length ns + length ps) bears ∙ omega arith

  pub last-born : (c : Path) → born e ≡ c ∷ [] → path_at now (length ns) ≡ c
  last-born c bears =
      let size = made-length program ns events before in
      let all = one-born c bears in
      made-at program now (events ++ e ∷ []) behind (length ns) (omega (arith, all))
      ∙ ap (λ (ps : List Path). slice_index_or ps (length ns) []) (made-more events e ∙ ap (λ (ps : List Path). made events ++ ps) bears)
      ∙ get_or_push (made events) c [] (length ns) (sym size)

-- a child that was born last, and its parent
pub record Parented (ns now : List Node) (c : Path) : Type 0 where
  pub at : ℕ
  pub is : (node_at now (length ns)).parent ≡ Some at
  pub within : at < length ns
  pub path : c ≡ child_path (path_at ns at) (node_at now (length ns)).ordinal
  pub parent : parent_of c ≡ Some (path_at ns at)
  pub long : length c ≡ suc (length (path_at ns at))

pub parented-by : (ns now : List Node) (c : Path) → IsTree ns → IsTree now → length now ≡ suc (length ns) → path_at now (length ns) ≡ c
    → ((i : ℕ) → i < length ns → path_at now i ≡ path_at ns i) → (o : Option ℕ) → (node_at now (length ns)).parent ≡ o → Parented ns now c
parented-by ns now c tree after size last same None e =
    let some = tree.some in
    let none : length ns ≡ 0 = after.root (length ns) (omega (arith, size)) e in
    absurd (omega (arith, some, none))
parented-by ns now c tree after size last same (Some p) e =
    let low : p < length ns = subst (λ (o : Option ℕ). IsBelow o (length ns)) e (after.below (length ns)) in
    let path : c ≡ child_path (path_at ns p) (node_at now (length ns)).ordinal =
    sym last ∙ path_child now after (length ns) p e ∙ ap (λ (q : Path). child_path q (node_at now (length ns)).ordinal) (same p low)
    in
    record {
      at = p;
      is = e;
      within = low;
      path = path;
      parent = ap parent_of path ∙ parent-child (path_at ns p) (node_at now (length ns)).ordinal;
      long = ap length path ∙ length_push (path_at ns p) (node_at now (length ns)).ordinal ∙ omega arith;
    }
