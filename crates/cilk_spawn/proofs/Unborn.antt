-- The newest instance is taken out.
use Rattle.std.proofs.Common.{◌≡◌, ◌≢◌, ◌<◌, ◌+◌, ◌-◌, [], ℕ, List, None, false, length, take, sym, ap, ◌∙◌, subst, arith, ◌⊎◌, inl}
use Rattle.std.proofs.Common.{inr, slice_set, length-set, length-take-le, get_or-take, get_or-set_other}
use Rattle.std.proofs.lemmas.List.{get_or_past, set_comm, take-map, take-set-le}
use Rattle.cilk_spawn.specs.declared.fate.Fate.{Fate}
use Rattle.cilk_spawn.specs.declared.record.Record.{Record}
use Rattle.cilk_frame.specs.declared.receiver.Receiver.TheVariants.{Nothing}
use Rattle.cilk_spawn.specs.Nodes.{Node, no_node, node_at, is_live, ended}
use Rattle.cilk_spawn.specs.Records.{node_of, nodes_of, no_record, record_at, child_of, live_index, SameBeside}
use Rattle.cilk_spawn.specs.Dropped.{StaysThere, Dropped, fewer, unborn}
use Rattle.cilk_spawn.proofs.Lists.{at_set}
use Rattle.cilk_spawn.proofs.Records.{At, at_is, node_is, record_is, nodes_set, nodes_length}

stays_same : (a b : Node) → b ≡ a → StaysThere a b
stays_same a b e = record { lives = ap is_live e; parent = ap (λ (n : Node). n.parent) e; ordinal = ap (λ (n : Node). n.ordinal) e }

stays_fewer : (a b : Node) → b ≡ fewer a → StaysThere a b
stays_fewer a b e = record { lives = ap is_live e; parent = ap (λ (n : Node). n.parent) e; ordinal = ap (λ (n : Node). n.ordinal) e }

module _ (rs : List Record) (q n : ℕ) (x y : Record) (size : length rs ≡ n + 1) (at : At rs q x) (low : q < n) (node : node_of y ≡ fewer (node_of x))
    (same : SameBeside x y) where
  abbrev pub rest : List Record
  rest = take n (slice_set rs q y)

  short : length rest ≡ n
  short = length-take-le n (slice_set rs q y) (let h = length-set rs q y in omega arith)

  look : (i : ℕ) → i < n → ((i ≡ q) × (record_at rest i ≡ y)) ⊎ (record_at rest i ≡ record_at rs i)
  look i h =
      let here : record_at rest i ≡ record_at (slice_set rs q y) i = get_or-take n (slice_set rs q y) i no_record h in
      elim (at_set rs q y i no_record at.there) [ inl e ↦ inl (e.0, here ∙ e.1) | inr e ↦ inr (here ∙ e.1) ]

  within : (i : ℕ) → i < length rest → i < n
  within i h = subst (λ (k : ℕ). i < k) short h

  own : (i : ℕ) → i ≡ q → record_at rs i ≡ x
  own i e = ap (record_at rs) e ∙ record_is rs q x at

  pub dropped_is : is_live (node_at (nodes_of rs) n) ≡ false → Dropped rs rest
  dropped_is dead = record {
    len = size ∙ ap (λ (k : ℕ). k + 1) (sym short);
    dead = ap (λ (k : ℕ). is_live (node_at (nodes_of rs) k)) short ∙ dead;
    nodes = λ i h. elim (look i (within i h)) [
      | inl e ↦ stays_fewer (node_at (nodes_of rs) i) (node_at (nodes_of rest) i)
          (node_is rest i ∙ ap node_of e.1 ∙ node ∙ ap fewer (sym (node_is rs i ∙ ap node_of (own i e.0))))
      | inr e ↦ stays_same (node_at (nodes_of rs) i) (node_at (nodes_of rest) i) (node_is rest i ∙ ap node_of e ∙ sym (node_is rs i))
    ];
    children = λ p k h. elim (look p (within p h)) [
      | inl e ↦ ap (λ (r : Record). child_of r.life k) e.1 ∙ same.children k ∙ ap (λ (r : Record). child_of r.life k) (sym (own p e.0))
      | inr e ↦ ap (λ (r : Record). child_of r.life k) e
    ];
    none_past = λ p k h. ap (λ (r : Record). child_of r.life k) (get_or_past rest p no_record h);
    places = λ i h. elim (look i (within i h)) [
      | inl e ↦ ap (λ (r : Record). live_index r.life) e.1 ∙ same.place ∙ ap (λ (r : Record). live_index r.life) (sym (own i e.0))
      | inr e ↦ ap (λ (r : Record). live_index r.life) e
    ];
  }

  pub nodes_dropped : nodes_of rest ≡ unborn q (nodes_of rs)
  nodes_dropped =
      let count : n ≡ length (nodes_of rs) - 1 = omega (arith, nodes_length rs) in
      sym (take-map node_of n (slice_set rs q y))
      ∙ ap (take n) (nodes_set rs q y ∙ ap (slice_set (nodes_of rs) q) (node ∙ ap fewer (sym (at_is rs q x at))))
      ∙ ap (λ (k : ℕ). take k (slice_set (nodes_of rs) q (fewer (node_at (nodes_of rs) q)))) count

-- that it ended first makes no difference
pub unborn_ended : (ns : List Node) (n q : ℕ) (fate : Fate) → length ns ≡ n + 1 → q < n → unborn q (ended ns n fate) ≡ unborn q ns
unborn_ended ns n q fate size low =
    let gone : Node = record (node_at ns n) { fate = fate; receiver = Nothing; waiting = []; parked = None } in
    let apart : q ≢ n = omega arith in
    let z : Node = fewer (node_at ns q) in
    let own : node_at (ended ns n fate) q ≡ node_at ns q = get_or-set_other ns n q gone no_node apart in
    let count : length (ended ns n fate) - 1 ≡ n = omega (arith, length-set ns n gone) in
    let count2 : n ≡ length ns - 1 = omega arith in
    (λ i. take (count i) (slice_set (ended ns n fate) q (fewer (own i))))
    ∙ ap (take n) (set_comm ns n q gone z (λ e. apart (sym e)))
    ∙ take-set-le n (slice_set ns q z) n gone (omega arith)
    ∙ ap (λ (k : ℕ). take k (slice_set ns q z)) count2
