-- The children of each instance in the order of their ordinals.
use Rattle.std.specs.Prelude.{◌≡◌, ◌<◌, ◌≤◌, ℕ, List, ◌++◌, ◌∷◌, [], length, All, Option, Some, None, Result, Ok, Err}
use Rattle.std.specs.List.{Contains}
use Rattle.std.specs.List.Sorted.{IsSorted}
use Rattle.std.specs.declared.cmp.Ordering.{Ordering}
use Rattle.std.specs.Ordering.{nat_cmp, ordering_then}
use Rattle.cilk_machine_agree.specs.spawn.Nodes.{Node, node_at}
use Rattle.cilk_view.specs.declared.link.Link.{Link}

-- a parent, the ordinal of a child, and the child
abbrev pub Kin : Type 0
Kin = ℕ × (ℕ × ℕ)

abbrev pub IsKin : List Node → Kin → Type 0
IsKin ns e = ((node_at ns e.1.1).parent ≡ Some e.0) × ((node_at ns e.1.1).ordinal ≡ e.1.0)

-- those of the first n instances
pub record AreKin (ns : List Node) (n : ℕ) (kin : List Kin) : Type 0 where
  pub each : All (IsKin ns) kin
  pub all : (i p : ℕ) → i < n → (node_at ns i).parent ≡ Some p → Contains kin (p, ((node_at ns i).ordinal, i))

abbrev pub by_kin : Kin → Kin → Ordering
by_kin x y = ordering_then (nat_cmp x.0 y.0) (ordering_then (nat_cmp x.1.0 y.1.0) (nat_cmp x.1.1 y.1.1))

-- those of all instances, in order
pub record KinSorted (ns : List Node) (kin : List Kin) : Type 0 where
  pub are : AreKin ns (length ns) kin
  pub sorted : IsSorted by_kin kin

-- the first child whose ordinal is greater than this
pub record NextChild (ns : List Node) (at after child : ℕ) : Type 0 where
  pub parent : (node_at ns child).parent ≡ Some at
  pub later : after < (node_at ns child).ordinal
  pub least : (j : ℕ) → (node_at ns j).parent ≡ Some at → after < (node_at ns j).ordinal → (node_at ns child).ordinal ≤ (node_at ns j).ordinal

-- there is none
abbrev pub NoChild : List Node → ℕ → ℕ → Type 0
NoChild ns at after = (j : ℕ) → (node_at ns j).parent ≡ Some at → (node_at ns j).ordinal ≤ after

-- one more, if this instance has a parent
abbrev pub with_kin : Option Link → ℕ → List Kin → List Kin
with_kin None i kin = kin
with_kin (Some l) i kin = kin ++ (l.parent, (l.ordinal, i)) ∷ []

-- where a search ended
abbrev pub search_end : Result ℕ ℕ → ℕ
search_end (Ok i) = i
search_end (Err i) = i
