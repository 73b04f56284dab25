-- What is kept of those that live in a tree, by which the whole tree is told again, where a later one tells what had ended.
use Rattle.std.specs.Prelude.{◌≡◌, ◌<◌, ℕ, true, List, map, length, slice_index_or}
use Rattle.cilk_spawn.specs.Cut.{IsCut}
use Rattle.cilk_spawn.specs.Family.{Stands}
use Rattle.cilk_spawn.specs.Nodes.{Node, node_at, is_live, live_ids, IsTree}

pub record Living : Type 0 where
  -- how many instances were ever made
  pub count : ℕ
  -- the ids of those that live
  pub ids : List ℕ
  -- their nodes, in the same order
  pub nodes : List Node

-- it is kept of this tree
pub record IsLivingOf (living : Living) (nodes : List Node) : Type 0 where
  pub count : living.count ≡ length nodes
  pub same : living.nodes ≡ map (node_at nodes) living.ids
  pub tree : IsTree nodes
  pub listed : (i : ℕ) → is_live (node_at nodes i) ≡ true → Stands living.ids i
  pub lives : (k : ℕ) → k < length living.ids → is_live (node_at nodes (slice_index_or living.ids k 0)) ≡ true
  pub counted : length living.ids ≡ length (live_ids nodes)

-- it was kept of some tree behind choice c, of which the later one tells what had ended
pub record WasThere (c : ℕ) (living : Living) (later : List Node) : Type 0 where
  pub nodes : List Node
  pub kept : IsLivingOf living nodes
  pub told : IsCut c nodes later
