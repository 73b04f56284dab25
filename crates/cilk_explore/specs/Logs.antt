-- The nodes of a search stand for the logs that it has found: each is that of its parent, and one choice more.
use Rattle.std.specs.Prelude.{◌≡◌, ◌<◌, ◌≤◌, ℕ, List, [], ◌∷◌, ◌++◌, length, Some, slice_get, slice_index_or}
use Rattle.cilk_machine.specs.model.Choice.{Choice}
use Rattle.cilk_machine.specs.sched.Words.{choice_of}
use Rattle.cilk_explore.specs.declared.node.Node.{Node}

-- that of a node, where those of the nodes before it are these
abbrev pub log_behind : List (List Choice) → Node → List Choice
log_behind logs node = slice_index_or logs node.parent [] ++ choice_of node.choice ∷ []

-- with those of further nodes
abbrev pub logs_behind : List (List Choice) → List Node → List (List Choice)
logs_behind logs [] = logs
logs_behind logs (node ∷ nodes) = logs_behind (logs ++ log_behind logs node ∷ []) nodes

-- the first has no choice
abbrev pub logs_of : List Node → List (List Choice)
logs_of [] = []
logs_of (first ∷ nodes) = logs_behind ([] ∷ []) nodes

-- each but the first has its parent before it
pub record AreGrown (nodes : List Node) : Type 0 where
  pub some : 0 < length nodes
  pub below : (k : ℕ) (node : Node) → slice_get nodes k ≡ Some node → 0 < k → node.parent < k

-- none has a parent of a larger number than this
abbrev pub HaveNoParentBehind : ℕ → List Node → Type 0
HaveNoParentBehind last nodes = (k : ℕ) (node : Node) → slice_get nodes k ≡ Some node → node.parent ≤ last
