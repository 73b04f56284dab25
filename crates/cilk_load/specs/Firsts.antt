-- With which number a part of a body begins, where `at` is the number of the next action.
use Rattle.std.specs.Prelude.{ℕ, ◌+◌, Bool, false, nat_eq, nat_lt, if◌then◌else◌, Option, Some}
use Rattle.cilk_tree_syntax.specs.Tree as tree
use Rattle.cilk_load_nodes.specs.labelled.Count.{count_shape, count_block}

-- the number with which so many actions begin, or what comes behind them
abbrev pub first_if : ℕ → ℕ → Option ℕ → Option ℕ
first_if count at next = if nat_eq count 0 then next else Some at

abbrev pub block_first : ℕ → tree.Block → Option ℕ → Option ℕ
block_first at body next = first_if (count_block body) at next

-- that of the first initialiser among these declarations: an inlet is no part of what its procedure does
abbrev pub locals_first : ℕ → tree.Locals → Option ℕ → Option ℕ
locals_first at tree.no_locals next = next
locals_first at (tree.and_local (tree.declared d) others) next =
    first_if (count_shape d.shape) at (locals_first (at + count_shape d.shape) others next)
locals_first at (tree.and_local (tree.inlet_at place name parameters body) others) next =
    locals_first (at + (count_block body + 1)) others next

-- whether a declaration is an action
abbrev pub is_initialised : tree.Local → Bool
is_initialised (tree.declared d) = nat_lt 0 (count_shape d.shape)
is_initialised (tree.inlet_at place name parameters body) = false
