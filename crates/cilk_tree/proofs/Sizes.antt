-- The size of a block that may be there.
use Rattle.std.proofs.Common.{ℕ, Option, Some, None}
use Rattle.cilk_tree_syntax.specs.Tree.{Block}
use Rattle.cilk_tree_syntax.specs.StmtSize.{block_size}

abbrev pub option_size : Option Block → ℕ
option_size None = 0
option_size (Some inside) = block_size inside
