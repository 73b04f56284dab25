-- Records that were copied one by one.
use Rattle.std.proofs.Common.{◌≡◌, ◌<◌, ℕ, List, length, ext_get_or, sym, ◌∙◌, arith}
use Rattle.cilk_spawn.specs.declared.record.Record.{Record}
use Rattle.cilk_spawn.specs.Nodes.{no_node}
use Rattle.cilk_spawn.specs.Records.{nodes_of, record_at}
use Rattle.cilk_spawn.specs.Copied.{Copied}
use Rattle.cilk_spawn.proofs.Records.{node_is, nodes_length}

-- the first n are copied
pub record CopiedTo (n : ℕ) (rs made : List Record) : Type 0 where
  pub len : length made ≡ n
  pub same : (k : ℕ) → k < n → Copied (record_at rs k) (record_at made k)

pub copied_nodes : (rs made : List Record) → CopiedTo (length rs) rs made → nodes_of made ≡ nodes_of rs
copied_nodes rs made c =
    ext_get_or no_node (nodes_of made) (nodes_of rs) (nodes_length made ∙ c.len ∙ sym (nodes_length rs))
    (λ i h. node_is made i ∙ (c.same i (omega (arith, h, nodes_length made, c.len))).node ∙ sym (node_is rs i))
