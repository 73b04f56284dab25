use Rattle.std.proofs.Common.{append_assoc}
use Rattle.cilk_tree.proofs.Written.{regrouped}
use Rattle.cilk_tree.proofs.item.put_lock.Goals as goal

pub returns : goal.returns
returns c = regrouped c.put-3.result c.put-3.new.out _ _ c.put-3.ensures (rw (c.in_ok-put-2.ensures, c.in_ok-put.ensures, c.as_str.ensures) (simp append_assoc))
