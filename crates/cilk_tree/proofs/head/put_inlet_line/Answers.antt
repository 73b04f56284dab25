use Rattle.std.proofs.Common.{append_assoc}
use Rattle.cilk_tree.proofs.Written.{regrouped}
use Rattle.cilk_tree.proofs.head.put_inlet_line.Goals as goal

pub returns : goal.returns
returns c =
    regrouped c.put-5.result c.put-5.new.out _ _ c.put-5.ensures
    (rw (
      c.in_ok-put_names.ensures,
      c.in_ok-put-4.ensures,
      c.in_ok-put-3.ensures,
      c.in_ok-put-2.ensures,
      c.in_ok-put.ensures,
      c.as_str.ensures,
    ) (simp append_assoc))
