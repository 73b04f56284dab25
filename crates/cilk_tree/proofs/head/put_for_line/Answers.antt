use Rattle.std.proofs.Common.{append_assoc}
use Rattle.cilk_tree.proofs.Written.{regrouped}
use Rattle.cilk_tree.proofs.head.put_for_line.Goals as goal

pub returns : goal.returns
returns c =
    regrouped c.put-5.result c.put-5.new.out _ _ c.put-5.ensures
    (rw (
      c.in_ok-put_part-2.ensures,
      c.in_ok-put-4.ensures,
      c.in_ok-put_expr.ensures,
      c.in_ok-put-3.ensures,
      c.in_ok-put_part.ensures,
      c.in_ok-put-2.ensures,
      c.in_ok-put.ensures,
    ) (simp append_assoc))
