use Rattle.std.proofs.Common.{◌≡◌, length, refl, arith, sym, ap, ◌∙◌, below_more}
use Rattle.std.proofs.lemmas.List.{get_or_read}
use Rattle.cilk_machine_undo.specs.spawn.Nodes.{path_at}
use Rattle.cilk_machine_undo.specs.agree.Outside.{lock_by}
use Rattle.cilk_machine_undo.specs.agree.declared.lock.Lock.TheVariants.{Free}
use Rattle.cilk_machine.proofs.Compares.{map_same}
use Rattle.cilk_machine.proofs.comparing.are_same_locks.Goals as goal

pub loop-k-preserved : goal.loop-k-preserved
loop-k-preserved c =
    let one = get_or_read c.args.locks.now c.loop-k.k c.index-locks-k.result (omega arith) c.index-locks-k.is Free in
    let other = get_or_read c.args.others.now c.loop-k.k c.index-others-k.result (omega arith) c.index-others-k.is Free in
    below_more _ _ c.loop-k.invariant
    (ap (lock_by (path_at c.args.tree.now.nodes)) (sym one) ∙ c.if-not-is_same_lock.ensures refl ∙ ap (lock_by (path_at c.args.other.now.nodes)) other)

pub returns : goal.returns
returns c = λ e.
    let long : length c.args.locks.now ≡ length c.args.others.now = omega arith in
    map_same (lock_by (path_at c.args.tree.now.nodes)) (lock_by (path_at c.args.other.now.nodes)) Free c.args.locks.now c.args.others.now long
    (λ k lt. c.loop-k.invariant k (omega (arith, lt)))
