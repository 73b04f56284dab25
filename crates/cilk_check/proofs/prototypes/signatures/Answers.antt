use Rattle.std.proofs.Common.{◌∙◌}
use Rattle.std.specs.BTreeSet.{contains}
use Rattle.cilk_check.specs.Signatures.{has_signature, signature_cmp}
use Rattle.cilk_check.proofs.Definitions.{one_more}
use Rattle.cilk_check.proofs.prototypes.signatures.Goals as goal

pub loop-item-preserved : goal.loop-item-preserved
loop-item-preserved c = λ s.
    one_more (has_signature s) c.args.items.now c.loop-item.item-index c.item-item.result (contains signature_cmp c.loop-item.signatures s) _
    c.loop-item-test.true c.item-item.is (c.in_ok-add.ensures s)
    ∙ c.loop-item.invariant s
