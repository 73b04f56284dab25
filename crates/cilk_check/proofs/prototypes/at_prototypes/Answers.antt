use Rattle.std.proofs.Common.{◌+◌, drop, sym, ap, ◌∙◌}
use Rattle.std.specs.List.{flat_map}
use Rattle.cilk_check_scopes.specs.First.{first_among}
use Rattle.cilk_check.specs.NameFinds.{prototype_faults}
use Rattle.cilk_check.proofs.Tops.{prototypes_more}
use Rattle.cilk_check.proofs.prototypes.at_prototypes.Goals as goal

pub loop-item-preserved : goal.loop-item-preserved
loop-item-preserved c =
    let items = c.args.items.now in
    let i = c.loop-item.item-index in
    ap (λ f. first_among f (flat_map (prototype_faults items) (drop (i + 1) items))) (c.at_item-found.ensures items c.in_ok-signatures.ensures)
    ∙ sym (prototypes_more c.loop-item.found items items i c.item-item.result c.loop-item-test.true c.item-item.is)
    ∙ c.loop-item.invariant
