use Rattle.std.proofs.Common.{◌≡◌, ◌||◌, drop}
use Rattle.std.specs.List.{list_any}
use Rattle.std.specs.BTreeSet.{contains}
use Rattle.cilk_check.specs.declared.signature.Signature.{Signature}
use Rattle.cilk_check.specs.Signatures.{signature_cmp, has_signature}
use Rattle.cilk_check.proofs.prototypes.signatures.Given as goal

abbrev pub invariant-loop-item : goal.invariant-loop-item
invariant-loop-item l =
    (s : Signature) → (contains signature_cmp l.signatures s || list_any (has_signature s) (drop l.item-index l.items)) ≡ list_any (has_signature s) l.items
