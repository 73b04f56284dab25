use Rattle.std.proofs.Common.{◌∙◌}
use Rattle.std.specs.List.{list_any}
use Rattle.cilk_check.proofs.prototypes.is_defined.Goals as goal

pub returns : goal.returns
returns c = λ items h.
    c.contains.ensures ∙ h c.of_prototype-signature.result ∙ (λ i. list_any (λ x. c.of_prototype-signature.ensures x i) items)
