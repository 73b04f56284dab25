use Rattle.std.proofs.Common.{◌||◌, sym, ap, ◌∙◌}
use Rattle.std.specs.Ordering.{is_eq}
use Rattle.std.specs.BTreeSet.{contains}
use Rattle.cilk_check_scopes.specs.syntax.ProgramView.{item_of}
use Rattle.cilk_check.specs.Signatures.{has_signature, is_signature, signature_cmp}
use Rattle.cilk_check.proofs.Definitions.{added}
use Rattle.cilk_check.proofs.prototypes.add.Goals as goal

pub returns-in_ok-insert : goal.returns-in_ok-insert
returns-in_ok-insert c = λ s.
    let had = contains signature_cmp c.args.signatures.now s in
    c.in_ok-insert.ensures.updates.0 s
    ∙ added (is_eq (signature_cmp c.in-Some.signature s)) had
    ∙ ap (λ b. had || b)
    (ap (λ o. is_signature o s) (sym c.in-Some.is) ∙ c.of_definition.ensures s
    ∙ ap (λ n. has_signature s (item_of n)) (sym c.in-Procedure.is) ∙ ap (has_signature s) c.item.view_is)
