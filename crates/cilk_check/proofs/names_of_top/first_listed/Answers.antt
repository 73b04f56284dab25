use Rattle.std.proofs.Common.{◌≡◌, None, IfOk, ap, subst, ◌∙◌}
use Rattle.cilk_check_scopes.specs.First.{first_among}
use Rattle.cilk_check.specs.NameFinds.{items_faults}
use Rattle.cilk_check.proofs.names_of_top.first_listed.Goals as goal

pub returns : goal.returns
returns c =
    subst (λ xs. IfOk c.first_in.result (λ f. f ≡ first_among None (items_faults xs)))
    (c.deref.ensures.value ∙ ap (λ p. p.items) c.program.view_is) c.first_in.ensures
