use Rattle.std.proofs.Common.{ap, ◌∙◌, is_some}
use Rattle.cilk_check_scopes.specs.Scopes.{declared_in}
use Rattle.cilk_check.proofs.Tables.{is_from, here}
use Rattle.cilk_check.proofs.table.SymbolTable.is_declared_here.Goals as goal

pub returns-in-Some : goal.returns-in-Some
returns-in-Some c =
    ap (is_from c.self.inside.innermost) (c.in-Some.ensures.value ∙ c.self.invariant.found c.args.name.now)
    ∙ here c.self.inside.innermost c.self.inside.entries.items c.args.name.now c.self.invariant.within
    ∙ ap (λ s. is_some (declared_in s.innermost c.args.name.now)) c.self.view_is

pub returns-in-None : goal.returns-in-None
returns-in-None c =
    ap (is_from c.self.inside.innermost) (c.in-None.ensures.value ∙ c.self.invariant.found c.args.name.now)
    ∙ here c.self.inside.innermost c.self.inside.entries.items c.args.name.now c.self.invariant.within
    ∙ ap (λ s. is_some (declared_in s.innermost c.args.name.now)) c.self.view_is
