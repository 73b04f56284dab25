use Rattle.std.proofs.Common.{ap, ◌∙◌}
use Rattle.std.specs.Option.{option_map}
use Rattle.cilk_check_scopes.specs.Scopes.{meaning}
use Rattle.cilk_check.proofs.Tables.{means}
use Rattle.cilk_check.proofs.table.SymbolTable.meaning.Goals as goal

pub returns-in-Some : goal.returns-in-Some
returns-in-Some c =
    ap (option_map (λ x. x.kind)) (c.in-Some.ensures.value ∙ c.self.invariant.found c.args.name.now)
    ∙ means c.self.inside.innermost c.self.inside.entries.items c.args.name.now
    ∙ ap (λ s. option_map (λ d. d.kind) (meaning s c.args.name.now)) c.self.view_is

pub returns-in-None : goal.returns-in-None
returns-in-None c =
    ap (option_map (λ x. x.kind)) (c.in-None.ensures.value ∙ c.self.invariant.found c.args.name.now)
    ∙ means c.self.inside.innermost c.self.inside.entries.items c.args.name.now
    ∙ ap (λ s. option_map (λ d. d.kind) (meaning s c.args.name.now)) c.self.view_is
