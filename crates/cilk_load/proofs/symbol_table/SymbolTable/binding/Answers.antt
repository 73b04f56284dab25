use Rattle.std.proofs.Common.{ap, ◌∙◌}
use Rattle.cilk_load.specs.Scope.{found, visible}
use Rattle.cilk_load.proofs.Shown.{told_if, stands}
use Rattle.cilk_load.proofs.symbol_table.SymbolTable.binding.Goals as goal

pub returns-in-Some : goal.returns-in-Some
returns-in-Some c =
    c.told.ensures
    ∙ ap (told_if c.self.inside.innermost) (c.in-Some.ensures.value ∙ c.self.invariant.found c.args.name.now)
    ∙ stands c.self.inside.innermost c.self.inside.entries.items c.args.name.now c.self.invariant.within
    ∙ ap (λ s. found (visible s) c.args.name.now) c.self.view_is

pub returns-in-None : goal.returns-in-None
returns-in-None c =
    c.unknown_name.ensures
    ∙ ap (told_if c.self.inside.innermost) (c.in-None.ensures.value ∙ c.self.invariant.found c.args.name.now)
    ∙ stands c.self.inside.innermost c.self.inside.entries.items c.args.name.now c.self.invariant.within
    ∙ ap (λ s. found (visible s) c.args.name.now) c.self.view_is
