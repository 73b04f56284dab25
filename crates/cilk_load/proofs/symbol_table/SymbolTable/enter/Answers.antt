use Rattle.std.proofs.Common.{◌≡◌, rules, length, ap, ◌∙◌}
use Rattle.cilk_load.specs.Scope.{entered}
use Rattle.cilk_load.proofs.Shown.{opens}
use Rattle.cilk_load.proofs.symbol_table.SymbolTable.enter.Goals as goal

pub returns-clause-entered : goal.returns-clause-entered
returns-clause-entered c =
    let all : c.len-self-inside.result ≡ length c.self.inside.entries.items = search rules in
    opens c.self.inside.innermost c.len-self-inside.result c.self.inside.entries.items all ∙ ap entered c.self.view_is
