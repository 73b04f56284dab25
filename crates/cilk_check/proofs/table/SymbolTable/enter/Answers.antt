use Rattle.std.proofs.Common.{◌≡◌, rules, length, ap, ◌∙◌}
use Rattle.cilk_check_scopes.specs.Scopes.{enter}
use Rattle.cilk_check.proofs.Tables.{entered}
use Rattle.cilk_check.proofs.table.SymbolTable.enter.Goals as goal

pub returns-clause-entered : goal.returns-clause-entered
returns-clause-entered c =
    let all : c.len-self-inside.result ≡ length c.self.inside.entries.items = search rules in
    entered c.self.inside.innermost c.len-self-inside.result c.self.inside.entries.items all ∙ ap enter c.self.view_is
