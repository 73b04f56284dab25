use Rattle.std.proofs.Common.{rules}
use Rattle.cilk_check_scopes.proofs.Firsts.{first_among-append}
use Rattle.cilk_check.proofs.prototypes.at_item.Goals as goal

pub returns-in-Prototype : goal.returns-in-Prototype
returns-in-Prototype c = λ items h. let defined = c.is_defined.ensures items h in search (rules, first_among-append)
