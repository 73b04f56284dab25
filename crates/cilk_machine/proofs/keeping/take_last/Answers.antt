use Rattle.std.proofs.Common.{vec_len}
use Rattle.cilk_machine.proofs.Kept.{last-first, none-left, none-first}
use Rattle.cilk_machine.proofs.keeping.take_last.Goals as goal

pub returns-clause-none : goal.returns-clause-none
returns-clause-none c =
    let old = c.args.records.now in
    let now = c.pop.new.self in
    none-first c.pop.result old.items now.items c.pop.ensures.items
    (none-left c.pop.result old.items now.items (vec_len old) _ _ c.pop.ensures.rest c.pop.ensures.cases)

pub returns-clause-same : goal.returns-clause-same
returns-clause-same c =
    let old = c.args.records.now in
    let now = c.pop.new.self in
    none-left c.pop.result old.items now.items (vec_len old) _ _ c.pop.ensures.rest c.pop.ensures.cases

pub returns-clause-some : goal.returns-clause-some
returns-clause-some c = last-first c.pop.result c.args.records.now.items c.pop.new.self.items c.pop.ensures.items
