use Rattle.std.proofs.Common.{◌≡◌, drop}
use Rattle.cilk_check_scopes.specs.First.{first_among}
use Rattle.cilk_check.specs.NameFinds.{exprs_faults}
use Rattle.cilk_check.proofs.uses.in_exprs.Given as goal

abbrev pub invariant-loop-expr : goal.invariant-loop-expr
invariant-loop-expr l =
    first_among l.found (exprs_faults l.names (drop l.expr-index l.exprs)) ≡ first_among l.initial.found (exprs_faults l.names l.exprs)
