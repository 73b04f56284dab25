use Rattle.std.proofs.Common.{◌≡◌, drop}
use Rattle.cilk_check_scopes.specs.First.{first_among}
use Rattle.cilk_check.specs.FormFinds.{exprs_faults}
use Rattle.cilk_check.proofs.children.in_exprs.Given as goal

abbrev pub invariant-loop-expr : goal.invariant-loop-expr
invariant-loop-expr l =
    first_among l.found (exprs_faults l.owner (drop l.expr-index l.exprs)) ≡ first_among l.initial.found (exprs_faults l.owner l.exprs)
