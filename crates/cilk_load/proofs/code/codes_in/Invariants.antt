use Rattle.std.proofs.Common.{◌≡◌, ◌++◌, drop}
use Rattle.cilk_load.specs.Acts.{codes_in}
use Rattle.cilk_load.proofs.code.codes_in.Given as goal

abbrev pub invariant-loop-expr : goal.invariant-loop-expr
invariant-loop-expr l = l.codes.items ++ codes_in l.names (drop l.expr-index l.exprs) ≡ codes_in l.names l.exprs
