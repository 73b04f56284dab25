use Rattle.std.proofs.Common.{◌≡◌, drop}
use Rattle.cilk_check_scopes.specs.syntax.Tree.{locals_of, stmts_of}
use Rattle.cilk_check_scopes.specs.First.{first_among}
use Rattle.cilk_check.specs.FormFinds.{locals_faults, stmts_faults}
use Rattle.cilk_check.proofs.forms_of_walk.+in_block.Given as goal

abbrev pub invariant-in_locals-loop-local : goal.invariant-in_locals-loop-local
invariant-in_locals-loop-local l =
    first_among l.found (locals_faults l.within (locals_of (drop l.local-index l.locals)))
    ≡ first_among l.initial.found (locals_faults l.within (locals_of l.locals))

abbrev pub invariant-in_stmts-loop-stmt : goal.invariant-in_stmts-loop-stmt
invariant-in_stmts-loop-stmt l =
    first_among l.found (stmts_faults l.within (stmts_of (drop l.stmt-index l.stmts))) ≡ first_among l.initial.found (stmts_faults l.within (stmts_of l.stmts))
