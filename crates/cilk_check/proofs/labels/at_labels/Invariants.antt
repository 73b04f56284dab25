use Rattle.std.proofs.Common.{◌≡◌, drop}
use Rattle.cilk_check_scopes.specs.syntax.Tree.{stmts_of}
use Rattle.cilk_check_scopes.specs.First.{first_among}
use Rattle.cilk_check_scopes.specs.Forms.{stmts_labels}
use Rattle.cilk_check.specs.FormFinds.{labels_faults, nothing_said}
use Rattle.cilk_check.specs.Said.{said_in}
use Rattle.cilk_check.proofs.labels.at_labels.Given as goal

abbrev pub invariant-loop-stmt : goal.invariant-loop-stmt
invariant-loop-stmt l =
    first_among l.found (labels_faults (said_in l.said) (stmts_labels (stmts_of (drop l.stmt-index l.stmts))))
    ≡ first_among l.initial.found (labels_faults nothing_said (stmts_labels (stmts_of l.stmts)))
