use Rattle.cilk_check.specs.scopes.NameFaults as names
use Rattle.cilk_check.specs.scopes.Forms as forms
use Rattle.cilk_check.proofs.Both.{both_told}
use Rattle.cilk_check.proofs.checked.first_fault.Goals as goal

pub returns-clause-first : goal.returns-clause-first
returns-clause-first c =
    let p = c.args.program.now in
    both_told (names.Faulty p) (forms.Faulty p) c.in_ok-named.named c.in_ok-formed.formed c.earlier_of.result c.in_ok-named.ensures.none
    c.in_ok-named.ensures.first c.in_ok-formed.ensures.none c.in_ok-formed.ensures.first c.earlier_of.ensures
