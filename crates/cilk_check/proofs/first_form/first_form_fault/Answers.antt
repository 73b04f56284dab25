use Rattle.cilk_check_scopes.proofs.Told.{none_is_told, first_is_told}
use Rattle.cilk_check_scopes.specs.Forms.{Faulty}
use Rattle.cilk_check.specs.FormFinds.{forms_faults}
use Rattle.cilk_check.proofs.FormsSound.{forms_sound}
use Rattle.cilk_check.proofs.FormsComplete.{forms_complete}
use Rattle.cilk_check.proofs.first_form.first_form_fault.Goals as goal

pub returns-clause-none : goal.returns-clause-none
returns-clause-none c =
    let p = c.args.program.now in
    none_is_told (Faulty p) (forms_faults p) (forms_complete p) c.in_ok-found.found c.in_ok-found.ensures

pub returns-clause-first : goal.returns-clause-first
returns-clause-first c =
    let p = c.args.program.now in
    first_is_told (Faulty p) (forms_faults p) (forms_complete p) c.in_ok-found.found c.in_ok-found.ensures (forms_sound p)
