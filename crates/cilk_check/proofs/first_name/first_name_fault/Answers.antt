use Rattle.cilk_check_scopes.proofs.Told.{none_is_told, first_is_told}
use Rattle.cilk_check_scopes.specs.NameFaults.{Faulty}
use Rattle.cilk_check.specs.NameFinds.{names_faults}
use Rattle.cilk_check.proofs.NamesSound.{names_sound}
use Rattle.cilk_check.proofs.NamesComplete.{names_complete}
use Rattle.cilk_check.proofs.first_name.first_name_fault.Goals as goal

pub returns-clause-none : goal.returns-clause-none
returns-clause-none c =
    let p = c.args.program.now in
    none_is_told (Faulty p) (names_faults p) (names_complete p) c.in_ok-found.found c.in_ok-found.ensures

pub returns-clause-first : goal.returns-clause-first
returns-clause-first c =
    let p = c.args.program.now in
    first_is_told (Faulty p) (names_faults p) (names_complete p) c.in_ok-found.found c.in_ok-found.ensures (names_sound p)
