use Rattle.cilk_machine_agree.specs.explore.Names.{SameButNames}
use Rattle.cilk_machine_agree.proofs.explore.Standings.{the_same_end_alike}
use Rattle.cilk_machine_agree.proofs.explore.Taken.{end_alike}
use Rattle.cilk_machine_agree.proofs.explore.ButNames.{names_kept}
use Rattle.cilk_machine_agree.proofs.search_laws.the_same_end_alike.Goals as goal

pub returns : goal.returns
returns c = record { same = the_same_end_alike; names = λ program. end_alike SameButNames program (names_kept program) }
