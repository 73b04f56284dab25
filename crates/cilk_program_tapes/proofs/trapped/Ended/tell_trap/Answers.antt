use Rattle.cilk_program_tapes.proofs.Said.{nothing_told}
use Rattle.cilk_program_tapes.proofs.trapped.Ended.tell_trap.Goals as goal

pub returns-in-Some-clause-told : goal.returns-in-Some-clause-told
returns-in-Some-clause-told g c = λ answer closes told. c.tell.ensures answer (rw c.in-Some.is at closes)

pub returns-in-None-clause-told : goal.returns-in-None-clause-told
returns-in-None-clause-told g c = λ answer closes told. nothing_told answer c.args.name.now c.args.text.now _
