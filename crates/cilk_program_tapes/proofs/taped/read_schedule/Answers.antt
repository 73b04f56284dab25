use Rattle.cilk_program_tapes.proofs.Whole.{any_held}
use Rattle.cilk_program_tapes.proofs.taped.read_schedule.Goals as goal

pub returns-in-Err-Memory-clause-declined : goal.returns-in-Err-Memory-clause-declined
returns-in-Err-Memory-clause-declined g c = any_held (g.L.Read.remaining c.args.reader.now) _ (λ bytes. tt)

pub returns-in-Err-clause-declined : goal.returns-in-Err-clause-declined
returns-in-Err-clause-declined g c = any_held (g.L.Read.remaining c.args.reader.now) _ (λ bytes. tt)
