use Rattle.std.proofs.Common.{ap, sym}
use Rattle.cilk_commands.proofs.Fronts.{front_same}
use Rattle.cilk_program_tapes.specs.Telling.{replay_line}
use Rattle.cilk_program_tapes.proofs.failure.tell_replay.Goals as goal

pub returns-in-OtherProgram-clause-front : goal.returns-in-OtherProgram-clause-front
returns-in-OtherProgram-clause-front g c =
    front_same _ _ _ _ _ (ap (replay_line c.args.name.now) (sym c.in-OtherProgram.is)) c.write_named.ensures.front
