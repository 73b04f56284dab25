use Rattle.std.proofs.Common.{◌≡◌, subst, true}
use Rattle.cilk_log_replay.specs.machine.syntax.Tree.{Program}
use Rattle.cilk_log_replay.specs.log.Naming.{is_of}
use Rattle.cilk_log_replay.specs.machine.syntax.ProgramText.{program_text}
use Rattle.cilk_log_replay.specs.ReplayFaults.{IsNamedFaultOf}
use Rattle.cilk_log_replay.specs.Tape.{IsPlayable, tape_of}
use Rattle.cilk_draw.proofs.Played.{playable}
use Rattle.cilk_draw.proofs.drawing.try_all.Goals as goal

pub returns-in-Err-play_all-clause-told : goal.returns-in-Err-play_all-clause-told
returns-in-Err-play_all-clause-told c =
    let log = c.args.log.now in
    subst (λ (p : Program). IsNamedFaultOf log.program (tape_of p log.workers log.choices) c.in-Err-play_all.fault) c.in-Ok.ensures
    c.in-Err-play_all.ensures.told

pub returns-in-Ok-play_all-clause-own : goal.returns-in-Ok-play_all-clause-own
returns-in-Ok-play_all-clause-own c =
    subst (λ (p : Program). is_of c.args.log.now.program (program_text p) ≡ true) c.in-Ok.ensures c.in-Ok-play_all.ensures.own

pub returns-in-Ok-play_all-clause-whole : goal.returns-in-Ok-play_all-clause-whole
returns-in-Ok-play_all-clause-whole c =
    let log = c.args.log.now in
    subst (λ (p : Program). IsPlayable (tape_of p log.workers log.choices)) c.in-Ok.ensures
    (playable c.in-Ok.copy log.workers log.choices c.in-Ok-play_all.machine c.in-Ok-play_all.ensures.stands)
