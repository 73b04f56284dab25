use Rattle.std.proofs.Common.{subst, sym}
use Rattle.cilk_debug.specs.Faults.{IsNamedDebugFaultOf}
use Rattle.cilk_log_replay.specs.Tape.{tape_of}
use Rattle.cilk_debug.proofs.Naming.{named_debug_fault}
use Rattle.cilk_debug.proofs.debugger.Debugger.new.Goals as goal

pub returns-in-Err-clause-told : goal.returns-in-Err-clause-told
returns-in-Err-clause-told c =
    let t = tape_of c.args.program c.args.log.workers c.args.log.choices in
    subst (IsNamedDebugFaultOf c.args.log.program t) (sym c.debug_fault.ensures)
    (named_debug_fault c.args.log.program t c.in-Err.unplayable.fault c.in-Err.ensures.told)
