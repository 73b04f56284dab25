-- An answer that is written, as a session promises it.
use Rattle.std.proofs.Common.{◌≡◌, ℕ, List, Option, Result, Ok, Err, inr, subst}
use Rattle.std.specs.Io.KnownBytes.{Appends}
use Rattle.cilk_debug_console.specs.Command.{Command}
use Rattle.cilk_log_replay.specs.machine.Front.{AppendsFront}
use Rattle.cilk_debug.specs.Debugging.{Debugging}
use Rattle.cilk_debug.specs.Obeying.{obeyed}
use Rattle.cilk_debug.specs.Replies.{TextWritten, Answered}
use Rattle.cilk_debug.specs.declared.session_fault.SessionFault.{SessionFault}
use Rattle.cilk_debug.specs.declared.session_fault.SessionFault.TheVariants.{Read, Write, Memory}

pub answered : (before after : Debugging) (command : Command) (text : List ℕ) (old new : Option (List ℕ)) (r : Result (Unit {0}) SessionFault)
    → text ≡ (obeyed before command).reply → after ≡ (obeyed before command).left → TextWritten text old new r → Answered before after command old new r
answered before after command text old new (Ok done) is left sent = (subst (Appends old new) is sent, left)
answered before after command text old new (Err (Read fault)) is left sent = sent
answered before after command text old new (Err Write) is left sent = (subst (AppendsFront old new) is sent, left)
answered before after command text old new (Err Memory) is left sent = (sent, inr left)
