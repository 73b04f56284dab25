-- What the code's words for answers mean.
use Rattle.std.specs.Prelude.{◌≡◌, ◌⊎◌, ℕ, List, [], Option, Result, Ok, Err, codes}
use Rattle.std.specs.Io.KnownBytes.{Appends, Keeps}
use Rattle.cilk_debug_console.specs.Command.{Command}
use Rattle.cilk_log_replay.specs.machine.Front.{AppendsFront}
use Rattle.cilk_debug_console.specs.declared.fault.LineFault.{LineFault}
use Rattle.cilk_debug_console.specs.declared.fault.LineFault.TheVariants as line
use Rattle.cilk_debug.specs.Debugging.{Debugging}
use Rattle.cilk_debug.specs.Obeying.{obeyed}
use Rattle.cilk_debug.specs.declared.reply.Reply.{Reply}
use Rattle.cilk_debug.specs.declared.reply.Reply.TheVariants as reply
use Rattle.cilk_debug.specs.declared.session_fault.SessionFault.{SessionFault}
use Rattle.cilk_debug.specs.declared.session_fault.SessionFault.TheVariants.{Read, Write, Memory}

abbrev pub reply_text : Reply → List ℕ
reply_text (reply.Told text) = text
reply_text reply.Done = codes "ok\n"
reply_text reply.Nothing = []
reply_text reply.Unknown = codes "unknown command\n"
reply_text reply.AtEnd = codes "B2 AtEnd\n"
reply_text reply.AtStart = codes "B3 AtStart\n"
reply_text reply.NoStatement = codes "B4 NoStatement\n"
reply_text reply.NoInstance = codes "B5 NoInstance\n"
reply_text reply.OutOfRange = codes "B6 OutOfRange\n"

-- a text was written, or its first bytes where the writer failed, or nothing where memory ran out
abbrev pub TextWritten : List ℕ → Option (List ℕ) → Option (List ℕ) → Result (Unit {0}) SessionFault → Type 0
TextWritten text old new (Ok done) = Appends old new text
TextWritten text old new (Err (Read fault)) = ⊥
TextWritten text old new (Err Write) = AppendsFront old new text
TextWritten text old new (Err Memory) = Keeps old new

-- a command was obeyed and has this answer, or memory ran out, for the command or for its answer
abbrev pub Obeys : Debugging → Debugging → Command → Result Reply SessionFault → Type 0
Obeys before after command (Ok reply) = (reply_text reply ≡ (obeyed before command).reply) × (after ≡ (obeyed before command).left)
Obeys before after command (Err why) = (why ≡ Memory) × ((after ≡ before) ⊎ (after ≡ (obeyed before command).left))

-- and the answer was written, or its first bytes where the writer failed
abbrev pub Answered : Debugging → Debugging → Command → Option (List ℕ) → Option (List ℕ) → Result (Unit {0}) SessionFault → Type 0
Answered before after command old new (Ok done) = Appends old new (obeyed before command).reply × (after ≡ (obeyed before command).left)
Answered before after command old new (Err (Read fault)) = ⊥
Answered before after command old new (Err Write) = AppendsFront old new (obeyed before command).reply × (after ≡ (obeyed before command).left)
Answered before after command old new (Err Memory) = Keeps old new × ((after ≡ before) ⊎ (after ≡ (obeyed before command).left))

abbrev pub fault_of : LineFault → SessionFault
fault_of (line.Read fault) = Read fault
fault_of line.Memory = Memory
