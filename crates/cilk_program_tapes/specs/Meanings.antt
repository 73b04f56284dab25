-- What traps and refusals mean, in words for people.
use Rattle.std.specs.Prelude.{ℕ, List, codes}
use Rattle.cilk_log_replay.specs.machine.model.declared.trap.Trap.{Trap}
use Rattle.cilk_log_replay.specs.machine.model.declared.trap.Trap.TheVariants.{Overflow, ZeroDivide, Shift, Index}
use Rattle.cilk_log_replay.specs.machine.model.State.{TrapKind, of_value, lock, held_lock, depth, instances, output}
use Rattle.cilk_log_replay.specs.log.choices.declared.refusal.Refusal.{Refusal}
use Rattle.cilk_log_replay.specs.log.choices.declared.refusal.Refusal.TheVariants as refusal

abbrev pub value_meaning : Trap → List ℕ
value_meaning Overflow = codes "The result of an operator is no `int`: it is less than -2147483648 or more than 2147483647"
value_meaning ZeroDivide = codes "A number is divided by 0"
value_meaning Shift = codes "A number is shifted by less than 0 or more than 31, or one that is less than 0 to the left"
value_meaning Index = codes "A subscript is outside its array: the elements have the numbers from 0 up to one less than its length"

-- a sentence without its full stop
abbrev pub trap_meaning : TrapKind → List ℕ
trap_meaning (of_value trap) = value_meaning trap
trap_meaning lock = codes "A lock is initialised while it is held, taken before it is initialised or by its holder, or let go by another"
trap_meaning held_lock = codes "The instance holds a lock where it spawns, waits or ends, and there it may hold none"
trap_meaning depth = codes "256 bodies are open in this instance, and no call opens one more"
trap_meaning instances = codes "65536 instances live, or this one has spawned 4294967295 children, and no spawn starts one more"
trap_meaning output = codes "The output has at most 1048576 bytes, and this would be more"

-- why a choice is not possible: the end of a sentence
abbrev pub refusal_meaning : Refusal → List ℕ
refusal_meaning refusal.Over = codes "the program has ended before"
refusal_meaning refusal.NoWorker = codes "the log has no such worker, or the worker would steal from itself"
refusal_meaning refusal.HandEmpty = codes "its worker has nothing in its hand to step"
refusal_meaning refusal.Busy = codes "its worker has something in its hand, or, where it would steal, in its own deque"
refusal_meaning refusal.DequeEmpty = codes "the deque to take from is empty"
refusal_meaning refusal.Waiting = codes "the step has to wait for a lock that another instance holds"
refusal_meaning refusal.Memory = codes "memory has run out"
refusal_meaning refusal.Stale = codes "what was seen of it beforehand has changed"
