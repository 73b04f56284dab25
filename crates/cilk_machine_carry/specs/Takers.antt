-- Why a worker may not take a frame from a deque, its own or another's.
use Rattle.std.specs.Prelude.{ℕ, Bool, not, ◌&&◌, ◌||◌, ◌==◌, nat_le, if◌then◌else◌, List, length, Option, Some, None, is_some}
use Rattle.cilk_machine_plan.specs.model.Hands.{WorkerOf, hand_of, deque_of}
use Rattle.cilk_machine_plan.specs.frame.Frames.{Frame}
use Rattle.cilk_sched.specs.declared.refusal.Refusal.{Refusal}
use Rattle.cilk_sched.specs.declared.refusal.Refusal.TheVariants.{NoWorker, Busy, DequeEmpty}

-- workers are numbered from 1 to n
abbrev pub is_worker_of : ℕ → ℕ → Bool
is_worker_of n w = nat_le 1 w && nat_le w n

abbrev pub is_full : List (WorkerOf Frame) → ℕ → Bool
is_full places w = is_some (hand_of places w)

abbrev pub has_none : List (WorkerOf Frame) → ℕ → Bool
has_none places w = length (deque_of places w) == 0

abbrev pub pop_refused : List (WorkerOf Frame) → ℕ → Option Refusal
pop_refused places w =
    if is_full places w then Some Busy
    else (if has_none places w then Some DequeEmpty
    else None)

abbrev pub steal_refused : List (WorkerOf Frame) → ℕ → ℕ → Option Refusal
steal_refused places w v =
    if not (is_worker_of (length places) v) || (v == w) then Some NoWorker
    else (if is_full places w || not (has_none places w) then Some Busy
    else (if has_none places v then Some DequeEmpty
    else None))
