-- Why a debugger does not move.
use Rattle.std.specs.Prelude.{◌≡◌, ◌<◌, ◌≤◌, ◌⊎◌, ℕ, length}
use Rattle.cilk_log_replay.specs.machine.labelled.Count.{count_program}
use Rattle.cilk_debug.specs.Debugging.{Debugging}
use Rattle.cilk_debug.specs.declared.fault.DebugFault.{DebugFault}
use Rattle.cilk_debug.specs.declared.fault.DebugFault.TheVariants.{OtherProgram, Workers, BadChoice, AtEnd, AtStart, NoStatement, OutOfRange, Memory}

-- forwards: all choices were made, or else memory ran out
abbrev pub StaysGoingOn : Debugging → DebugFault → Type 0
StaysGoingOn d OtherProgram = ⊥
StaysGoingOn d Workers = ⊥
StaysGoingOn d (BadChoice k refusal) = ⊥
StaysGoingOn d AtEnd = d.position ≡ length d.tape.choices
StaysGoingOn d AtStart = ⊥
StaysGoingOn d NoStatement = ⊥
StaysGoingOn d OutOfRange = ⊥
StaysGoingOn d Memory = d.position < length d.tape.choices

-- backwards: none was made
abbrev pub StaysGoingBack : Debugging → DebugFault → Type 0
StaysGoingBack d OtherProgram = ⊥
StaysGoingBack d Workers = ⊥
StaysGoingBack d (BadChoice k refusal) = ⊥
StaysGoingBack d AtEnd = ⊥
StaysGoingBack d AtStart = d.position ≡ 0
StaysGoingBack d NoStatement = ⊥
StaysGoingBack d OutOfRange = ⊥
StaysGoingBack d Memory = 0 < d.position

-- to position k: there are fewer choices
abbrev pub StaysFrom : Debugging → ℕ → DebugFault → Type 0
StaysFrom d k OtherProgram = ⊥
StaysFrom d k Workers = ⊥
StaysFrom d k (BadChoice j refusal) = ⊥
StaysFrom d k AtEnd = ⊥
StaysFrom d k AtStart = ⊥
StaysFrom d k NoStatement = ⊥
StaysFrom d k OutOfRange = length d.tape.choices < k
StaysFrom d k Memory = k ≤ length d.tape.choices

-- n is no action of the program
abbrev pub HasNo : Debugging → ℕ → DebugFault → Type 0
HasNo d n OtherProgram = ⊥
HasNo d n Workers = ⊥
HasNo d n (BadChoice k refusal) = ⊥
HasNo d n AtEnd = ⊥
HasNo d n AtStart = ⊥
HasNo d n NoStatement = (n ≡ 0) ⊎ (count_program d.tape.program < n)
HasNo d n OutOfRange = ⊥
HasNo d n Memory = ⊥
