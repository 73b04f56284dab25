-- The effects of actions with slots in place of declarations, and the cells that they reach.
use Rattle.std.specs.Prelude.{ℕ, ⊤, Option, Some, None, option_map, Result, Ok, Err}
use Rattle.cilk_eval.specs.model.declared.trap.Trap.{Trap}
use Rattle.cilk_eval.specs.nodes.declared.slot.Slot.{Slot}
use Rattle.cilk_eval.specs.labelled.Labelled.{Declaration, Labelled}
use Rattle.cilk_eval.specs.model.Values.{Cell, Reached}
use Rattle.cilk_eval.specs.model.Instance as model
use Rattle.cilk_eval.specs.model.Effect as effect
use Rattle.cilk_eval.specs.frame.declared.awaited.Await.{Await}
use Rattle.cilk_eval.specs.frame.declared.receiver.Receiver.{Receiver}
use Rattle.cilk_eval.specs.frame.declared.receiver.Receiver.TheVariants.{Nothing, Place, Call}
use Rattle.cilk_eval.specs.frame.Cells.{HasCell}
use Rattle.cilk_eval.specs.declared.effect.Effect.{Effect}
use Rattle.cilk_eval.specs.declared.effect.Effect.TheVariants.{Writes, Answers, Enters, Gives, Starts, Prints, TurnsLock, Marks}

-- what awaits the value of call n: the cell was reached, and its place stands in the action
abbrev pub slotted_await : ℕ → Option Reached → Option Await
slotted_await n reached = option_map (λ r. record { n = n; index = r.cell.index }) reached

abbrev pub slotted_receiver : (Declaration → Slot) → Option model.Receiver → Receiver
slotted_receiver slots None = Nothing
slotted_receiver slots (Some (model.place reached n)) = Place reached.op (slots reached.cell.place) reached.cell.index n
slotted_receiver slots (Some (model.through inlet others n)) = Call n others

-- an effect of action n over slots
abbrev pub slotted_effect : (Declaration → Slot) → ℕ → effect.Effect → Effect
slotted_effect slots n (effect.writes cell z) = Writes (record { slot = slots cell.place; index = cell.index }) z
slotted_effect slots n (effect.answers answer) = Answers answer
slotted_effect slots n (effect.enters awaits callee zs) = Enters (slotted_await n awaits) callee zs
slotted_effect slots n (effect.gives z) = Gives z
slotted_effect slots n (effect.starts receiver callee zs) = Starts (slotted_receiver slots receiver) callee zs
slotted_effect slots n (effect.writes_out bytes) = Prints bytes
slotted_effect slots n (effect.turns_lock what lock) = TurnsLock what lock
slotted_effect slots n effect.marks = Marks

abbrev pub slotted_result : (Declaration → Slot) → ℕ → Result effect.Effect Trap → Result Effect Trap
slotted_result slots n (Ok e) = Ok (slotted_effect slots n e)
slotted_result slots n (Err trap) = Err trap

abbrev pub IsCell : Labelled → ℕ → Cell → Type 0
IsCell program b cell = HasCell program b cell.place cell.index

abbrev pub AwaitedCell : Labelled → ℕ → Option Reached → Type 0
AwaitedCell program b None = ⊤
AwaitedCell program b (Some reached) = IsCell program b reached.cell

abbrev pub TakenCell : Labelled → ℕ → Option model.Receiver → Type 0
TakenCell program b None = ⊤
TakenCell program b (Some (model.place reached n)) = IsCell program b reached.cell
TakenCell program b (Some (model.through inlet others n)) = ⊤

-- body b sees each cell that was reached
abbrev pub ReachesCells : Labelled → ℕ → effect.Effect → Type 0
ReachesCells program b (effect.writes cell z) = IsCell program b cell
ReachesCells program b (effect.answers answer) = ⊤
ReachesCells program b (effect.enters awaits callee zs) = AwaitedCell program b awaits
ReachesCells program b (effect.gives z) = ⊤
ReachesCells program b (effect.starts receiver callee zs) = TakenCell program b receiver
ReachesCells program b (effect.writes_out bytes) = ⊤
ReachesCells program b (effect.turns_lock what lock) = ⊤
ReachesCells program b effect.marks = ⊤
