-- What an action comes to over slots.
use Rattle.std.specs.Prelude.{ℕ, ℤ, pos, negsuc, nat_lt, if◌then◌else◌, List, Option, Some, None, Result, Ok, Err}
use Rattle.cilk_eval.specs.model.declared.trap.Trap.{Trap}
use Rattle.cilk_eval.specs.model.declared.trap.Trap.TheVariants.{Index}
use Rattle.cilk_eval.specs.labelled.Term.{Term}
use Rattle.cilk_eval.specs.labelled.Value.{value_of, values_of, ◌>>=◌}
use Rattle.cilk_eval.specs.nodes.declared.slot.Slot.{Slot}
use Rattle.cilk_eval.specs.nodes.Areas.{Cells, environment, slot_cell}
use Rattle.cilk_eval.specs.model.Values.{combined}
use Rattle.cilk_eval.specs.model.Printing.{printed}
use Rattle.cilk_eval.specs.nodes.declared.slot_place.SlotPlace.{SlotPlace}
use Rattle.cilk_eval.specs.nodes.declared.target.Target.{Target}
use Rattle.cilk_eval.specs.nodes.declared.taker.Taker.{Taker}
use Rattle.cilk_eval.specs.nodes.declared.taker.Taker.TheVariants.{Nothing, Into, Through}
use Rattle.cilk_eval.specs.nodes.declared.action.Action.{Action}
use Rattle.cilk_eval.specs.nodes.declared.action.Action.TheVariants.{Assign, Call, Spawn, Print, Locking, Null, Break, Continue, Test, Sync, Abort}
use Rattle.cilk_eval.specs.nodes.declared.action.Action.TheVariants.{Return, ReturnNothing, Close}
use Rattle.cilk_eval.specs.frame.declared.awaited.Await.{Await}
use Rattle.cilk_eval.specs.frame.declared.receiver.Receiver as receiver
use Rattle.cilk_eval.specs.frame.declared.receiver.Receiver.{Receiver}
use Rattle.cilk_eval.specs.declared.effect.Effect.{Effect}
use Rattle.cilk_eval.specs.declared.effect.Effect.TheVariants.{Writes, Answers, Enters, Gives, Starts, Prints, TurnsLock, Marks}
use Rattle.cilk_eval.specs.declared.written.Written.{Written}

-- element k of an array of this length (C 1990, 6.3.2.1)
abbrev pub element_index : ℕ → ℤ → Result ℕ Trap
element_index length (pos k) = if nat_lt k length then Ok k else Err Index
element_index length (negsuc k) = Err Index

abbrev pub subscript_of : Cells → ℕ → Option (Term Slot) → Result ℕ Trap
subscript_of cells length None = Ok 0
subscript_of cells length (Some t) = value_of (environment cells) t >>= element_index length

abbrev pub index_of : Cells → SlotPlace → Result ℕ Trap
index_of cells place = subscript_of cells place.slot.length place.subscript

-- what an assignment writes is its effect
abbrev pub written : Result Written Trap → Result Effect Trap
written (Ok w) = Ok (Writes w.reached w.value)
written (Err trap) = Err trap

-- C 1990, 6.3.16: the place, then the value, and only then what the place holds
abbrev pub assigned : Cells → Target → Term Slot → Result Effect Trap
assigned cells target code =
    index_of cells target.place >>= λ k. value_of (environment cells) code >>= λ z. combined target.op (slot_cell cells target.place.slot k) z
    >>= λ y. Ok (Writes (record { slot = target.place.slot; index = k }) y)

-- what awaits the value of call n
abbrev pub awaited : Cells → ℕ → Option Target → Result (Option Await) Trap
awaited cells n None = Ok None
awaited cells n (Some target) = index_of cells target.place >>= λ k. Ok (Some (record { n = n; index = k }))

-- spawn n (Cilk 5.4 manual, `spawn`, `inlet`)
abbrev pub started : Cells → ℕ → Taker → ℕ → List (Term Slot) → Result Effect Trap
started cells n Nothing callee codes = values_of (environment cells) codes >>= λ zs. Ok (Starts receiver.TheVariants.Nothing callee zs)
started cells n (Into target) callee codes =
    index_of cells target.place >>= λ k. values_of (environment cells) codes
    >>= λ zs. Ok (Starts (receiver.TheVariants.Place target.op target.place.slot k n) callee zs)
started cells n (Through inlet others) callee codes =
    values_of (environment cells) codes >>= λ zs. values_of (environment cells) others
    >>= λ ys. Ok (Starts (receiver.TheVariants.Call n ys) callee zs)

abbrev pub effect_in : Cells → ℕ → Action → Result Effect Trap
effect_in cells n (Assign target code) = assigned cells target code
effect_in cells n (Call target callee codes) =
    awaited cells n target >>= λ w. values_of (environment cells) codes >>= λ zs. Ok (Enters w callee zs)
effect_in cells n (Spawn taker callee codes) = started cells n taker callee codes
effect_in cells n (Print format codes) = values_of (environment cells) codes >>= λ zs. Ok (Prints (printed format zs))
effect_in cells n (Locking what lock) = Ok (TurnsLock what lock)
effect_in cells n Null = Ok (Answers (pos 1))
effect_in cells n Break = Ok (Answers (pos 1))
effect_in cells n Continue = Ok (Answers (pos 1))
effect_in cells n (Test code) = value_of (environment cells) code >>= λ z. Ok (Answers z)
effect_in cells n Sync = Ok (Answers (pos 1))
effect_in cells n Abort = Ok Marks
effect_in cells n (Return code) = value_of (environment cells) code >>= λ z. Ok (Gives z)
effect_in cells n ReturnNothing = Ok (Gives (pos 0))
effect_in cells n Close = Ok (Gives (pos 0))
