-- Actions with slots in place of declarations.
use Rattle.std.specs.Prelude.{Some, None, map, option_map}
use Rattle.cilk_model.specs.labelled.Term.{rename}
use Rattle.cilk_load_nodes.specs.declared.slot.Slot.{Slot}
use Rattle.cilk_model.specs.labelled.Labelled.{Declaration}
use Rattle.cilk_model.specs.labelled.Labelled as labelled
use Rattle.cilk_load_nodes.specs.declared.slot_place.SlotPlace.{SlotPlace}
use Rattle.cilk_load_nodes.specs.declared.target.Target.{Target}
use Rattle.cilk_load_nodes.specs.declared.taker.Taker.{Taker}
use Rattle.cilk_load_nodes.specs.declared.taker.Taker.TheVariants.{Nothing, Into, Through}
use Rattle.cilk_load_nodes.specs.declared.action.Action.{Action}
use Rattle.cilk_load_nodes.specs.declared.action.Action.TheVariants.{Assign, Call, Spawn, Print, Locking, Null, Break, Continue, Test, Sync, Abort}
use Rattle.cilk_load_nodes.specs.declared.action.Action.TheVariants.{Return, ReturnNothing, Close}

abbrev pub slotted_place : (Declaration → Slot) → labelled.Target → SlotPlace
slotted_place slots (labelled.variable d) = record { slot = slots d; subscript = None }
slotted_place slots (labelled.element d subscript) = record { slot = slots d; subscript = Some (rename slots subscript) }

abbrev pub slotted_target : (Declaration → Slot) → labelled.Into → Target
slotted_target slots what = record { op = what.op; place = slotted_place slots what.target }

abbrev pub slotted_taker : (Declaration → Slot) → labelled.Taker → Taker
slotted_taker slots labelled.nothing = Nothing
slotted_taker slots (labelled.into what) = Into (slotted_target slots what)
slotted_taker slots (labelled.through inlet others) = Through inlet (map (rename slots) others)

-- an action over slots
abbrev pub slotted : (Declaration → Slot) → labelled.Action → Action
slotted slots (labelled.assign what value) = Assign (slotted_target slots what) (rename slots value)
slotted slots (labelled.call what callee arguments) = Call (option_map (slotted_target slots) what) callee (map (rename slots) arguments)
slotted slots (labelled.spawn taker callee arguments) = Spawn (slotted_taker slots taker) callee (map (rename slots) arguments)
slotted slots (labelled.print format arguments) = Print format (map (rename slots) arguments)
slotted slots (labelled.locking what lock) = Locking what lock
slotted slots labelled.null = Null
slotted slots labelled.break_off = Break
slotted slots labelled.go_round = Continue
slotted slots (labelled.tests value) = Test (rename slots value)
slotted slots labelled.sync = Sync
slotted slots labelled.abort = Abort
slotted slots (labelled.return_with value) = Return (rename slots value)
slotted slots labelled.return_nothing = ReturnNothing
slotted slots labelled.close = Close
