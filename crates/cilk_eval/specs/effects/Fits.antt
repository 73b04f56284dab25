-- Actions whose slots lie in the cells that are there.
use Rattle.std.specs.Prelude.{⊤, Option, Some, None}
use Rattle.std.specs.List.{All}
use Rattle.cilk_eval.specs.labelled.Term.{Term}
use Rattle.cilk_eval.specs.nodes.declared.slot.Slot.{Slot}
use Rattle.cilk_eval.specs.nodes.Areas.{Sizes, LiesWithin, SlotsLieWithin}
use Rattle.cilk_eval.specs.nodes.declared.slot_place.SlotPlace.{SlotPlace}
use Rattle.cilk_eval.specs.nodes.declared.target.Target.{Target}
use Rattle.cilk_eval.specs.nodes.declared.taker.Taker.{Taker}
use Rattle.cilk_eval.specs.nodes.declared.taker.Taker.TheVariants.{Nothing, Into, Through}
use Rattle.cilk_eval.specs.nodes.declared.action.Action.{Action}
use Rattle.cilk_eval.specs.nodes.declared.action.Action.TheVariants.{Assign, Call, Spawn, Print, Locking, Null, Break, Continue, Test, Sync, Abort}
use Rattle.cilk_eval.specs.nodes.declared.action.Action.TheVariants.{Return, ReturnNothing, Close}

abbrev pub FitsSubscript : Sizes → Option (Term Slot) → Type 0
FitsSubscript sizes None = ⊤
FitsSubscript sizes (Some t) = SlotsLieWithin sizes t

pub record FitsPlace (sizes : Sizes) (place : SlotPlace) : Type 0 where
  pub slot : LiesWithin sizes place.slot
  pub subscript : FitsSubscript sizes place.subscript

abbrev pub FitsTarget : Sizes → Option Target → Type 0
FitsTarget sizes None = ⊤
FitsTarget sizes (Some target) = FitsPlace sizes target.place

abbrev pub FitsTaker : Sizes → Taker → Type 0
FitsTaker sizes Nothing = ⊤
FitsTaker sizes (Into target) = FitsPlace sizes target.place
FitsTaker sizes (Through inlet codes) = All (SlotsLieWithin sizes) codes

abbrev pub FitsAct : Sizes → Action → Type 0
FitsAct sizes (Assign target code) = FitsPlace sizes target.place × SlotsLieWithin sizes code
FitsAct sizes (Call target callee codes) = FitsTarget sizes target × All (SlotsLieWithin sizes) codes
FitsAct sizes (Spawn taker callee codes) = FitsTaker sizes taker × All (SlotsLieWithin sizes) codes
FitsAct sizes (Print format codes) = All (SlotsLieWithin sizes) codes
FitsAct sizes (Locking what lock) = ⊤
FitsAct sizes Null = ⊤
FitsAct sizes Break = ⊤
FitsAct sizes Continue = ⊤
FitsAct sizes (Test code) = SlotsLieWithin sizes code
FitsAct sizes Sync = ⊤
FitsAct sizes Abort = ⊤
FitsAct sizes (Return code) = SlotsLieWithin sizes code
FitsAct sizes ReturnNothing = ⊤
FitsAct sizes Close = ⊤
