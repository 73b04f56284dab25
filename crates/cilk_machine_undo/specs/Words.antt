-- What the records of the code mean.
use Rattle.std.specs.Prelude.{◌≡◌, ℕ, List, Bool, Option, None, Some}
use Rattle.cilk_machine_plan.specs.frame.Frames.{Activation}
use Rattle.cilk_machine_plan.specs.spawn.declared.taken.Taken.{Taken}
use Rattle.cilk_machine_plan.specs.agree.Outside as outside
use Rattle.cilk_machine_plan.specs.agree.Agrees.{MachineParts}
use Rattle.cilk_machine_plan.specs.declared.cell_writing.Writing.{Writing}
use Rattle.cilk_machine_plan.specs.declared.parts.Parts.{Parts}
use Rattle.cilk_machine_plan.specs.declared.spent.Spent.{Spent}
use Rattle.cilk_machine_plan.specs.declared.spent.Spent.TheVariants as spent
use Rattle.cilk_machine_plan.specs.PartWords.{machine_of}
use Rattle.cilk_machine_undo.specs.declared.undo.Ended.{Ended}
use Rattle.cilk_machine_undo.specs.declared.undo.Stood.{Stood}
use Rattle.cilk_machine_undo.specs.declared.undo.Undo as code
use Rattle.cilk_machine_undo.specs.declared.undo.Undo.TheVariants as kept
use Rattle.cilk_machine_undo.specs.Frames as change
use Rattle.cilk_machine_undo.specs.Frames.{Change}
use Rattle.cilk_machine_undo.specs.Undo.{Undo, Family, Beside, undone, acted}
use Rattle.cilk_machine_undo.specs.Undo as undo

abbrev pub went_by : Stood → Change
went_by s = change.went s.node s.boundary

abbrev pub cell_by : Writing → Beside
cell_by writing = undo.cell writing.reached writing.value

abbrev pub took_by : Writing → Change
took_by writing = change.took writing.reached writing.value

-- a delivery that was taken, if one was
abbrev pub family_by : Option Taken → Family
family_by None = undo.kept
family_by (Some t) = undo.took t.id t.delivery t.fate

-- an activation that was left, if one was
abbrev pub closed_by : ℕ → Option Activation → Undo
closed_by w None = acted w change.stays undo.kept undo.nothing
closed_by w (Some a) = acted w (change.closed a) undo.kept undo.nothing

-- and a cell of its caller held this
abbrev pub answered_by : ℕ → Option Activation → Writing → Undo
answered_by w None writing = acted w change.stays undo.kept undo.nothing
answered_by w (Some a) writing = acted w (change.answered a writing.reached writing.value) undo.kept (cell_by writing)

-- an instance that ended, if one did
abbrev pub ended_by : ℕ → List ℕ → Bool → Option Ended → Undo
ended_by w held sent None = acted w change.stays undo.kept undo.nothing
ended_by w held sent (Some s) = undo.ended w (record { frame = s.frame; remains = s.remains; sent = sent; held = held })

abbrev pub undo_by : code.Undo → Undo
undo_by (kept.Stayed w) = acted w change.stays undo.kept undo.nothing
undo_by (kept.Went s) = acted s.worker (went_by s) undo.kept undo.nothing
undo_by (kept.Wrote s writing) = acted s.worker (change.wrote s.node s.boundary writing.reached writing.value) undo.kept (cell_by writing)
undo_by (kept.Called s) = acted s.worker (change.called s.node s.boundary) undo.kept undo.nothing
undo_by (kept.Printed s count) = acted s.worker (went_by s) undo.kept (undo.printed count)
undo_by (kept.Turned s was lock) = acted s.worker (went_by s) undo.kept (undo.lock lock was)
undo_by (kept.Marked s ids) = acted s.worker (went_by s) (undo.marked ids.items) undo.nothing
undo_by (kept.Spawned s id) = undo.spawned s.worker id s.node s.boundary
undo_by (kept.Took taken writing w) = acted w (took_by writing) (family_by taken.value) (cell_by writing)
undo_by (kept.Opened taken w) = acted w change.opened (family_by taken.value) undo.nothing
undo_by (kept.Closed activation w) = closed_by w activation.value
undo_by (kept.Answered activation writing w) = answered_by w activation.value writing
undo_by (kept.Parked id w) = undo.parked w id
undo_by (kept.Ended gone w) = ended_by w gone.value.held.items gone.value.sent gone.value.ended
undo_by (kept.Popped w) = undo.popped w
undo_by (kept.Stolen w v) = undo.stolen w v

-- what is in a box once what was moved out of the machine is put into it
abbrev pub activation_with : Option Activation → Spent → Option Activation
activation_with o spent.Nothing = o
activation_with o (spent.Activation left) = left
activation_with o (spent.Instance f r) = o

abbrev pub ended_with : Option Ended → Spent → Option Ended
ended_with o spent.Nothing = o
ended_with o (spent.Activation left) = o
ended_with o (spent.Instance f None) = o
ended_with o (spent.Instance f (Some r)) = Some (record { frame = f; remains = r })

-- what the record means then
abbrev pub undo_with : code.Undo → Spent → Undo
undo_with (kept.Closed activation w) moved = closed_by w (activation_with activation.value moved)
undo_with (kept.Answered activation writing w) moved = answered_by w (activation_with activation.value moved) writing
undo_with (kept.Ended gone w) moved = ended_by w gone.value.held.items gone.value.sent (ended_with gone.value.ended moved)
undo_with u moved = undo_by u

-- the machine of these parts, whose program runs
abbrev pub machine_in : Parts → MachineParts
machine_in parts = machine_of parts outside.running

-- it is what the record makes of that of those
abbrev pub IsTakenBack : Undo → Parts → Parts → Type 0
IsTakenBack u parts now = machine_in now ≡ undone u (machine_in parts)
