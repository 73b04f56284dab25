-- What a choice did, by the places of instances.
use Rattle.std.specs.Prelude.{ℕ, zero, suc, ◌-◌, Bool, true, false, if◌then◌else◌, nat_lt, List, Option, Some, None, length, unwrap_or}
use Rattle.cilk_log_replay.specs.machine.syntax.Tree.{Program}
use Rattle.cilk_log_replay.specs.machine.labelled.Bodies.{label}
use Rattle.cilk_log_replay.specs.machine.labelled.Labelled.{Action}
use Rattle.cilk_log_replay.specs.machine.model.Change.{leaves, is_sync}
use Rattle.cilk_log_replay.specs.machine.spawn.Nodes.{Node, node_at}
use Rattle.cilk_log_replay.specs.machine.plans.declared.did.Did.{Did}
use Rattle.cilk_log_replay.specs.machine.plans.declared.did.Did.TheVariants.{Moved, Acted, Spawned, Delivered, Returned, Ended, Trapped}
use Rattle.cilk_races.specs.Acts.{act_of, is_call, goes_through, is_so}
use Rattle.cilk_races.specs.declared.cell.Cell.{Cell}
use Rattle.cilk_races.specs.declared.motion.Motion.{Motion}
use Rattle.cilk_races.specs.Cells.{cell_at, next}

-- what was not born goes by the path of the root
abbrev pub place_among : ℕ → ℕ → ℕ
place_among count i = if nat_lt i count then i else 0

-- the bodies of an instance that are left without the top one
abbrev pub fewer : ℕ → ℕ
fewer above = above - 1

abbrev pub inlet_left : ℕ → Option ℕ → Option ℕ
inlet_left zero taking = None
inlet_left (suc zero) taking = None
inlet_left (suc (suc n)) taking = taking

abbrev pub moved : ℕ → Option ℕ → Bool → Bool → ℕ → Option ℕ → Motion
moved place taking joins bears above inlet =
    record { place = place; taking = taking; joins = joins; bears = bears; above = above; inlet = inlet }

-- an action that leaves its body, or calls, or does neither, and may be a `sync`
abbrev pub acted_by : Bool → Bool → Bool → Cell → ℕ → Motion
acted_by true calls waits c place = moved place c.taking waits false (fewer c.above) (inlet_left c.above c.taking)
acted_by false true waits c place = moved place c.taking waits false (next c.above) c.taking
acted_by false false waits c place = moved place c.taking waits false c.above c.taking

abbrev pub acted : Option Action → List Cell → ℕ → Motion
acted act cells place = acted_by (is_so leaves act) (is_so is_call act) (is_so is_sync act) (cell_at cells place) place

-- the instance goes on as it was, above its procedure's own body
abbrev pub staying : Cell → ℕ → Option ℕ → Bool → Bool → Motion
staying c place taking joins bears = moved place taking joins bears c.above c.taking

abbrev pub born : List Cell → ℕ → Motion
born cells place = staying (cell_at cells place) place None false true

abbrev pub ended : List Cell → ℕ → Motion
ended cells place = staying (cell_at cells place) place None true false

abbrev pub trapped : List Cell → ℕ → Motion
trapped cells place = staying (cell_at cells place) place (cell_at cells place).taking false false

abbrev pub delivered_by : Bool → Cell → ℕ → ℕ → Motion
delivered_by true c place child = moved place (Some child) false false (next c.above) (Some child)
delivered_by false c place child = staying c place (Some child) false false

abbrev pub taker_of : List Cell → ℕ → ℕ
taker_of cells child = unwrap_or (cell_at cells child).parent 0

abbrev pub delivered : Option Action → List Cell → ℕ → Motion
delivered act cells child = delivered_by (is_so goes_through act) (cell_at cells (taker_of cells child)) (taker_of cells child) child

abbrev pub motion_of : Program → List Node → List Cell → Did → Option Motion
motion_of program ns cells Moved = None
motion_of program ns cells (Acted id n) = Some (acted (act_of (label program) n) cells (place_among (length cells) id))
motion_of program ns cells (Spawned id n) = Some (born cells (unwrap_or (node_at ns (length cells)).parent 0))
motion_of program ns cells (Delivered id n) = Some (delivered (act_of (label program) n) cells (place_among (length cells) id))
motion_of program ns cells (Returned id n) = Some (ended cells (place_among (length cells) id))
motion_of program ns cells (Ended id) = Some (ended cells (place_among (length cells) id))
motion_of program ns cells (Trapped kind id n) = Some (trapped cells (place_among (length cells) id))
