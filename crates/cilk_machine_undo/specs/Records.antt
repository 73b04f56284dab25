-- The record of a step, read off the machine before it.
use Rattle.std.specs.Prelude.{ℕ, ℤ, Bool, false, ◌&&◌, not, List, [], length, Option, None, Some, slice_get, slice_index_or}
use Rattle.std.specs.List.{filter, range_with_len}
use Rattle.cilk_machine_plan.specs.frame.Frames.{Frame, top_of, left}
use Rattle.cilk_machine_plan.specs.spawn.declared.delivery.Delivery.{Delivery}
use Rattle.cilk_machine_plan.specs.spawn.Nodes.{Node, node_at, takes_value, is_live_below}
use Rattle.cilk_machine_plan.specs.Spends.{remains_in}
use Rattle.cilk_machine_plan.specs.agree.declared.lock.Lock.{Lock}
use Rattle.cilk_machine_plan.specs.agree.declared.lock.Lock.TheVariants.{Unset}
use Rattle.cilk_machine_plan.specs.agree.Laws.{sent}
use Rattle.cilk_machine_plan.specs.agree.Locks.{is_held_by}
use Rattle.cilk_machine_plan.specs.agree.Agrees.{MachineParts}
use Rattle.cilk_machine_plan.specs.declared.plan.Plan.{Plan}
use Rattle.cilk_machine_plan.specs.declared.plan.Plan.TheVariants as plan
use Rattle.cilk_machine_undo.specs.Frames.{Change, held_at}
use Rattle.cilk_machine_undo.specs.Frames as change
use Rattle.cilk_machine_undo.specs.Undo.{Undo, Family, acted, parked, spawned}
use Rattle.cilk_machine_undo.specs.Undo as undo

abbrev pub went_from : Frame → Change
went_from f = change.went (top_of f).node f.boundary

-- k takes this delivery, if one waits
abbrev pub took_of : Option Delivery → ℕ → List Node → Family
took_of None k ns = undo.kept
took_of (Some d) k ns = undo.took k d (node_at ns d.child).fate

abbrev pub taken_of : ℕ → List Node → Family
taken_of k ns = took_of (slice_get (node_at ns k).waiting 0) k ns

-- whether an `abort` in k marks i for the first time
abbrev pub is_new : List Node → ℕ → ℕ → Bool
is_new ns k i = is_live_below ns k i && not (node_at ns i).aborted

abbrev pub marked_by : ℕ → List Node → List ℕ
marked_by k ns = filter (is_new ns k) (range_with_len 0 (length ns))

abbrev pub locks_of : ℕ → List Lock → List ℕ
locks_of k locks = filter (λ i. is_held_by k (slice_index_or locks i Unset)) (range_with_len 0 (length locks))

-- whether the value of k goes to its parent
abbrev pub is_sent : List Node → ℕ → Bool
is_sent ns k = takes_value (node_at ns k).receiver && not (node_at ns k).aborted

-- an instance that sends its value ends without its receiver
abbrev pub undo_of : MachineParts → ℕ → Frame → Plan → Undo
undo_of m w f plan.Wait = acted w change.stays undo.kept undo.nothing
undo_of m w f plan.Park = parked w f.id
undo_of m w f plan.End =
    undo.ended w (record { frame = f; remains = remains_in m.nodes f.id; sent = false; held = locks_of f.id m.outside.locks })
undo_of m w f (plan.Trap kind n) = acted w change.stays undo.kept undo.nothing
undo_of m w f (plan.Take child n reached z) =
    let was : ℤ = held_at reached f m.outside.cells in
    acted w (change.took reached was) (taken_of f.id m.nodes) (undo.cell reached was)
undo_of m w f (plan.Enter child n inlet arguments) = acted w change.opened (taken_of f.id m.nodes) undo.nothing
undo_of m w f (plan.Go n to) = acted w (went_from f) undo.kept undo.nothing
undo_of m w f (plan.Write n reached z to) =
    let was : ℤ = held_at reached f m.outside.cells in
    acted w (change.wrote (top_of f).node f.boundary reached was) undo.kept (undo.cell reached was)
undo_of m w f (plan.Call n awaits callee arguments to) = acted w (change.called (top_of f).node f.boundary) undo.kept undo.nothing
undo_of m w f (plan.Leave n) = acted w (change.closed (top_of f)) undo.kept undo.nothing
undo_of m w f (plan.Answer n reached z) =
    let was : ℤ = held_at reached (left f) m.outside.cells in
    acted w (change.answered (top_of f) reached was) undo.kept (undo.cell reached was)
undo_of m w f (plan.Return n z) =
    undo.ended w (record { frame = f; remains = remains_in (sent m.nodes f.id z) f.id; sent = is_sent m.nodes f.id; held = [] })
undo_of m w f (plan.Spawn n receiver callee arguments to) = spawned w f.id (top_of f).node f.boundary
undo_of m w f (plan.Print n bytes to) = acted w (went_from f) undo.kept (undo.printed (length m.outside.output))
undo_of m w f (plan.TurnLock n lock now to) = acted w (went_from f) undo.kept (undo.lock lock (slice_index_or m.outside.locks lock Unset))
undo_of m w f (plan.Abort n to) = acted w (went_from f) (undo.marked (marked_by f.id m.nodes)) undo.nothing
