-- What a plan changed, its record puts back.
use Rattle.std.proofs.Common.{◌≡◌, ◌≢◌, ℕ, ℤ, List, [], Option, Some, None, Bool, true, false, length, refl, sym, ap, ◌∙◌, ◌+◌, ◌++◌, map, slice_set}
use Rattle.std.specs.Prelude.{slice_index_or}
use Rattle.cilk_machine_plan.specs.model.Hands.{WorkerOf, IsWorker, hand_of, with_hand}
use Rattle.cilk_machine_plan.specs.frame.Frames.{Frame, top_of, gone_to, left, entered, stood}
use Rattle.cilk_machine_plan.specs.frame.Cells.{globals_put}
use Rattle.cilk_machine_plan.specs.frame.Begins.{starts_with}
use Rattle.cilk_machine_plan.specs.eval.declared.reached.Reached.{Reached}
use Rattle.cilk_machine_plan.specs.spawn.declared.fate.Fate.{Fate}
use Rattle.cilk_machine_plan.specs.spawn.declared.fate.Fate.TheVariants.{Returned, Aborted}
use Rattle.cilk_machine_plan.specs.frame.Kinds.{kind_of}
use Rattle.cilk_machine_plan.specs.spawn.Nodes.{Node, is_live, node_at, with_parked, taken, ended, marked_below}
use Rattle.cilk_machine_plan.specs.spawn.Revived.{revived}
use Rattle.cilk_machine_plan.specs.agree.Outside as outside
use Rattle.cilk_machine_plan.specs.agree.Outside.{Outside}
use Rattle.cilk_machine_plan.specs.agree.Agrees.{MachineParts}
use Rattle.cilk_machine_plan.specs.agree.Laws.{sent, released}
use Rattle.cilk_machine_plan.specs.agree.Actions.{past_spawn}
use Rattle.cilk_machine_plan.specs.agree.declared.lock.Lock.TheVariants.{Unset}
use Rattle.cilk_machine_plan.specs.declared.plan.Plan.TheVariants as plan
use Rattle.cilk_machine_plan.specs.Carried.{handed_back, awake_in, nodes_awake, started_as, outside_given}
use Rattle.cilk_machine_plan.proofs.spawn_laws.Trees.{live_there}
use Rattle.cilk_machine_plan.proofs.spawn_laws.Children.{parent_other}
use Rattle.cilk_machine_undo.specs.Frames.{Change, frame_before, held_at, put_at}
use Rattle.cilk_machine_undo.specs.Frames as change
use Rattle.cilk_machine_undo.specs.Undo.{Undo, Beside, Family, Gone, acted, undone, outside_before, family_before, held_again, asleep, unsent_to, living_on}
use Rattle.cilk_machine_undo.specs.Undo as undo
use Rattle.cilk_machine_undo.specs.Records.{went_from, taken_of, marked_by, locks_of, is_sent}
use Rattle.cilk_machine_plan.specs.Spends.{remains_in}
use Rattle.cilk_machine_undo.specs.Laws.{PlansAreUndone, PopsAreUndone, StealsAreUndone}
use Rattle.cilk_machine_undo.proofs.Frames.{jump-back, put-back, wrote-back, call-back, leave-back}
use Rattle.cilk_machine_undo.proofs.Outside.{same-back, cell-back, lock-back, printed-back, released-back}
use Rattle.cilk_machine_plan.proofs.sched_laws.Back.{hand-back, changes-back}
use Rattle.cilk_machine_undo.proofs.HandsBack.{hand-awake, awake-back, pushed-back, popped-back, stolen-back}
use Rattle.cilk_machine_undo.proofs.Trees as trees

machine-by : (m : MachineParts) (o : Outside) (ns : List Node) (places : List (WorkerOf Frame)) → o ≡ m.outside → ns ≡ m.nodes → places ≡ m.places
    → record { outside = o; nodes = ns; places = places } ≡ m
machine-by m o ns places a b c = λ i. record { outside = a i; nodes = b i; places = c i }

module _ (m : MachineParts) (w : ℕ) (f : Frame) (worker : IsWorker m.places w) (held : hand_of m.places w ≡ Some f)
    (runs : m.outside.outcome ≡ outside.running) where
  -- the frame stays in the hand
  acted-back : (g : Frame) (o : Outside) (ns : List Node) (x : Change) (family : Family) (beside : Beside) → frame_before x g ≡ f
      → family_before family ns ≡ m.nodes → outside_before beside o ≡ m.outside
      → undone (acted w x family beside) (record { outside = o; nodes = ns; places = with_hand m.places w (Some g) }) ≡ m
  acted-back g o ns x family beside a b c = machine-by m _ _ _ c b (changes-back m.places w worker f g (frame_before x) held a)

  went-back : (to : ℕ) → stood (top_of f).node f.boundary (gone_to to f) ≡ f
  went-back to = jump-back f to (gone_to to f).boundary

  -- the instance in the hand ends, once it has sent its value
  ended-back : (o : Outside) (ns : List Node) (fate : Fate) (parent : Option ℕ) (sent : Bool) (locks : List ℕ)
      → is_live (node_at ns f.id) ≡ true → (node_at ns f.id).parked ≡ None → (node_at ns f.id).parent ≡ parent
      → ((r : ℕ) → parent ≡ Some r → r ≢ f.id)
      → unsent_to sent parent f.id ns ≡ m.nodes → held_again f.id locks o ≡ m.outside
      → undone (undo.ended w (record { frame = f; remains = remains_in ns f.id; sent = sent; held = locks }))
      (handed_back m w o (ended ns f.id fate) parent) ≡ m
  ended-back o ns fate parent sent locks live free up apart unsent beside =
      let gone : List Node = ended ns f.id fate in
      let came = awake_in gone parent in
      let of : Gone = record { frame = f; remains = remains_in ns f.id; sent = sent; held = locks } in
      let again : List Node = revived (nodes_awake gone parent) f.id of.remains in
      let above : (node_at again f.id).parent ≡ parent = trees.revived-parent (nodes_awake gone parent) f.id f.id of.remains
      ∙ trees.awake-parent gone parent f.id ∙ trees.ended-parent ns f.id f.id fate ∙ up in
      let hand : hand_of (handed_back m w o gone parent).places w ≡ came = hand-awake m.places w worker came in
      let tree : living_on sent f.id (hand_of (handed_back m w o gone parent).places w) again ≡ m.nodes =
      (λ i. unsent_to sent (above i) f.id (asleep (above i) (hand i) again))
      ∙ ap (unsent_to sent parent f.id) (trees.asleep-back ns f.id fate live free parent apart) ∙ unsent in
      machine-by m _ _ _ beside tree (awake-back m.places w worker came f held)

  given-back : (z : ℤ) (parent : Option ℕ) → held_again f.id [] (outside_given m.outside z parent) ≡ m.outside
  given-back z None = λ i. record m.outside { outcome = sym runs i }
  given-back z (Some r) = λ i. record m.outside { outcome = sym runs i }

running : (o : Outside) → o.outcome ≡ outside.running → outside_before undo.nothing o ≡ o
running o runs = same-back o runs o.outcome

abbrev with_cells : Outside → Reached → ℤ → Outside
with_cells o r z = record o { cells = globals_put r.slot r.index z o.cells }

pub plan-back : PlansAreUndone
plan-back choice m w f body plan.Wait c = absurd c.ready.needs
plan-back choice m w f body plan.Park c =
    let there = live_there m.nodes f.id c.ready.acting.live in
    machine-by m _ _ _ (running m.outside c.runs) (trees.parked-back m.nodes f.id (Some f) c.ready.acting.free)
    (hand-back m.places w c.worker None (node_at (with_parked m.nodes f.id (Some f)) f.id).parked
    (trees.parked-there m.nodes f.id (Some f) there ∙ sym c.hand))
plan-back choice m w f body plan.End c =
    ended-back m w f c.worker c.hand c.runs (record m.outside { locks = map (released f.id) m.outside.locks }) m.nodes (Aborted choice)
    (node_at m.nodes f.id).parent false (locks_of f.id m.outside.locks) c.ready.acting.live c.ready.acting.free refl
    (λ r e. parent_other m.nodes f.id r c.tree e) (trees.unsent-not m.nodes f.id (node_at m.nodes f.id).parent) (released-back m.outside c.runs f.id)
plan-back choice m w f body (plan.Trap kind n) c =
    let trap = outside.trapped (kind_of kind) f.id n in
    acted-back m w f c.worker c.hand c.runs f (record m.outside { outcome = trap }) m.nodes change.stays undo.kept undo.nothing refl refl
    (same-back m.outside c.runs trap)
plan-back choice m w f body (plan.Take child n reached z) c =
    let was : ℤ = held_at reached f m.outside.cells in
    acted-back m w f c.worker c.hand c.runs (put_at reached z f) (with_cells m.outside reached z) (taken m.nodes f.id choice)
    (change.took reached was) (taken_of f.id m.nodes) (undo.cell reached was)
    (put-back reached.slot.area (reached.slot.offset + reached.index) z f m.outside.cells) (trees.taken-back m.nodes f.id choice)
    (cell-back m.outside c.runs reached z f)
plan-back choice m w f body (plan.Enter child n inlet arguments) c =
    let a = starts_with body arguments None in
    acted-back m w f c.worker c.hand c.runs (entered a f) m.outside (taken m.nodes f.id choice) change.opened (taken_of f.id m.nodes) undo.nothing
    (call-back f a) (trees.taken-back m.nodes f.id choice) (running m.outside c.runs)
plan-back choice m w f body (plan.Go n to) c =
    acted-back m w f c.worker c.hand c.runs (gone_to to f) m.outside m.nodes (went_from f) undo.kept undo.nothing
    (went-back m w f c.worker c.hand c.runs to) refl (running m.outside c.runs)
plan-back choice m w f body (plan.Write n reached z to) c =
    let was : ℤ = held_at reached f m.outside.cells in
    acted-back m w f c.worker c.hand c.runs (put_at reached z (gone_to to f)) (with_cells m.outside reached z) m.nodes
    (change.wrote (top_of f).node f.boundary reached was) undo.kept (undo.cell reached was) (wrote-back f reached z to m.outside.cells) refl
    (cell-back m.outside c.runs reached z f)
plan-back choice m w f body (plan.Call n awaits callee arguments to) c =
    let g = gone_to to f in
    let a = starts_with body arguments awaits in
    acted-back m w f c.worker c.hand c.runs (entered a g) m.outside m.nodes (change.called (top_of f).node f.boundary) undo.kept undo.nothing
    (ap (stood (top_of f).node f.boundary) (call-back g a) ∙ went-back m w f c.worker c.hand c.runs to) refl (running m.outside c.runs)
plan-back choice m w f body (plan.Leave n) c =
    acted-back m w f c.worker c.hand c.runs (left f) m.outside m.nodes (change.closed (top_of f)) undo.kept undo.nothing (leave-back f c.some) refl
    (running m.outside c.runs)
plan-back choice m w f body (plan.Answer n reached z) c =
    let was : ℤ = held_at reached (left f) m.outside.cells in
    acted-back m w f c.worker c.hand c.runs (put_at reached z (left f)) (with_cells m.outside reached z) m.nodes
    (change.answered (top_of f) reached was) undo.kept (undo.cell reached was)
    (ap (entered (top_of f)) (put-back reached.slot.area (reached.slot.offset + reached.index) z (left f) m.outside.cells) ∙ leave-back f c.some) refl
    (cell-back m.outside c.runs reached z (left f))
plan-back choice m w f body (plan.Return n z) c =
    let parent = (node_at m.nodes f.id).parent in
    ended-back m w f c.worker c.hand c.runs (outside_given m.outside z parent) (sent m.nodes f.id z) Returned parent (is_sent m.nodes f.id) []
    c.ready.needs.acting.live c.ready.needs.acting.free (trees.sent-parent m.nodes f.id f.id z) (λ r e. parent_other m.nodes f.id r c.tree e)
    (trees.sent-back m.nodes f.id z c.tree) (given-back m w f c.worker c.hand c.runs z parent)
plan-back choice m w f body (plan.Spawn n receiver callee arguments to) c =
    machine-by m _ _ _ (running m.outside c.runs) (trees.born-back m.nodes f.id callee receiver (live_there m.nodes f.id c.ready.acting.live))
    (pushed-back m.places w c.worker f (past_spawn to f) (started_as body (length m.nodes) arguments) (stood (top_of f).node f.boundary) c.hand
    (jump-back f to true))
plan-back choice m w f body (plan.Print n bytes to) c =
    acted-back m w f c.worker c.hand c.runs (gone_to to f) (record m.outside { output = m.outside.output ++ bytes }) m.nodes (went_from f) undo.kept
    (undo.printed (length m.outside.output)) (went-back m w f c.worker c.hand c.runs to) refl (printed-back m.outside c.runs bytes)
plan-back choice m w f body (plan.TurnLock n lock now to) c =
    acted-back m w f c.worker c.hand c.runs (gone_to to f) (record m.outside { locks = slice_set m.outside.locks lock now }) m.nodes (went_from f) undo.kept
    (undo.lock lock (slice_index_or m.outside.locks lock Unset)) (went-back m w f c.worker c.hand c.runs to) refl (lock-back m.outside c.runs lock now)
plan-back choice m w f body (plan.Abort n to) c =
    acted-back m w f c.worker c.hand c.runs (gone_to to f) m.outside (marked_below m.nodes f.id) (went_from f) (undo.marked (marked_by f.id m.nodes))
    undo.nothing (went-back m w f c.worker c.hand c.runs to) (trees.marks-back m.nodes f.id) (running m.outside c.runs)

pub pops-back : PopsAreUndone
pops-back m w worker empty runs = machine-by m _ m.nodes _ (running m.outside runs) refl (popped-back m.places w worker empty)

pub steals-back : StealsAreUndone
steals-back m w v worker victim other empty runs = machine-by m _ m.nodes _ (running m.outside runs) refl (stolen-back m.places w worker v victim other empty)
