-- What has to be there for a step to be taken back is there behind it.
use Rattle.std.proofs.Common.{◌≡◌, ◌≢◌, ◌<◌, ◌≤◌, ◌+◌, ◌-◌, ◌++◌, ◌∷◌, [], ℕ, ℤ, zero, suc, Bool, true, false, List, length, Option, Some, None}
use Rattle.std.proofs.Common.{refl, sym, ap, ◌∙◌, subst, arith, slice_set, length-set, length-append, length-take-le, slice_get}
use Rattle.std.proofs.Common.{get_or-set_same, get_or-set_other, if◌then◌else◌}
use Rattle.std.specs.Prelude.{slice_index_or, drop}
use Rattle.std.proofs.lemmas.Bool.{and_parts}
use Rattle.std.proofs.Math.Seq.{get_or-append_seam}
use Rattle.cilk_machine_plan.specs.nodes.declared.area.Area.{Area}
use Rattle.cilk_machine_plan.specs.nodes.declared.area.Area.TheVariants.{Own, Outer, Global}
use Rattle.cilk_machine_plan.specs.nodes.declared.slot.Slot.{Slot}
use Rattle.cilk_machine_plan.specs.nodes.Areas.{area_cells}
use Rattle.cilk_machine_plan.specs.model.Hands.{WorkerOf, IsWorker, hand_of, deque_of, with_hand, with_deque, top_of, bottom_of, below_top, above_bottom}
use Rattle.cilk_machine_plan.specs.frame.Frames as frames
use Rattle.cilk_machine_plan.specs.frame.Frames.{Frame, Activation, no_activation, depth, top_place, gone_to, entered, left}
use Rattle.cilk_machine_plan.specs.frame.Cells.{put_in, globals_in, frame_put, globals_put}
use Rattle.cilk_machine_plan.specs.frame.Reads.{lent}
use Rattle.cilk_machine_plan.specs.frame.Begins.{starts_with}
use Rattle.cilk_machine_plan.specs.spawn.declared.delivery.Delivery.{Delivery}
use Rattle.cilk_machine_plan.specs.spawn.declared.fate.Fate.{Fate}
use Rattle.cilk_machine_plan.specs.spawn.declared.fate.Fate.TheVariants.{Returned, Aborted}
use Rattle.cilk_machine_plan.specs.frame.declared.receiver.Receiver.{Receiver}
use Rattle.cilk_machine_plan.specs.frame.declared.receiver.Receiver.TheVariants.{Nothing}
use Rattle.cilk_machine_plan.specs.frame.Kinds.{kind_of}
use Rattle.cilk_machine_plan.specs.spawn.Nodes.{Node, IsTree, no_node, node_at, lives, is_live, new_child, with_child, with_waiting}
use Rattle.cilk_machine_plan.specs.spawn.Nodes.{after_taking, value_taken, with_parked, taken, ended, marked_below, has_live_child, delivered, IsBelow}
use Rattle.cilk_machine_plan.specs.spawn.Dropped.{unborn}
use Rattle.cilk_machine_plan.specs.spawn.Revived.{alive, revived}
use Rattle.cilk_machine_plan.specs.agree.Outside as outside
use Rattle.cilk_machine_plan.specs.agree.Outside.{Outside}
use Rattle.cilk_machine_plan.specs.agree.Agrees.{MachineParts}
use Rattle.cilk_machine_plan.specs.agree.Laws.{sent, can_go_on}
use Rattle.cilk_machine_plan.specs.declared.plan.Plan.TheVariants as plan
use Rattle.cilk_machine_plan.specs.Ready.{Fits}
use Rattle.cilk_machine_plan.specs.Carried.{awake_in, nodes_awake, places_awake, handed_back, outside_given}
use Rattle.cilk_machine_plan.proofs.sched_laws.Seats.{hand-same, workers-of-hand, workers-of-deque}
use Rattle.cilk_machine_plan.proofs.spawn_laws.Lists.{those_pass}
use Rattle.cilk_machine_plan.proofs.spawn_laws.Trees.{live_there}
use Rattle.cilk_machine_plan.proofs.spawn_laws.Grown.{tree_child}
use Rattle.cilk_machine_plan.proofs.spawn_laws.Children.{parent_in, parent_other, tree_parked, tree_delivered}
use Rattle.cilk_machine_plan.proofs.spawn_laws.Taking.{still_lives, sender_there}
use Rattle.cilk_machine_plan.proofs.spawn_laws.Marks.{marked_length}
use Rattle.cilk_machine_plan.proofs.spawn_laws.Childless.{no_child}
use Rattle.cilk_machine_undo.specs.Frames as change
use Rattle.cilk_machine_undo.specs.Frames.{Change, held_at}
use Rattle.cilk_machine_undo.specs.Undo.{Family, family_before, asleep, unsent_to}
use Rattle.cilk_machine_undo.specs.Undo as undo
use Rattle.cilk_machine_undo.specs.Records.{took_of, taken_of, is_new, marked_by, locks_of, is_sent, went_from}
use Rattle.cilk_machine_plan.specs.Spends.{remains_in}
use Rattle.cilk_machine_undo.specs.Able.{FrameAllows, TreeAllows, CanUntake, CanUnmark, CanActBack, CanUnbear, CanPark, CanUnsend, CanRevive}
use Rattle.cilk_machine_undo.specs.Laws.{PlansCanBeUndone, PopsCanBeUndone, StealsCanBeUndone}
use Rattle.cilk_machine_undo.proofs.HandsBack.{there-after, hand-awake}
use Rattle.cilk_machine_undo.proofs.Trees as trees

-- a write leaves as many cells as there were
size-at : (xs : List Activation) (at k : ℕ) (z : ℤ)
    → (let there : Activation = record (slice_index_or xs at no_activation) { cells = slice_set (slice_index_or xs at no_activation).cells k z } in
    length (slice_index_or (slice_set xs at there) at no_activation).cells)
    ≡ length (slice_index_or xs at no_activation).cells
size-at [] at k z = refl
size-at (x ∷ xs) zero k z = length-set x.cells k z
size-at (x ∷ xs) (suc at) k z = size-at xs at k z

depth-put : (area : Area) (k : ℕ) (z : ℤ) (f : Frame) → depth (put_in area k z f) ≡ depth f
depth-put Own k z f = length-set f.activations (top_place f) _
depth-put Outer k z f = length-set f.activations 0 _
depth-put Global k z f = refl

size-put : (area : Area) (k : ℕ) (z : ℤ) (f : Frame) (cells : List ℤ)
    → length (area_cells (lent (put_in area k z f) (globals_in area k z cells) true) area) ≡ length (area_cells (lent f cells true) area)
size-put Own k z f cells =
    ap (λ at. length (frames.activation_at (put_in Own k z f) at).cells) (ap (λ n. n - 1) (depth-put Own k z f)) ∙ size-at f.activations (top_place f) k z
size-put Outer k z f cells = size-at f.activations 0 k z
size-put Global k z f cells = length-set cells k z

fits-put : (slot : Slot) (index : ℕ) (z : ℤ) (f : Frame) (cells : List ℤ) → Fits slot index f cells
    → Fits slot index (frame_put slot index z f) (globals_put slot index z cells)
fits-put slot index z f cells h = record {
  numbered = h.numbered;
  there = subst (λ n. slot.offset + index < n) (sym (size-put slot.area (slot.offset + index) z f cells)) h.there;
}

depth-gone : (to : ℕ) (f : Frame) → depth (gone_to to f) ≡ depth f
depth-gone to f = length-set f.activations (top_place f) _

deeper : (a : Activation) (f : Frame) → 0 < depth f → 1 < depth (entered a f)
deeper a f some = let n = length-append f.activations (a ∷ []) in omega arith

still-deep : (f : Frame) → 1 < depth f → 0 < depth (left f)
still-deep f some = let n = length-take-le (top_place f) f.activations (omega arith) in omega arith

less-deep : (f : Frame) → 0 < depth f → depth f ≤ 256 → depth (left f) < 256
less-deep f some limit = let n = length-take-le (top_place f) f.activations (omega arith) in omega arith

module _ (ns : List Node) (t : IsTree ns) (k : ℕ) (live : is_live (node_at ns k) ≡ true) where
  -- a delivery that was taken
  lives-taken : (choice : ℕ) (d : Delivery) (ds : List Delivery) (i : ℕ)
      → is_live (node_at (slice_set (with_waiting ns k ds) d.child (record (node_at (with_waiting ns k ds) d.child) {
        fate = after_taking choice (node_at (with_waiting ns k ds) d.child).fate;
      })) i)
      ≡ is_live (node_at ns i)
  lives-taken choice d ds i =
      let less : List Node = with_waiting ns k ds in
      trees.set-part is_live less d.child i (record (node_at less d.child) { fate = after_taking choice (node_at less d.child).fate })
      (still_lives choice (node_at less d.child).fate)
      ∙ trees.set-part is_live ns k i (record (node_at ns k) { waiting = ds }) refl

  untakes-by : (choice : ℕ) (o : Option Delivery) → slice_get (node_at ns k).waiting 0 ≡ o → TreeAllows (took_of o k ns) (taken ns k choice)
  untakes-by choice None e = tt
  untakes-by choice (Some d) e =
      let ds = drop 1 (node_at ns k).waiting in
      let less : List Node = with_waiting ns k ds in
      let now : List Node = slice_set less d.child (record (node_at less d.child) { fate = after_taking choice (node_at less d.child).fate }) in
      let is : now ≡ taken ns k choice = ap (λ o. value_taken o choice less) (sym e) in
      let size : length now ≡ length ns = length-set less d.child _ ∙ length-set ns k (record (node_at ns k) { waiting = ds }) in
      subst (λ ms. CanUntake ms k d (node_at ns d.child).fate) is (record {
        live = lives-taken choice d ds k ∙ live;
        there = subst (λ n. d.child < n) (sym size) (sender_there ns k t d e);
        alike = sym (lives-taken choice d ds d.child);
        tree = subst IsTree (sym ((λ j. family_before (took_of (sym e j) k ns) (is j)) ∙ trees.taken-back ns k choice)) t;
      })

  pub untakes : (choice : ℕ) → TreeAllows (taken_of k ns) (taken ns k choice)
  untakes choice = untakes-by choice (slice_get (node_at ns k).waiting 0) refl

  pub unmarks : CanUnmark (marked_below ns k) (marked_by k ns)
  unmarks = record {
    there = λ i d h.
        let new = and_parts _ _ (those_pass (is_new ns k) (length ns) i d h) in
        let lives = and_parts _ _ new.0 in
        subst (λ n. slice_index_or (marked_by k ns) i d < n) (sym (marked_length ns k)) (live_there ns (slice_index_or (marked_by k ns) i d) lives.0);
    tree = subst IsTree (sym (trees.marks-back ns k)) t;
  }

  -- a child that was born
  module _ (callee : ℕ) (receiver : Receiver) where
    abbrev grown : Node
    grown = record (node_at ns k) { children = (node_at ns k).children + 1 }

    abbrev now : List Node
    now = with_child ns k callee receiver

    size : length now ≡ length ns + 1
    size = length-append (slice_set ns k grown) (new_child ns k callee receiver ∷ []) ∙ ap (λ n. n + 1) (length-set ns k grown)

    newest : node_at now (length now - 1) ≡ new_child ns k callee receiver
    newest =
        let at : length now - 1 ≡ length (slice_set ns k grown) = omega (arith, size, length-set ns k grown) in
        ap (node_at now) at ∙ get_or-append_seam (slice_set ns k grown) (new_child ns k callee receiver) [] no_node

    none-below : (j : ℕ) → is_live (node_at now j) ≡ true → (node_at now j).parent ≡ Some (length now - 1) → ⊥
    none-below j lives up =
        let tree = tree_child ns k callee receiver live t in
        let low : length now - 1 < j = subst (λ (o : Option ℕ). IsBelow o j) up (tree.below j) in
        let inside = live_there now j lives in
        omega (arith, inside, low)

    pub unbears : (w : ℕ) (m : MachineParts) → IsWorker m.places w → m.nodes ≡ now → CanUnbear w k m
    unbears w m worker is = record {
      worker = worker;
      above = subst (λ (ms : List Node). k < length ms - 1) (sym is) (let there = live_there ns k live in omega (arith, there, size));
      live = ap (λ (ms : List Node). is_live (node_at ms (length ms - 1))) is ∙ ap is_live newest;
      childless = ap (λ (ms : List Node). has_live_child ms (length ms - 1)) is
          ∙ no_child now (length now - 1) none-below;
      free = ap (λ (ms : List Node). (node_at ms (length ms - 1)).parked) is ∙ ap (λ (n : Node). n.parked) newest;
      tree = subst IsTree (sym (ap (unborn k) is ∙ trees.born-back ns k callee receiver (live_there ns k live))) t;
    }

awake-length : (ns : List Node) (r : ℕ) (can : Bool) → length (if can then with_parked ns r None else ns) ≡ length ns
awake-length ns r true = length-set ns r (record (node_at ns r) { parked = None })
awake-length ns r false = refl

awake-lives : (ns : List Node) (r i : ℕ) (can : Bool) → is_live (node_at (if can then with_parked ns r None else ns) i) ≡ is_live (node_at ns i)
awake-lives ns r i true = trees.set-part is_live ns r i (record (node_at ns r) { parked = None }) refl
awake-lives ns r i false = refl

lengths-awake : (ns : List Node) (o : Option ℕ) → length (nodes_awake ns o) ≡ length ns
lengths-awake ns None = refl
lengths-awake ns (Some r) = awake-length ns r (can_go_on ns r)

lives-awake : (ns : List Node) (o : Option ℕ) (i : ℕ) → is_live (node_at (nodes_awake ns o) i) ≡ is_live (node_at ns i)
lives-awake ns None i = refl
lives-awake ns (Some r) i = awake-lives ns r i (can_go_on ns r)

-- who came to the hand
came-by : (can : Bool) (o : Option Frame) (g : Frame) → (if can then o else None) ≡ Some g → (can ≡ true) × (o ≡ Some g)
came-by true o g e = (refl, e)
came-by false o g e = let no : None ≡ Some g = e in cc

-- an instance that ended, once it had sent its value
module _ (m : MachineParts) (w : ℕ) (f : Frame) (worker : IsWorker m.places w) (ns : List Node) (fate : Fate) (parent : Option ℕ) (t : IsTree ns)
    (live : is_live (node_at ns f.id) ≡ true) (free : (node_at ns f.id).parked ≡ None) (up : (node_at ns f.id).parent ≡ parent)
    (over : lives fate ≡ false) (outlives : (r : ℕ) → parent ≡ Some r → is_live (node_at (ended ns f.id fate) r) ≡ true)
    (own : (r : ℕ) (g : Frame) → parent ≡ Some r → (node_at ns r).parked ≡ Some g → g.id ≡ r) where
  abbrev k : ℕ
  k = f.id

  abbrev gone : List Node
  gone = ended ns k fate

  abbrev ended_node : Node
  ended_node = record (node_at ns k) { fate = fate; receiver = Nothing; waiting = []; parked = None }

  abbrev again : List Node → List Node
  again ms = revived ms k (remains_in ns k)

  abbrev back : List Node
  back = again (nodes_awake gone parent)

  abbrev places : List (WorkerOf Frame)
  places = places_awake (with_hand m.places w None) w (awake_in gone parent)

  within : k < length ns
  within = live_there ns k live

  apart : (r : ℕ) → parent ≡ Some r → r ≢ k
  apart r e = parent_other ns k r t (up ∙ e)

  gone-size : length gone ≡ length ns
  gone-size = length-set ns k ended_node

  dead : is_live (node_at (nodes_awake gone parent) k) ≡ false
  dead = lives-awake gone parent k ∙ ap is_live (get_or-set_same ns k ended_node no_node within) ∙ over

  tree-by : (r : ℕ) (can : Bool) → r < length ns → IsTree (again (if can then with_parked gone r None else gone))
  tree-by r true there = subst IsTree (sym (trees.again-awake ns k fate live free r)) (tree_parked ns r None t there)
  tree-by r false there = subst IsTree (sym (trees.ended-back ns k fate live free)) t

  tree-back : (o : Option ℕ) → parent ≡ o → IsTree (again (nodes_awake gone o))
  tree-back None e = subst IsTree (sym (trees.ended-back ns k fate live free)) t
  tree-back (Some r) e = tree-by r (can_go_on gone r) (parent_in ns k r t (up ∙ e))

  above : (node_at back k).parent ≡ parent
  above =
      trees.revived-parent (nodes_awake gone parent) k k (remains_in ns k) ∙ trees.awake-parent gone parent k ∙ trees.ended-parent ns k k fate ∙ up

  hand : hand_of places w ≡ awake_in gone parent
  hand = hand-awake m.places w worker (awake_in gone parent)

  gone-other : (r : ℕ) → r ≢ k → node_at gone r ≡ node_at ns r
  gone-other r ne = get_or-set_other ns k r ended_node no_node ne

  parks-by : (r : ℕ) (g : Frame) → parent ≡ Some r → awake_in gone (Some r) ≡ Some g → CanPark (again (nodes_awake gone (Some r))) r g
  parks-by r g e came =
      let c = came-by (can_go_on gone r) (node_at gone r).parked g came in
      let is : again (nodes_awake gone (Some r)) ≡ with_parked ns r None =
      ap (λ can. again (if can then with_parked gone r None else gone)) c.0 ∙ trees.again-awake ns k fate live free r in
      let other = gone-other r (apart r e) in
      subst (λ ms. CanPark ms r g) (sym is) (record {
        own = own r g e (ap (λ (n : Node). n.parked) (sym other) ∙ c.1);
        live = trees.set-part is_live ns r r (record (node_at ns r) { parked = None }) refl ∙ ap is_live (sym other) ∙ outlives r e;
        free = trees.parked-there ns r None (parent_in ns k r t (up ∙ e));
      })

  parks : (r : ℕ) (g : Frame) → (node_at back k).parent ≡ Some r → hand_of places w ≡ Some g → CanPark back r g
  parks r g is held =
      let e : parent ≡ Some r = sym above ∙ is in
      subst (λ o. CanPark (again (nodes_awake gone o)) r g) (sym e)
      (parks-by r g e (ap (awake_in gone) (sym e) ∙ sym hand ∙ held))

  asleep-is : asleep (node_at back k).parent (hand_of places w) back ≡ ns
  asleep-is = (λ i. asleep (above i) (hand i) back) ∙ trees.asleep-back ns k fate live free parent apart

  module _ (sent : Bool) (unsent_is : unsent_to sent parent k ns ≡ m.nodes) (tree : IsTree m.nodes) where
    unsends : sent ≡ true → (p : ℕ) → (node_at back k).parent ≡ Some p → CanUnsend (asleep (node_at back k).parent (hand_of places w) back) p k
    unsends does p is =
        let e : parent ≡ Some p = sym above ∙ is in
        subst (λ ms. CanUnsend ms p k) (sym asleep-is) (record {
          parent = ap is_live (sym (gone-other p (apart p e))) ∙ outlives p e;
          child = live;
          tree = subst IsTree (sym ((λ i. unsent_to (sym does i) (sym e i) k ns) ∙ unsent_is)) tree;
        })

    pub revives : (o : Outside) (locks : List ℕ)
        → CanRevive w (record { frame = f; remains = remains_in ns k; sent = sent; held = locks }) (handed_back m w o (ended ns f.id fate) parent)
    revives o locks = record {
      there = subst (λ n. k < n) (sym (lengths-awake gone parent ∙ gone-size)) within;
      dead = dead;
      tree = tree-back parent refl;
      lives_on = record {
        worker = there-after m.places w worker places (awake-workers (awake_in gone parent));
        there = subst (λ n. k < n)
            (sym (length-set (nodes_awake gone parent) k (alive (remains_in ns k) (node_at (nodes_awake gone parent) k))
            ∙ lengths-awake gone parent ∙ gone-size))
            within;
        parks = parks;
        unsends = unsends;
      };
    }
      where
        awake-workers : (came : Option Frame) → length (places_awake (with_hand m.places w None) w came) ≡ length m.places
        awake-workers None = workers-of-hand m.places w None
        awake-workers (Some g) = workers-of-hand (with_hand m.places w None) w (Some g) ∙ workers-of-hand m.places w None

either-tree : (ns more : List Node) (does : Bool) → IsTree ns → IsTree more → IsTree (if does then more else ns)
either-tree ns more true a b = b
either-tree ns more false a b = a

tree-sent : (ns : List Node) (k : ℕ) (z : ℤ) → IsTree ns → IsTree (sent ns k z)
tree-sent ns k z t = either-tree ns (delivered ns k z) (is_sent ns k) t (tree_delivered ns k z t)

module _ (m : MachineParts) (w : ℕ) (worker : IsWorker m.places w) where
  -- the frame stays in the hand, as g
  acts-back : (g : Frame) (o : Outside) (ns : List Node) (x : Change) (family : Family) → FrameAllows x g o.cells → TreeAllows family ns
      → CanActBack w x family (record { outside = o; nodes = ns; places = with_hand m.places w (Some g) })
  acts-back g o ns x family frame tree = record {
    worker = there-after m.places w worker (with_hand m.places w (Some g)) (workers-of-hand m.places w (Some g));
    frame = g;
    hand = hand-same m.places w (Some g) worker;
    allows = frame;
    tree = tree;
  }

pub plan-can : PlansCanBeUndone
plan-can choice m w f body plan.Wait c = absurd c.ready.needs
plan-can choice m w f body plan.Park c = record {
  worker = there-after m.places w c.worker (with_hand m.places w None) (workers-of-hand m.places w None);
  empty = hand-same m.places w None c.worker;
  live = trees.set-part is_live m.nodes f.id f.id (record (node_at m.nodes f.id) { parked = Some f }) refl ∙ c.ready.acting.live;
}
plan-can choice m w f body plan.End c =
    revives m w f c.worker m.nodes (Aborted choice) (node_at m.nodes f.id).parent c.tree c.ready.acting.live c.ready.acting.free refl refl
    c.ready.needs.outlives (λ r g up. c.own r g (c.tree.outlives f.id r up c.ready.acting.live)) false
    (trees.unsent-not m.nodes f.id (node_at m.nodes f.id).parent) c.tree _ (locks_of f.id m.outside.locks)
plan-can choice m w f body (plan.Trap kind n) c =
    acts-back m w c.worker f (record m.outside { outcome = outside.trapped (kind_of kind) f.id n }) m.nodes change.stays undo.kept tt tt
plan-can choice m w f body (plan.Take child n reached z) c =
    acts-back m w c.worker (frame_put reached.slot reached.index z f) (record m.outside { cells = globals_put reached.slot reached.index z m.outside.cells })
    (taken m.nodes f.id choice) (change.took reached (held_at reached f m.outside.cells)) (taken_of f.id m.nodes)
    (fits-put reached.slot reached.index z f m.outside.cells c.ready.needs) (untakes m.nodes c.tree f.id c.ready.acting.live choice)
plan-can choice m w f body (plan.Enter child n inlet arguments) c =
    acts-back m w c.worker (entered (starts_with body arguments None) f) m.outside (taken m.nodes f.id choice) change.opened (taken_of f.id m.nodes)
    (deeper (starts_with body arguments None) f c.some) (untakes m.nodes c.tree f.id c.ready.acting.live choice)
plan-can choice m w f body (plan.Go n to) c = acts-back m w c.worker (gone_to to f) m.outside m.nodes (went_from f) undo.kept tt tt
plan-can choice m w f body (plan.Write n reached z to) c =
    acts-back m w c.worker (frame_put reached.slot reached.index z (gone_to to f))
    (record m.outside { cells = globals_put reached.slot reached.index z m.outside.cells }) m.nodes
    (change.wrote (frames.top_of f).node f.boundary reached (held_at reached f m.outside.cells)) undo.kept
    (fits-put reached.slot reached.index z (gone_to to f) m.outside.cells c.ready.needs) tt
plan-can choice m w f body (plan.Call n awaits callee arguments to) c =
    acts-back m w c.worker (entered (starts_with body arguments awaits) (gone_to to f)) m.outside m.nodes
    (change.called (frames.top_of f).node f.boundary) undo.kept
    (deeper (starts_with body arguments awaits) (gone_to to f) (subst (λ n. 0 < n) (sym (depth-gone to f)) c.some)) tt
plan-can choice m w f body (plan.Leave n) c =
    acts-back m w c.worker (left f) m.outside m.nodes (change.closed (frames.top_of f)) undo.kept (less-deep f c.some c.limit) tt
plan-can choice m w f body (plan.Answer n reached z) c =
    acts-back m w c.worker (frame_put reached.slot reached.index z (left f))
    (record m.outside { cells = globals_put reached.slot reached.index z m.outside.cells }) m.nodes
    (change.answered (frames.top_of f) reached (held_at reached (left f) m.outside.cells)) undo.kept (
      subst (λ n. 0 < n) (sym (depth-put reached.slot.area (reached.slot.offset + reached.index) z (left f))) (still-deep f c.ready.needs.0),
      subst (λ n. n < 256) (sym (depth-put reached.slot.area (reached.slot.offset + reached.index) z (left f))) (less-deep f c.some c.limit),
      fits-put reached.slot reached.index z (left f) m.outside.cells c.ready.needs.1,
    ) tt
plan-can choice m w f body (plan.Return n z) c =
    let parent = (node_at m.nodes f.id).parent in
    revives m w f c.worker (sent m.nodes f.id z) Returned parent (tree-sent m.nodes f.id z c.tree) c.ready.needs.acting.live c.ready.needs.acting.free
    (trees.sent-parent m.nodes f.id f.id z) refl c.ready.needs.outlives
    (λ r g up held. c.own r g (c.tree.outlives f.id r up c.ready.acting.live)
    (sym (trees.sent-part (λ k. k.parked) m.nodes f.id r z (λ k ds. refl) (λ k receiver. refl)) ∙ held))
    (is_sent m.nodes f.id) (trees.sent-back m.nodes f.id z c.tree) c.tree (outside_given m.outside z parent) []
plan-can choice m w f body (plan.Spawn n receiver callee arguments to) c =
    unbears m.nodes c.tree f.id c.ready.acting.live callee receiver w _
    (there-after m.places w c.worker _ (workers-of-hand (with_deque m.places w _) w _ ∙ workers-of-deque m.places w _)) refl
plan-can choice m w f body (plan.Print n bytes to) c =
    acts-back m w c.worker (gone_to to f) (record m.outside { output = m.outside.output ++ bytes }) m.nodes (went_from f) undo.kept tt tt
plan-can choice m w f body (plan.TurnLock n lock now to) c =
    acts-back m w c.worker (gone_to to f) (record m.outside { locks = slice_set m.outside.locks lock now }) m.nodes (went_from f) undo.kept tt tt
plan-can choice m w f body (plan.Abort n to) c =
    acts-back m w c.worker (gone_to to f) m.outside (marked_below m.nodes f.id) (went_from f) (undo.marked (marked_by f.id m.nodes)) tt
    (unmarks m.nodes c.tree f.id c.ready.acting.live)

pub pops-can : PopsCanBeUndone
pops-can m w f worker is =
    let low : List (WorkerOf Frame) = with_deque m.places w (above_bottom (deque_of m.places w)) in
    let there : IsWorker low w = there-after m.places w worker low (workers-of-deque m.places w _) in
    record {
      worker = there-after low w there (with_hand low w (bottom_of (deque_of m.places w))) (workers-of-hand low w _);
      frame = f;
      hand = hand-same low w (bottom_of (deque_of m.places w)) there ∙ is;
    }

pub steals-can : StealsCanBeUndone
steals-can m w v f worker victim other is =
    let low : List (WorkerOf Frame) = with_deque m.places v (below_top (deque_of m.places v)) in
    let size : length low ≡ length m.places = workers-of-deque m.places v _ in
    let there : IsWorker low w = there-after m.places w worker low size in
    let now : List (WorkerOf Frame) = with_hand low w (top_of (deque_of m.places v)) in
    record {
      pops = record {
        worker = there-after low w there now (workers-of-hand low w _);
        frame = f;
        hand = hand-same low w (top_of (deque_of m.places v)) there ∙ is;
      };
      victim = there-after m.places v victim now (workers-of-hand low w _ ∙ size);
      other = other;
    }
