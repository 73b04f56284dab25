-- A record of one choice: what stood where the choice changed something. What it makes of the machine behind the choice is the machine before it.
use Rattle.std.specs.Prelude.{ℕ, ℤ, Bool, true, false, List, ◌++◌, take, Option, None, Some, option_map, option_to_list, slice_set}
use Rattle.cilk_machine_plan.specs.eval.declared.reached.Reached.{Reached}
use Rattle.cilk_machine_plan.specs.model.Hands.{hand_of, deque_of, with_hand, with_deque, bottom_of, above_bottom}
use Rattle.cilk_machine_plan.specs.frame.Frames.{Frame, stood}
use Rattle.cilk_machine_plan.specs.frame.Cells.{globals_put}
use Rattle.cilk_machine_plan.specs.spawn.declared.delivery.Delivery.{Delivery}
use Rattle.cilk_machine_plan.specs.spawn.declared.fate.Fate.{Fate}
use Rattle.cilk_machine_plan.specs.spawn.Nodes.{Node, node_at, with_parked}
use Rattle.cilk_machine_plan.specs.spawn.Remains.{Remains}
use Rattle.cilk_machine_plan.specs.spawn.Dropped.{unborn}
use Rattle.cilk_machine_plan.specs.spawn.Revived.{revived}
use Rattle.cilk_machine_plan.specs.spawn.Undone.{untaken, unsent, unmarked}
use Rattle.cilk_machine_plan.specs.agree.declared.lock.Lock.{Lock}
use Rattle.cilk_machine_plan.specs.agree.declared.lock.Lock.TheVariants.{Held}
use Rattle.cilk_machine_plan.specs.agree.Outside as outside
use Rattle.cilk_machine_plan.specs.agree.Outside.{Outside}
use Rattle.cilk_machine_plan.specs.agree.Agrees.{MachineParts}
use Rattle.cilk_machine_undo.specs.Writes.{all_set}
use Rattle.cilk_machine_undo.specs.Frames.{Change, frame_before}

-- what was changed outside the hands and the tree
pub data Beside : Type 0 where
  nothing : Beside
  -- this cell held z, which is one of the top level, or of the frame
  cell : (reached : Reached) (z : ℤ) → Beside
  -- this lock was so
  lock : (at : ℕ) (was : Lock) → Beside
  -- so many bytes were printed
  printed : (count : ℕ) → Beside

-- what was changed in the tree, where the frame stays in the hand
pub data Family : Type 0 where
  kept : Family
  -- k took this delivery, whose child had this fate
  took : (k : ℕ) (delivery : Delivery) (fate : Fate) → Family
  -- these were marked
  marked : (ids : List ℕ) → Family

-- what is kept of an instance that ended
pub record Gone : Type 0 where
  pub frame : Frame
  pub remains : Remains
  -- whether its value went to its parent
  pub sent : Bool
  -- the locks that it held
  pub held : List ℕ

pub data Undo : Type 0 where
  -- the frame stays in w's hand
  acted : (w : ℕ) (change : Change) (family : Family) (beside : Beside) → Undo
  -- the frame of k was parked
  parked : (w k : ℕ) → Undo
  -- the instance in w's hand spawned a child, and stood at action n with this flag
  spawned : (w k n : ℕ) (flag : Bool) → Undo
  ended : (w : ℕ) (of : Gone) → Undo
  popped : (w : ℕ) → Undo
  stolen : (w v : ℕ) → Undo

abbrev pub outside_before : Beside → Outside → Outside
outside_before nothing o = record o { outcome = outside.running }
outside_before (cell reached z) o = record o { cells = globals_put reached.slot reached.index z o.cells; outcome = outside.running }
outside_before (lock at was) o = record o { locks = slice_set o.locks at was; outcome = outside.running }
outside_before (printed count) o = record o { output = take count o.output; outcome = outside.running }

abbrev pub family_before : Family → List Node → List Node
family_before kept ns = ns
family_before (took k delivery fate) ns = untaken ns k delivery fate
family_before (marked ids) ns = unmarked ns ids

-- k holds these locks
abbrev pub held_again : ℕ → List ℕ → Outside → Outside
held_again k ids o = record o { locks = all_set o.locks ids (Held k); outcome = outside.running }

-- the parent is parked again, if it had come to the hand
abbrev pub asleep : Option ℕ → Option Frame → List Node → List Node
asleep None o ns = ns
asleep (Some r) None ns = ns
asleep (Some r) (Some g) ns = with_parked ns r (Some g)

-- the value of k does not wait for the parent, if it was sent
abbrev pub unsent_to : Bool → Option ℕ → ℕ → List Node → List Node
unsent_to true (Some p) k ns = unsent ns p k
unsent_to true None k ns = ns
unsent_to false o k ns = ns

-- k lives on, where this is in the hand
abbrev pub living_on : Bool → ℕ → Option Frame → List Node → List Node
living_on sent k hand ns = unsent_to sent (node_at ns k).parent k (asleep (node_at ns k).parent hand ns)

abbrev pub undone : Undo → MachineParts → MachineParts
undone (acted w change family beside) m = record {
  outside = outside_before beside m.outside;
  nodes = family_before family m.nodes;
  places = with_hand m.places w (option_map (frame_before change) (hand_of m.places w));
}
undone (parked w k) m = record {
  outside = outside_before nothing m.outside;
  nodes = with_parked m.nodes k None;
  places = with_hand m.places w (node_at m.nodes k).parked;
}
undone (spawned w k n flag) m = record {
  outside = outside_before nothing m.outside;
  nodes = unborn k m.nodes;
  places = with_hand (with_deque m.places w (above_bottom (deque_of m.places w))) w (option_map (stood n flag) (bottom_of (deque_of m.places w)));
}
undone (ended w of) m = record {
  outside = held_again of.frame.id of.held m.outside;
  nodes = living_on of.sent of.frame.id (hand_of m.places w) (revived m.nodes of.frame.id of.remains);
  places = with_hand m.places w (Some of.frame);
}
undone (popped w) m = record {
  outside = outside_before nothing m.outside;
  nodes = m.nodes;
  places = with_hand (with_deque m.places w (deque_of m.places w ++ option_to_list (hand_of m.places w))) w None;
}
undone (stolen w v) m = record {
  outside = outside_before nothing m.outside;
  nodes = m.nodes;
  places = with_hand (with_deque m.places v (option_to_list (hand_of m.places w) ++ deque_of m.places v)) w None;
}
