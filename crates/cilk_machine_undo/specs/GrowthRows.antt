-- Worked rows: a tree behind choice 4, the one behind choice 9, and what the later one tells of the earlier.
use Rattle.std.specs.Prelude.{◌≡◌, refl, ℕ, ℤ, false, List, [], ◌∷◌, Some, None}
use Rattle.cilk_machine_plan.specs.spawn.declared.delivery.Delivery.{Delivery}
use Rattle.cilk_machine_plan.specs.spawn.declared.fate.Fate.{Fate}
use Rattle.cilk_machine_plan.specs.spawn.declared.fate.Fate.TheVariants.{Live, Returned, Delivered, Aborted}
use Rattle.cilk_machine_plan.specs.frame.declared.receiver.Receiver.TheVariants.{Nothing}
use Rattle.cilk_machine_plan.specs.spawn.Nodes.{Node, node_at, taken}
use Rattle.cilk_machine_undo.specs.Growth.{cut, cut_node}

abbrev root : ℕ → List Delivery → Node
root children waiting = record {
  parent = None;
  ordinal = 0;
  procedure = 0;
  children = children;
  aborted = false;
  fate = Live;
  receiver = Nothing;
  waiting = waiting;
  parked = None;
}

-- a child of the root
abbrev born : ℕ → Fate → Node
born ordinal fate = record {
  parent = Some 0;
  ordinal = ordinal;
  procedure = 1;
  children = 0;
  aborted = false;
  fate = fate;
  receiver = Nothing;
  waiting = [];
  parked = None;
}

-- the first child has returned z, the second was aborted, and the third lives
abbrev early : ℤ → List Node
early z =
    root 3 (record { child = 1; value = z; receiver = Nothing } ∷ [])
    ∷ born 1 Returned ∷ born 2 (Aborted 3) ∷ born 3 Live ∷ []

-- the value was taken at choice 5, the third child returned, and a fourth was born
abbrev last : List Node
last = root 4 [] ∷ born 1 (Delivered 5) ∷ born 2 (Aborted 3) ∷ born 3 Returned ∷ born 4 Live ∷ []

taken_at_5 : (z : ℤ) → node_at (taken (early z) 0 5) 1 ≡ node_at last 1
taken_at_5 z = refl

had_returned : (z : ℤ) → cut_node 4 (node_at last 1) ≡ node_at (early z) 1
had_returned z = refl

was_aborted : (z : ℤ) → cut_node 4 (node_at last 2) ≡ node_at (early z) 2
was_aborted z = refl

-- behind the choice at which it was taken, too
was_delivered : cut_node 5 (node_at last 1) ≡ node_at last 1
was_delivered = refl

-- of one that lived then nothing is told
still_told : cut 4 (node_at last 3).fate ≡ Returned
still_told = refl
