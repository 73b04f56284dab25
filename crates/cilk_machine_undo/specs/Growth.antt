-- What only grows: births never change, and of an instance that has ended nothing changes any more but its fate. So its node at an earlier choice is
-- read off a later tree, by cutting its fate.
use Rattle.std.specs.Prelude.{◌≡◌, ◌<◌, ◌≤◌, ◌++◌, ℕ, true, false, ⊤, List, length, Some, slice_get}
use Rattle.cilk_machine_plan.specs.runs.FateLaws.{Moves}
use Rattle.cilk_machine_plan.specs.agree.Agrees.{MachineParts}
use Rattle.cilk_machine_plan.specs.agree.Fated.{fate_named}
pub use Rattle.cilk_machine_plan.specs.spawn.Cut.{SameBirth, cut, cut_node, IsCut}
use Rattle.cilk_machine_plan.specs.spawn.declared.delivery.Delivery.{Delivery}
use Rattle.cilk_machine_plan.specs.spawn.declared.fate.Fate.{Fate}
use Rattle.cilk_machine_plan.specs.spawn.declared.fate.Fate.TheVariants.{Live, Returned, Delivered, Aborted}
use Rattle.cilk_machine_plan.specs.spawn.Nodes.{Node, node_at, is_live}
use Rattle.cilk_machine_plan.specs.declared.plan.Plan.{Plan}
use Rattle.cilk_machine_plan.specs.declared.plan.Plan.TheVariants as plan

-- what choice n may do to the node of an instance
pub record NodeGrows (n : ℕ) (old new : Node) : Type 0 where
  pub birth : SameBirth old new
  pub fate : Moves n (fate_named old.fate) (fate_named new.fate)
  -- one that has ended is as it was, but for its fate
  pub rest : is_live old ≡ false → new ≡ record old { fate = new.fate }

-- what choice n may do to a tree
pub record Grows (n : ℕ) (old new : List Node) : Type 0 where
  pub size : length old ≤ length new
  pub each : (i : ℕ) → i < length old → NodeGrows n (node_at old i) (node_at new i)
  -- whoever was born at this choice lives
  pub born : (i : ℕ) → length old ≤ i → i < length new → is_live (node_at new i) ≡ true

-- what was printed stays in front of what is printed afterwards
pub record Prints (old new : List ℕ) : Type 0 where
  pub more : List ℕ
  pub is : new ≡ old ++ more

-- what choice n may do to what only grows in a machine
pub record MachineGrows (n : ℕ) (m now : MachineParts) : Type 0 where
  pub nodes : Grows n m.nodes now.nodes
  pub output : Prints m.outside.output now.outside.output

-- a fate tells of no choice behind choice c
abbrev pub IsWithin : ℕ → Fate → Type 0
IsWithin c Live = ⊤
IsWithin c Returned = ⊤
IsWithin c (Delivered d) = d ≤ c
IsWithin c (Aborted d) = d ≤ c

abbrev pub AreWithin : ℕ → List Node → Type 0
AreWithin c ns = (i : ℕ) → i < length ns → IsWithin c (node_at ns i).fate

-- nobody has taken its value, which it may have sent
abbrev pub IsUntaken : Fate → Type 0
IsUntaken Live = ⊤
IsUntaken Returned = ⊤
IsUntaken (Delivered d) = ⊥
IsUntaken (Aborted d) = ⊥

-- the delivery that k would take next is of a value that nobody has taken
abbrev pub IsUntakenFirst : List Node → ℕ → Type 0
IsUntakenFirst ns k = (d : Delivery) → slice_get (node_at ns k).waiting 0 ≡ Some d → IsUntaken (node_at ns d.child).fate

-- by this plan k takes no value that was taken before
abbrev pub TakesOnce : List Node → ℕ → Plan → Type 0
TakesOnce ns k (plan.Take child n reached z) = IsUntakenFirst ns k
TakesOnce ns k (plan.Enter child n inlet arguments) = IsUntakenFirst ns k
TakesOnce ns k x = ⊤
