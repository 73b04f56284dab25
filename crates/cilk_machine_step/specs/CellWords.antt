-- What the code's words for reads and accesses mean.
use Rattle.std.specs.Prelude.{Bool, List, [], ◌∷◌, map, Option, Some, None}
use Rattle.cilk_machine_plan.specs.nodes.declared.slot.Slot.{Slot}
use Rattle.cilk_machine_plan.specs.model.Path.{Path}
use Rattle.cilk_machine_step.specs.declared.read.Read as coded
use Rattle.cilk_machine_step.specs.declared.read.Read.TheVariants.{Cell, Synched}
use Rattle.cilk_machine_step.specs.declared.access.Access as touched
use Rattle.cilk_machine_step.specs.declared.access.Spot.{Spot}
use Rattle.cilk_machine_step.specs.declared.access.Spot.TheVariants as spot
use Rattle.cilk_machine_plan.specs.StepInput.{StepInput}
use Rattle.cilk_machine_step.specs.Reads.{Read, cell, whether}
use Rattle.cilk_machine_step.specs.Shown.{own_path}
use Rattle.cilk_machine_step.specs.Accesses.{Where, global, own, output, synched, Access}

abbrev pub read_of : coded.Read → Read Slot
read_of (Cell slot k) = cell slot k
read_of Synched = whether

-- a cell that the instance of this path touches
abbrev pub where_of : Path → Spot → Where
where_of p (spot.Global variable index) = global variable index
where_of p (spot.Own variable index) = own p variable index
where_of p spot.Output = output
where_of p spot.Synched = synched p

abbrev pub access_of : Path → touched.Access → Access
access_of p a = record { at = where_of p a.at; writes = a.writes }

-- of the instance of a scene
abbrev pub told : StepInput → List touched.Access → List Access
told g accesses = map (access_of (own_path g)) accesses

abbrev pub listed : {A B : Type 0} → (A → B) → Option A → List B
listed f None = []
listed f (Some x) = f x ∷ []

abbrev pub access : Bool → Where → Access
access writes at = record { at = at; writes = writes }
