-- Each choice lets the tree grow, and so the last tree tells of those before it what had ended.
use Rattle.std.specs.Prelude.{◌≡◌, ◌<◌, ◌+◌, ℕ, suc, List, [], ◌∷◌, ◌++◌, length, Option, Some}
use Rattle.cilk_machine_plan.specs.labelled.Labelled.{Labelled}
use Rattle.cilk_machine_plan.specs.model.Choice.{Choice}
use Rattle.cilk_machine_plan.specs.model.Event.{Event}
use Rattle.cilk_machine_plan.specs.model.Hands.{popped_by, stolen_by}
use Rattle.cilk_machine_plan.specs.model.Run.{Position, after}
use Rattle.cilk_machine_plan.specs.nodes.declared.body.Body.{Body}
use Rattle.cilk_machine_plan.specs.frame.Frames.{Frame}
use Rattle.cilk_machine_plan.specs.spawn.Nodes.{Node, IsTree}
use Rattle.cilk_machine_plan.specs.agree.Agrees.{MachineParts}
use Rattle.cilk_machine_plan.specs.agree.Fated.{Fated}
use Rattle.cilk_machine_plan.specs.declared.plan.Plan.{Plan}
use Rattle.cilk_machine_plan.specs.Ready.{Ready}
use Rattle.cilk_machine_plan.specs.Carried.{after_plan}
use Rattle.cilk_machine_undo.specs.Growth.{Grows, IsCut, Prints, AreWithin, TakesOnce}

-- whatever plan is carried out
abbrev pub PlansGrow : Type 0
PlansGrow = (choice : ℕ) (m : MachineParts) (w : ℕ) (f : Frame) (body : Option Body) (x : Plan) → IsTree m.nodes
    → Ready choice m.nodes m.outside.cells f body x → TakesOnce m.nodes f.id x → Grows choice m.nodes (after_plan choice m w f body x).nodes

-- whatever frame is moved
abbrev pub PopsGrow : Type 0
PopsGrow = (choice : ℕ) (m : MachineParts) (w : ℕ) → Grows choice m.nodes (record m { places = popped_by m.places w }).nodes

abbrev pub StealsGrow : Type 0
StealsGrow = (choice : ℕ) (m : MachineParts) (w v : ℕ) → Grows choice m.nodes (record m { places = stolen_by m.places w v }).nodes

-- what was printed stays
abbrev pub PlansPrint : Type 0
PlansPrint = (choice : ℕ) (m : MachineParts) (w : ℕ) (f : Frame) (body : Option Body) (x : Plan)
    → Prints m.outside.output (after_plan choice m w f body x).outside.output

-- a tree tells of itself what has ended
abbrev pub TreesAreCut : Type 0
TreesAreCut = (c : ℕ) (ns : List Node) → AreWithin c ns → IsCut c ns ns

-- so does the tree behind a choice, where the one before it told that
abbrev pub CutsGoOn : Type 0
CutsGoOn = (c n : ℕ) (old now later : List Node) → c < n → IsCut c old now → Grows n now later → IsCut c old later

-- so does the last tree of any number of choices, where tree i is that behind choice c + i
abbrev pub LastTreesTell : Type 0
LastTreesTell = (c count : ℕ) (tree : ℕ → List Node) → AreWithin c (tree 0) → ((i : ℕ) → i < count → Grows (suc (c + i)) (tree i) (tree (suc i)))
    → IsCut c (tree 0) (tree count)

-- no fate tells of a choice that was not made yet
abbrev pub FatesStayWithin : Type 0
FatesStayWithin = (c : ℕ) (old new : List Node) → AreWithin c old → Grows (suc c) old new → AreWithin (suc c) new

-- nor does one that the events tell
abbrev pub FatedAreWithin : Type 0
FatedAreWithin = (program : Labelled) (ns : List Node) (events : List Event) → Fated program ns events → AreWithin (length events) ns

-- where the events of a run tell the fates before a choice and behind it, no value is taken twice
abbrev pub ValuesAreTakenOnce : Type 0
ValuesAreTakenOnce = (program : Labelled) (workers : ℕ) (choices : List Choice) (choice : Choice) (at next : Position)
    → after program workers choices ≡ Some at → after program workers (choices ++ choice ∷ []) ≡ Some next
    → (m : MachineParts) (w : ℕ) (f : Frame) (body : Option Body) (x : Plan) → IsTree m.nodes
    → Ready (suc (length choices)) m.nodes m.outside.cells f body x → Fated program m.nodes at.events
    → Fated program (after_plan (suc (length choices)) m w f body x).nodes next.events → TakesOnce m.nodes f.id x
