-- The instance that a frame stands for.
use Rattle.std.specs.Prelude.{◌≡◌, ℕ, ◌<◌, ℤ, false, ⊤, List, [], ◌∷◌, map, length, reverse, Option, Some, None}
use Rattle.cilk_load_nodes.specs.labelled.Term.{Term}
use Rattle.cilk_load_nodes.specs.declared.slot.Slot.{Slot}
use Rattle.cilk_load_nodes.specs.labelled.Labelled.{Labelled}
use Rattle.cilk_load_nodes.specs.labelled.Bodies.{is_procedure}
use Rattle.cilk_load_nodes.specs.labelled.Items.{reached}
use Rattle.cilk_load_nodes.specs.model.Values.{Reached}
use Rattle.cilk_load_nodes.specs.model.Instance as model
use Rattle.cilk_load_nodes.specs.model.Instance.{Instance, body_at}
use Rattle.cilk_load_nodes.specs.declared.target.Target.{Target}
use Rattle.cilk_load_nodes.specs.declared.action.Action.TheVariants.{Call}
use Rattle.cilk_load_nodes.specs.declared.node.Node.{Node}
use Rattle.cilk_load_nodes.specs.Slots.{size_of, flat, is_inlet, procedure_around}
use Rattle.cilk_load_nodes.specs.Table.{number_of, rows_from, node_among}
use Rattle.cilk_frame.specs.declared.awaited.Await.{Await}
use Rattle.cilk_frame.specs.Frames.{Activation, Frame}
use Rattle.cilk_frame.specs.Cells.{SameCell, IsInlet}

-- the node of action n
abbrev pub node_in : Labelled → ℕ → Option Node
node_in program n = node_among program n (rows_from 0 program.bodies)

-- what awaits a value is the place of call n, which body b reached with this subscript
pub record AwaitsAt (program : Labelled) (b : ℕ) (w : Await) (r : Reached) : Type 0 where
  pub node : Node
  pub target : Target
  pub callee : ℕ
  pub arguments : List (Term Slot)
  pub there : node_in program w.n ≡ Some node
  pub calls : node.action ≡ Call (Some target) callee arguments
  pub op_is : target.op ≡ r.op
  pub same : SameCell program b target.place.slot w.index r.cell

-- in both, where these bodies wait below, or in neither
abbrev pub AwaitsSame : Labelled → Option Await → Option Reached → List ℕ → Type 0
AwaitsSame program None None bodies = ⊤
AwaitsSame program None (Some r) bodies = ⊥
AwaitsSame program (Some w) None bodies = ⊥
AwaitsSame program (Some w) (Some r) [] = ⊥
AwaitsSame program (Some w) (Some r) (b ∷ bodies) = AwaitsAt program b w r

-- an activation of a frame stands for one of an instance: its body is there and reaches the items that remain,
-- the node is the number of their head, and the cells are the values of the body's declarations
pub record Activates (program : Labelled) (a : Activation) (m : model.Activation) : Type 0 where
  pub is_there : m.body < length program.bodies
  pub answers : List ℤ
  pub reached_by : m.items ≡ reached (body_at program m.body) answers
  pub node_is : number_of m.items ≡ Some a.node
  pub cells_are : a.cells ≡ flat m.values
  pub sizes_are : map length m.values ≡ map size_of (body_at program m.body).variables

abbrev pub bodies_of : List model.Activation → List ℕ
bodies_of ms = map (λ (m : model.Activation). m.body) ms

-- each activation stands for the one at its place, from the top down
abbrev pub AllActivate : Labelled → List Activation → List model.Activation → Type 0
AllActivate program [] [] = ⊤
AllActivate program [] (m ∷ ms) = ⊥
AllActivate program (a ∷ others) [] = ⊥
AllActivate program (a ∷ others) (m ∷ ms) =
    Activates program a m × AwaitsSame program a.awaits m.awaits (bodies_of ms) × AllActivate program others ms

-- the last of these bodies
abbrev pub lowest_of : ℕ → List ℕ → ℕ
lowest_of b [] = b
lowest_of b (c ∷ bodies) = lowest_of c bodies

-- the lowest body is no inlet's; those above are no procedures', and each inlet is one of the lowest's (Cilk 5.4 manual, `inlet`)
abbrev pub AllInside : Labelled → List ℕ → Type 0
AllInside program [] = ⊤
AllInside program (b ∷ []) = is_inlet (body_at program b).owner ≡ false
AllInside program (b ∷ c ∷ bodies) =
    (is_procedure (body_at program b).owner ≡ false) × (IsInlet program b → lowest_of c bodies ≡ procedure_around program b) × AllInside program (c ∷ bodies)

-- a frame stands for an instance, whatever waits for it, its children and its receiver are
pub record StandsFor (program : Labelled) (f : Frame) (i : Instance) : Type 0 where
  pub activations : AllActivate program (reverse f.activations) (i.top ∷ i.below)
  pub inside : AllInside program (bodies_of (i.top ∷ i.below))
  pub flag : f.boundary ≡ i.spawned
