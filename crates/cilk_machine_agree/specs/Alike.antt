-- When a node of the tree tells of an instance what the definitions tell of it.
use Rattle.std.specs.Prelude.{◌≡◌, ◌<◌, ◌≤◌, ℕ, suc, ℤ, ⊤, List, [], ◌∷◌, Option, Some, None, length}
use Rattle.cilk_laws_model.specs.labelled.Term.{Term}
use Rattle.cilk_sched.specs.nodes.declared.slot.Slot.{Slot}
use Rattle.cilk_laws_model.specs.labelled.Labelled.{Labelled}
use Rattle.cilk_laws_model.specs.model.Path.{Path}
use Rattle.cilk_laws_model.specs.model.Instance as model
use Rattle.cilk_laws_model.specs.model.Instance.{Instance, body_at}
use Rattle.cilk_laws_model.specs.scopes.declared.owner.Owner.TheVariants.{Inlet}
use Rattle.cilk_sched.specs.nodes.Slots.{procedure_around}
use Rattle.cilk_sched.specs.nodes.declared.taker.Taker.TheVariants.{Through}
use Rattle.cilk_sched.specs.nodes.declared.action.Action.TheVariants.{Spawn}
use Rattle.cilk_sched.specs.nodes.declared.node.Node as action
use Rattle.cilk_sched.specs.frame.Cells.{SameCell}
use Rattle.cilk_sched.specs.frame.Stands.{node_in, bodies_of, lowest_of}
use Rattle.cilk_spawn.specs.declared.delivery.Delivery.{Delivery}
use Rattle.cilk_spawn.specs.frame.declared.receiver.Receiver.{Receiver}
use Rattle.cilk_spawn.specs.frame.declared.receiver.Receiver.TheVariants.{Nothing, Place, Call}
use Rattle.cilk_spawn.specs.Nodes.{Node, node_at, is_live}

-- spawn n stands in body b, and its inlet is this one, which is given so many values behind the child's
pub record CallsInlet (program : Labelled) (b n inlet : ℕ) (values : List ℤ) : Type 0 where
  pub node : action.Node
  pub others : List (Term Slot)
  pub callee : ℕ
  pub arguments : List (Term Slot)
  pub there : node_in program n ≡ Some node
  pub body : node.body ≡ b
  pub spawns : node.action ≡ Spawn (Through inlet others) callee arguments
  pub count : length values ≡ length others
  -- the inlet takes a child's value and these, and stands in that procedure
  pub owner : (body_at program inlet).owner ≡ Inlet
  pub is_there : inlet < length program.bodies
  pub parameters : (body_at program inlet).parameters ≡ suc (length values)
  pub inside : procedure_around program inlet ≡ b

-- what takes a value, in the procedure whose body is b: a cell that it reached, or an inlet of its own
abbrev pub Receives : Labelled → ℕ → Receiver → Option model.Receiver → Type 0
Receives program b Nothing None = ⊤
Receives program b Nothing (Some receiver) = ⊥
Receives program b (Place op slot index spawn) None = ⊥
Receives program b (Place op slot index spawn) (Some (model.place reached n)) =
    (op ≡ reached.op) × (spawn ≡ n) × SameCell program b slot index reached.cell
Receives program b (Place op slot index spawn) (Some (model.through inlet others n)) = ⊥
Receives program b (Call spawn args) None = ⊥
Receives program b (Call spawn args) (Some (model.place reached n)) = ⊥
Receives program b (Call spawn args) (Some (model.through inlet others n)) = (spawn ≡ n) × (args ≡ others) × CallsInlet program b n inlet others

pub record SameDelivery (program : Labelled) (up : ℕ → Path) (b : ℕ) (d : Delivery) (e : model.Delivery) : Type 0 where
  pub child : up d.child ≡ e.child
  pub value : d.value ≡ e.value
  pub receiver : Receives program b d.receiver (Some e.receiver)

abbrev pub SameDeliveries : Labelled → (ℕ → Path) → ℕ → List Delivery → List model.Delivery → Type 0
SameDeliveries program up b [] [] = ⊤
SameDeliveries program up b [] (e ∷ es) = ⊥
SameDeliveries program up b (d ∷ ds) [] = ⊥
SameDeliveries program up b (d ∷ ds) (e ∷ es) = SameDelivery program up b d e × SameDeliveries program up b ds es

-- the body of the procedure of each id
abbrev pub procedure_in : List Node → ℕ → ℕ
procedure_in ns i = (node_at ns i).procedure

-- that of the parent, which takes a child's value
abbrev pub taker_of : (ℕ → ℕ) → Option ℕ → ℕ
taker_of procedures None = 0
taker_of procedures (Some p) = procedures p

-- the body of the procedure's own activation, below those that it waits for
abbrev pub lowest_body : Instance → ℕ
lowest_body a = lowest_of a.top.body (bodies_of a.below)

-- a node tells of an instance, where all ids have these paths and procedures
pub record NodeStandsFor (program : Labelled) (up : ℕ → Path) (procedures : ℕ → ℕ) (n : Node) (a : Instance) : Type 0 where
  pub procedure : n.procedure ≡ lowest_body a
  pub children : n.children ≡ a.children
  pub aborted : n.aborted ≡ a.aborted
  pub waiting : SameDeliveries program up n.procedure n.waiting a.waiting
  pub receiver : Receives program (taker_of procedures n.parent) n.receiver a.receiver

-- a node that stays where it is in the tree, lives as it did and is marked as it was
pub record SameLinks (a b : Node) : Type 0 where
  pub parent : b.parent ≡ a.parent
  pub ordinal : b.ordinal ≡ a.ordinal
  pub procedure : b.procedure ≡ a.procedure
  pub live : is_live b ≡ is_live a
  pub aborted : b.aborted ≡ a.aborted
  pub children : a.children ≤ b.children
