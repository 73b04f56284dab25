-- When two trees tell the same: the instances go by their paths, whatever their ids are, and those that have ended do not matter.
use Rattle.std.specs.Prelude.{◌≡◌, ℕ, true, ⊤, List, [], ◌∷◌, Option, Some, None}
use Rattle.cilk_frame.specs.Frames.{Frame}
use Rattle.cilk_frame.specs.Alike.{SameFrame}
use Rattle.cilk_spawn.specs.declared.delivery.Delivery.{Delivery}
use Rattle.cilk_spawn.specs.Nodes.{Node, node_at, is_live, path_at}

abbrev pub SameParked : Option Frame → Option Frame → Type 0
SameParked None None = ⊤
SameParked None (Some g) = ⊥
SameParked (Some f) None = ⊥
SameParked (Some f) (Some g) = SameFrame f g

-- the body of the procedure of a parent, which takes the value; the root has none
abbrev pub taker_in : List Node → Option ℕ → ℕ
taker_in ns None = 0
taker_in ns (Some p) = (node_at ns p).procedure

-- what the nodes keep beside the tree
pub record SameKept (a b : Node) : Type 0 where
  pub live : is_live b ≡ true
  pub procedure : a.procedure ≡ b.procedure
  pub children : a.children ≡ b.children
  pub aborted : a.aborted ≡ b.aborted
  pub receiver : a.receiver ≡ b.receiver
  pub parked : SameParked a.parked b.parked

module _ (ns ms : List Node) where
  -- i here and j there have one path
  pub record ArePartners (i j : ℕ) : Type 0 where
    pub path : path_at ns i ≡ path_at ms j

  pub record SameDelivery (d e : Delivery) : Type 0 where
    pub child : path_at ns d.child ≡ path_at ms e.child
    pub value : d.value ≡ e.value
    pub receiver : d.receiver ≡ e.receiver

  abbrev pub SameWaiting : List Delivery → List Delivery → Type 0
  SameWaiting [] [] = ⊤
  SameWaiting [] (e ∷ es) = ⊥
  SameWaiting (d ∷ ds) [] = ⊥
  SameWaiting (d ∷ ds) (e ∷ es) = SameDelivery d e × SameWaiting ds es

  -- i here and j there have one path, and what is told of both is the same
  pub record SameNode (i j : ℕ) : Type 0 where
    pub path : path_at ns i ≡ path_at ms j
    pub live : is_live (node_at ms j) ≡ true
    pub procedure : (node_at ns i).procedure ≡ (node_at ms j).procedure
    pub taker : taker_in ns (node_at ns i).parent ≡ taker_in ms (node_at ms j).parent
    pub children : (node_at ns i).children ≡ (node_at ms j).children
    pub aborted : (node_at ns i).aborted ≡ (node_at ms j).aborted
    pub receiver : (node_at ns i).receiver ≡ (node_at ms j).receiver
    pub waiting : SameWaiting (node_at ns i).waiting (node_at ms j).waiting
    pub parked : SameParked (node_at ns i).parked (node_at ms j).parked

  -- one that lives there has the path of i here
  pub record LivesAs (i : ℕ) : Type 0 where
    pub partner : ℕ
    pub live : is_live (node_at ms partner) ≡ true
    pub path : path_at ms partner ≡ path_at ns i

-- each that lives here lives there, and each there here
pub record SameTree (ns ms : List Node) : Type 0 where
  pub here : (i : ℕ) → is_live (node_at ns i) ≡ true → (j : ℕ) × SameNode ns ms i j
  pub there : (j : ℕ) → is_live (node_at ms j) ≡ true → LivesAs ms ns j
