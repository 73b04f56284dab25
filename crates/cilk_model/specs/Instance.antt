-- An instance of a procedure that was spawned, or of `main` (Cilk 5.4 manual, `spawn`, `sync`, `inlet`).
use Rattle.std.specs.Prelude.{ℕ, ℤ, Bool, false, List, [], ◌∷◌, Option, None, slice_index_or}
use Rattle.cilk_check_scopes.specs.declared.owner.Owner.{Owner}
use Rattle.cilk_check_scopes.specs.declared.owner.Owner.TheVariants.{Inlet}
use Rattle.cilk_model.specs.labelled.Labelled.{Body, Labelled, none}
use Rattle.cilk_model.specs.labelled.Items.{Items, opened, start_items}
use Rattle.cilk_model.specs.Values.{Values, Reached, initial_values}
use Rattle.cilk_model.specs.Path.{Path}

-- a body that is being run
pub record Activation : Type 0 where
  -- its place among the bodies of the program
  pub body : ℕ
  -- what remains of it, opened
  pub items : Items
  -- what its declarations hold
  pub values : Values
  -- of a C function: the cell of its caller that awaits its value, if any does (C 1990, 6.3.2.2)
  pub awaits : Option Reached

-- what takes a child's value, with the number of the spawn
pub data Receiver : Type 0 where
  -- an implicit inlet, and the cell that was reached at the spawn
  place : (reached : Reached) (spawn : ℕ) → Receiver
  -- an inlet, and what it was given behind the value at the spawn
  through : (inlet : ℕ) (others : List ℤ) (spawn : ℕ) → Receiver

-- a child's value that waits for its parent
pub record Delivery : Type 0 where
  pub child : Path
  pub value : ℤ
  pub receiver : Receiver

pub record Instance : Type 0 where
  -- the activation that goes on, and those that wait for it, down to the procedure's own
  pub top : Activation
  pub below : List Activation
  -- whether the procedure's own last action was a spawn
  pub spawned : Bool
  -- the deliveries that wait, oldest first
  pub waiting : List Delivery
  -- how many children it ever spawned
  pub children : ℕ
  -- whether an `abort` marked it
  pub aborted : Bool
  -- what takes its value, if anything does
  pub receiver : Option Receiver

-- what stands at a place where there is no body
abbrev pub no_body : Body
no_body = record { name = []; owner = Inlet; parameters = 0; variables = []; stmts = none; closing = 0 }

abbrev pub body_at : Labelled → ℕ → Body
body_at program b = slice_index_or program.bodies b no_body

-- the arguments are what the parameters hold at first (C 1990, 6.3.2.2)
abbrev pub with_arguments : List ℤ → Values → Values
with_arguments [] values = values
with_arguments (z ∷ arguments) [] = []
with_arguments (z ∷ arguments) (cells ∷ values) = (z ∷ []) ∷ with_arguments arguments values

-- a body at its start, and what awaits its value
abbrev pub entered : Labelled → ℕ → List ℤ → Option Reached → Activation
entered program b arguments awaits = record {
  body = b;
  items = opened (start_items (body_at program b));
  values = with_arguments arguments (initial_values (body_at program b).variables);
  awaits = awaits;
}

-- an instance at its start
abbrev pub started : Labelled → ℕ → List ℤ → Instance
started program b arguments = record {
  top = entered program b arguments None;
  below = [];
  spawned = false;
  waiting = [];
  children = 0;
  aborted = false;
  receiver = None;
}

-- whose body its top activation runs
abbrev pub owner_at : Labelled → Instance → Owner
owner_at program i = (body_at program i.top.body).owner

-- what the procedure's own activation holds, below the one that goes on
abbrev pub outer_values : List Activation → Values
outer_values [] = []
outer_values (a ∷ []) = a.values
outer_values (a ∷ b ∷ below) = outer_values (b ∷ below)
