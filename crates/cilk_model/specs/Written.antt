-- Words of the written rule: what is written, what waits, what is let go.
use Rattle.std.specs.Prelude.{◌≡◌, ◌≢◌, ℕ, ℤ, pos, true, false, List, [], ◌∷◌, Option, Some, None, option_map, Ok, slice_get}
use Rattle.cilk_model.specs.labelled.Term.{Term}
use Rattle.cilk_model.specs.labelled.Value.{Environment, value_of}
use Rattle.cilk_model.specs.labelled.Labelled.{Declaration, Into, Taker, nothing, into, through, Action, sync, return_with, return_nothing, close}
use Rattle.cilk_model.specs.labelled.Items.{head_of}
use Rattle.cilk_model.specs.Values.{Values, Store, Cell, Reached, cells_of}
use Rattle.cilk_model.specs.Path.{Path}
use Rattle.cilk_model.specs.Instance as instance
use Rattle.cilk_model.specs.Instance.{Activation, Receiver, place, Delivery, Instance}
use Rattle.cilk_model.specs.State.{State, Lock, free, held, has_live_child}

-- what a cell holds, if there is one
abbrev pub content : Store → Cell → Option ℤ
content store cell = slice_get (cells_of store cell.place) cell.index

-- z stands in the cell, if there is one, and each other cell that is seen holds what it held (C 1990, 6.3.16)
pub record Writes (before after : Store) (cell : Cell) (z : ℤ) : Type 0 where
  pub there : content after cell ≡ option_map (λ _. z) (content before cell)
  pub others : (other : Cell) → other ≢ cell → content after other ≡ content before other

-- the lowest of the activations that wait, which is the procedure's, holds these values now
pub data Holding (values : Values) : List Activation → List Activation → Type 0 where
  none_waits : Holding values [] []
  lowest : (a : Activation) → Holding values (a ∷ []) (record a { values = values } ∷ [])
  above : (a b : Activation) (below after : List Activation) → Holding values (b ∷ below) after → Holding values (a ∷ b ∷ below) (a ∷ after)

-- what the place of a taker is, and what its inlet is given behind the value (Cilk 5.4 manual, `spawn`, `inlet`)
abbrev pub taker_place : Taker → Option Into
taker_place nothing = None
taker_place (into what) = Some what
taker_place (through inlet others) = None

abbrev pub others_of : Taker → List (Term Declaration)
others_of nothing = []
others_of (into what) = []
others_of (through inlet others) = others

-- what takes the value of the child of spawn n, whose place was reached and whose other arguments are these
pub data Receives (n : ℕ) : Taker → Option Reached → List ℤ → Option Receiver → Type 0 where
  by_nothing : Receives n nothing None [] None
  by_place : (what : Into) (reached : Reached) → Receives n (into what) (Some reached) [] (Some (place reached n))
  by_inlet : (inlet : ℕ) (others : List (Term Declaration)) (zs : List ℤ)
      → Receives n (through inlet others) None zs (Some (instance.through inlet zs n))

-- what p delivers as it returns z: nothing where nothing takes it, or where p is aborted
pub data Delivers (p : Path) (i : Instance) (z : ℤ) : List Delivery → Type 0 where
  to_nothing : i.receiver ≡ None → Delivers p i z []
  of_aborted : i.aborted ≡ true → Delivers p i z []
  to_receiver : (receiver : Receiver) → i.receiver ≡ Some receiver → i.aborted ≡ false
      → Delivers p i z (record { child = p; value = z; receiver = receiver } ∷ [])

-- the actions that leave a body, and of a procedure wait for its children
pub data Leaves : Action → Type 0 where
  by_value : (e : Term Declaration) → Leaves (return_with e)
  by_no_value : Leaves return_nothing
  by_brace : Leaves close

pub data Waits : Action → Type 0 where
  for_sync : Waits sync
  to_leave : (act : Action) → Leaves act → Waits act

-- the value with which a body is left: 0 where none is written (C 1990, 6.6.6.4)
pub data LeavesWith (env : Environment Declaration) : Action → ℤ → Type 0 where
  gives_value : (e : Term Declaration) (z : ℤ) → value_of env e ≡ Ok z → LeavesWith env (return_with e) z
  gives_nothing : LeavesWith env return_nothing (pos 0)
  gives_brace : LeavesWith env close (pos 0)

-- action n is the head of the top activation
abbrev pub Heads : Instance → ℕ → Action → Type 0
Heads i n act = head_of i.top.items ≡ Some (record { number = n; act = act })

-- between two threads of the procedure, where an inlet may run: after a spawn, and before what waits for the children (Cilk 5.4 manual, `inlet`)
pub data AtBoundary (i : Instance) : Type 0 where
  after_spawn : i.below ≡ [] → i.spawned ≡ true → AtBoundary i
  before_wait : i.below ≡ [] → (n : ℕ) (act : Action) → Heads i n act → Waits act → AtBoundary i

-- a lock that p held is free, and any other is as it was
pub record Lets (p : Path) (before after : Option Lock) : Type 0 where
  pub own : before ≡ Some (held p) → after ≡ Some free
  pub other : before ≢ Some (held p) → after ≡ before

-- p holds a lock; p holds none (Cilk 5.4 manual, locks)
pub record Holds (s : State) (p : Path) : Type 0 where
  pub lock : ℕ
  pub held : slice_get s.locks lock ≡ Some (held p)

abbrev pub HoldsNone : State → Path → Type 0
HoldsNone s p = (k : ℕ) → slice_get s.locks k ≢ Some (held p)

-- no child of p lives and no delivery waits (Cilk 5.4 manual, `sync`, `return`)
pub record Free (s : State) (p : Path) (i : Instance) : Type 0 where
  pub childless : has_live_child s.instances p ≡ false
  pub delivered : i.waiting ≡ []
  pub lockless : HoldsNone s p
