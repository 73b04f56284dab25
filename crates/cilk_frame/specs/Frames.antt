-- What contracts see of a frame, and what each call makes of it.
use Rattle.std.specs.Prelude.{ℕ, ℤ, ◌-◌, ◌&&◌, nat_lt, Bool, List, [], ◌∷◌, ◌++◌, length, take, Option, None, slice_index_or, slice_set}
use Rattle.cilk_frame.specs.declared.awaited.Await.{Await}

-- a body that is being run: the number of the action with which it goes on, its cells, and what awaits its value, if anything
pub record Activation : Type 0 where
  pub node : ℕ
  pub cells : List ℤ
  pub awaits : Option Await

-- the number of its instance, the activations from the procedure's own up to the one that goes on, and the boundary flag
pub record Frame : Type 0 where
  pub id : ℕ
  pub activations : List Activation
  pub boundary : Bool

-- what stands where there is no activation
abbrev pub no_activation : Activation
no_activation = record { node = 0; cells = []; awaits = None }

-- activation i, that of the procedure being 0
abbrev pub activation_at : Frame → ℕ → Activation
activation_at f i = slice_index_or f.activations i no_activation

abbrev pub depth : Frame → ℕ
depth f = length f.activations

-- the place of the activation that goes on
abbrev pub top_place : Frame → ℕ
top_place f = depth f - 1

abbrev pub top_of : Frame → Activation
top_of f = activation_at f (top_place f)

-- the frame with another activation at place i
abbrev pub with_activation : ℕ → Activation → Frame → Frame
with_activation i a f = record f { activations = slice_set f.activations i a }

-- the frame with z in one cell of activation i
abbrev pub with_cell : ℕ → ℕ → ℤ → Frame → Frame
with_cell i slot z f =
    with_activation i (record (activation_at f i) { cells = slice_set (activation_at f i).cells slot z }) f

-- the frame with z in one cell of the top activation
abbrev pub put_top : ℕ → ℤ → Frame → Frame
put_top slot z f = with_cell (top_place f) slot z f

-- the same in the activation below the top
abbrev pub put_below : ℕ → ℤ → Frame → Frame
put_below slot z f = with_cell (depth f - 2) slot z f

-- the top activation goes on with action n
abbrev pub jumped : ℕ → Frame → Frame
jumped n f = with_activation (top_place f) (record (top_of f) { node = n }) f

abbrev pub with_boundary : Bool → Frame → Frame
with_boundary b f = record f { boundary = b }

-- the same, as an action is acted: one of the procedure's own clears the flag
abbrev pub gone_to : ℕ → Frame → Frame
gone_to n f = with_boundary (f.boundary && nat_lt 1 (depth f)) (jumped n f)

-- the top activation stood at action n, and this was the flag
abbrev pub stood : ℕ → Bool → Frame → Frame
stood n b f = with_boundary b (jumped n f)

-- another activation goes on
abbrev pub entered : Activation → Frame → Frame
entered a f = record f { activations = f.activations ++ a ∷ [] }

-- the top activation is no more
abbrev pub left : Frame → Frame
left f = record f { activations = take (top_place f) f.activations }
