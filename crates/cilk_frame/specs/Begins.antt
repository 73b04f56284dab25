-- Bodies of a program at their start.
use Rattle.std.specs.Prelude.{◌≡◌, ℕ, ℤ, false, List, [], ◌∷◌, length, Option, Some, None}
use Rattle.cilk_load_nodes.specs.syntax.Tree.{Program}
use Rattle.cilk_load_nodes.specs.declared.body.Body.{Body}
use Rattle.cilk_load_nodes.specs.Bodies.{body_of}
use Rattle.cilk_frame.specs.declared.awaited.Await.{Await}
use Rattle.cilk_frame.specs.Frames.{Activation, Frame, no_activation}
use Rattle.cilk_frame.specs.Starts.{activation_of}

-- a body is there, and takes these arguments (C 1990, 6.3.2.2)
abbrev pub Takes : Option Body → List ℤ → Type 0
Takes None arguments = ⊥
Takes (Some body) arguments = length arguments ≡ body.params

abbrev pub starts_with : Option Body → List ℤ → Option Await → Activation
starts_with None arguments awaits = no_activation
starts_with (Some body) arguments awaits = activation_of body arguments awaits

-- body b at its start
abbrev pub first_activation : Program → ℕ → List ℤ → Option Await → Activation
first_activation p b arguments awaits = starts_with (body_of p b) arguments awaits

-- an instance of procedure b at its start
abbrev pub started : Program → ℕ → ℕ → List ℤ → Frame
started p id b arguments = record {
  id = id;
  activations = first_activation p b arguments None ∷ [];
  boundary = false;
}
