-- What is kept of the instances is what the events tell.
use Rattle.std.specs.Prelude.{⊤, ◌≡◌, ◌<◌, ◌≤◌, ◌+◌, ℕ, suc, Bool, false, List, [], ◌∷◌, length, Option, option_map, IfSome}
use Rattle.cilk_log_replay.specs.machine.labelled.Labelled.{Labelled}
use Rattle.cilk_log_replay.specs.machine.model.Path.{Path, same_path, parent_of}
use Rattle.cilk_log_replay.specs.machine.model.Event.{Event}
use Rattle.cilk_races.specs.Inside.{inside_of, outside}
use Rattle.cilk_races.specs.Steps.{Step, steps_of}
use Rattle.cilk_races.specs.Span.{is_of_thread, is_joined, takes, top, all_ranked}
use Rattle.cilk_races.specs.Measure.{depth_of}
use Rattle.cilk_races.specs.declared.cell.Cell.{Cell}
use Rattle.cilk_races.specs.Cells.{cell_at}

-- the paths of the instances by place: that of the root, and no two alike; what was not born goes by the path of the root
pub record Named (up : ℕ → Path) (count : ℕ) : Type 0 where
  pub some : 0 < count
  pub root : up 0 ≡ []
  pub past : (i : ℕ) → count ≤ i → up i ≡ []
  pub apart : (i j : ℕ) → i < count → j < count → up i ≡ up j → i ≡ j

-- an instance that was made, where there is one
abbrev pub IsThere : ℕ → Option ℕ → Type 0
IsThere count o = IfSome o (λ i. i < count)

abbrev pub rank_of : Labelled → List Event → (Step → Bool) → ℕ
rank_of program events f = top f (all_ranked (steps_of program events))

-- of the instance at a place
pub record Kept (program : Labelled) (up : ℕ → Path) (count : ℕ) (events : List Event) (i : ℕ) (c : Cell) : Type 0 where
  pub parent : parent_of (up i) ≡ option_map up c.parent
  pub parent_there : IsThere count c.parent
  pub depth : c.depth ≡ depth_of (up i)
  pub inside : inside_of program events (up i) ≡ record { above = c.above; taking = option_map up c.taking }
  -- one body more for each event, at most
  pub low : c.depth + c.above ≤ suc (length events)
  pub taking_there : IsThere count c.taking
  pub thread : c.thread ≡ rank_of program events (is_of_thread (up i))
  pub joined : c.joined ≡ rank_of program events (is_joined (up i))
  pub taken : c.taken ≡ rank_of program events (takes (up i))

-- nothing has this path
abbrev pub IsUnmade : (ℕ → Path) → ℕ → Path → Type 0
IsUnmade up count p = (i : ℕ) → i < count → same_path (up i) p ≡ false

-- the instances of a step were made
pub record Known (up : ℕ → Path) (count : ℕ) (s : Step) : Type 0 where
  pub place : ℕ
  pub within : place < count
  pub path : s.path ≡ up place
  pub taking : Option ℕ
  pub taking_is : s.taking ≡ option_map up taking
  pub taking_there : IsThere count taking
  pub child : Option ℕ
  pub child_is : s.child ≡ option_map up child
  pub child_there : IsThere count child

-- this holds of each step
abbrev pub Each : (Step → Type 0) → List Step → Type 0
Each P [] = ⊤
Each P (s ∷ steps) = P s × Each P steps

pub record Keeps (program : Labelled) (up : ℕ → Path) (count : ℕ) (events : List Event) (cells : List Cell) : Type 0 where
  pub entries : length cells ≡ count
  pub few : count ≤ suc (length events)
  pub each : (i : ℕ) → i < count → Kept program up count events i (cell_at cells i)
  pub unmade : (p : Path) → IsUnmade up count p → inside_of program events p ≡ outside
  pub known : Each (Known up count) (steps_of program events)
