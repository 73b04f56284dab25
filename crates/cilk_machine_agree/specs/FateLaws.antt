-- What the nodes of instances keep of the events.
use Rattle.std.specs.Prelude.{◌≡◌, ◌<◌, ℕ, suc, true, List, [], ◌∷◌, ◌++◌, length, Some, None}
use Rattle.cilk_laws_model.specs.labelled.Labelled.{Labelled}
use Rattle.cilk_laws_model.specs.model.Path.{Path}
use Rattle.cilk_laws_model.specs.model.Event.{Event}
use Rattle.cilk_laws_model.specs.model.Fate.{lives, fate_of}
use Rattle.cilk_spawn.specs.Nodes.{Node, IsTree, node_at, is_live, root_alone, path_at}
use Rattle.cilk_machine_agree.specs.Fated.{fate_named, Fated, Follows}

-- before any event
abbrev pub RootsAreFated : Type 0
RootsAreFated = (program : Labelled) (main : ℕ) → program.main ≡ Some main → Fated program (root_alone main) []

-- whoever lives is told so
abbrev pub LivingAreTold : List Node → List Event → Type 0
LivingAreTold ns events = (i : ℕ) → is_live (node_at ns i) ≡ true → fate_of events (path_at ns i) ≡ Some lives

-- after one event more, that of the choice of this number
abbrev pub FatesAreKept : Type 0
FatesAreKept = (program : Labelled) (ns now : List Node) (events : List Event) (did : Event) → IsTree now → Fated program ns events
    → Follows program (suc (length events)) ns now did → LivingAreTold now (events ++ did ∷ []) → Fated program now (events ++ did ∷ [])

-- what the events tell of a path
pub record Reads (ns : List Node) (events : List Event) : Type 0 where
  pub there : (i : ℕ) → i < length ns → fate_of events (path_at ns i) ≡ Some (fate_named (node_at ns i).fate)
  pub nowhere : (p : Path) → ((i : ℕ) → i < length ns → path_at ns i ≡ p → ⊥) → fate_of events p ≡ None

abbrev pub FatesAreRead : Type 0
FatesAreRead = (program : Labelled) (ns : List Node) (events : List Event) → Fated program ns events → Reads ns events

-- whatever the events were
abbrev pub FatesAreOne : Type 0
FatesAreOne = (program : Labelled) (ns : List Node) (events more : List Event) → Fated program ns events → Fated program ns more
    → (p : Path) → fate_of events p ≡ fate_of more p
