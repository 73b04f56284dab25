-- When the machine stands as the definitions say: each id goes by its path, and each frame and node stand for the instance of their id.
use Rattle.std.specs.Prelude.{◌≡◌, ◌<◌, ℕ, true, nat_eq, List, [], length, map, Option, Some, None, is_some, if◌then◌else◌}
use Rattle.cilk_laws_model.specs.syntax.Tree.{Program}
use Rattle.cilk_laws_model.specs.labelled.Bodies.{label}
use Rattle.cilk_laws_model.specs.model.Path.{Path}
use Rattle.cilk_laws_model.specs.model.Instance.{Instance, started}
use Rattle.cilk_laws_model.specs.model.State.{Entry, Instances, instance_at}
use Rattle.cilk_laws_model.specs.model.Hands.{WorkerOf, named}
use Rattle.cilk_laws_model.specs.model.Run.{Standing}
use Rattle.cilk_sched.specs.frame.Frames.{Frame}
use Rattle.cilk_sched.specs.frame.Stands.{StandsFor}
use Rattle.cilk_spawn.specs.Nodes.{Node, IsTree, node_at, is_live, live_ids, path_at}
use Rattle.cilk_sched.specs.Count.{AllHeld}
use Rattle.cilk_machine_agree.specs.Outside.{Outside, SameOutside}
use Rattle.cilk_machine_agree.specs.Alike.{NodeStandsFor, procedure_in}

pub record MachineParts : Type 0 where
  pub outside : Outside
  pub nodes : List Node
  pub places : List (WorkerOf Frame)

-- f, but x at k
abbrev pub instead : {A : Type 0} → (ℕ → A) → ℕ → A → ℕ → A
instead f k x i = if nat_eq i k then x else f i

-- the live instances in the order of their birth: that of each id is given, and stands at its path
abbrev pub entry_of : List Node → (ℕ → Instance) → ℕ → Entry
entry_of ns who i = record { path = path_at ns i; instance = who i }

abbrev pub instances_of : List Node → (ℕ → Instance) → Instances
instances_of ns who = map (entry_of ns who) (live_ids ns)

-- the path of the instance whose frame it is
abbrev pub name_in : List Node → Frame → Path
name_in ns f = path_at ns f.id

-- a frame of a worker stands for a live instance
pub record Held (program : Program) (ns : List Node) (who : ℕ → Instance) (f : Frame) : Type 0 where
  pub live : is_live (node_at ns f.id) ≡ true
  pub stands : StandsFor (label program) f (who f.id)

-- so does one that is parked
pub record Parked (program : Program) (i : ℕ) (a : Instance) (f : Frame) : Type 0 where
  pub own : f.id ≡ i
  pub stands : StandsFor (label program) f a

-- `who` gives the instance of each id that lives
pub record Agrees (program : Program) (m : MachineParts) (who : ℕ → Instance) (at : Standing) : Type 0 where
  pub tree : IsTree m.nodes
  pub outside : SameOutside (label program) (path_at m.nodes) (length m.nodes) m.outside at.state
  pub instances : at.state.instances ≡ instances_of m.nodes who
  pub tells : (i : ℕ) → is_live (node_at m.nodes i) ≡ true → NodeStandsFor (label program) (path_at m.nodes) (procedure_in m.nodes) (node_at m.nodes i) (who i)
  pub places : at.scheduler.places ≡ named (name_in m.nodes) m.places
  pub parked : (i : ℕ) → i < length m.nodes → at.scheduler.parked (path_at m.nodes i) ≡ is_some (node_at m.nodes i).parked
  pub held : AllHeld (Held program m.nodes who) m.places
  pub waits : (i : ℕ) (f : Frame) → is_live (node_at m.nodes i) ≡ true → (node_at m.nodes i).parked ≡ Some f → Parked program i (who i) f

-- it may be read off the standing, so that nothing is hidden
abbrev pub instance_or : Instance → Option Instance → Instance
instance_or a None = a
instance_or a (Some i) = i

abbrev pub read_off : Program → MachineParts → Standing → ℕ → Instance
read_off p m at i = instance_or (started (label p) 0 []) (instance_at at.state.instances (path_at m.nodes i))
