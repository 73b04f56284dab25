-- What became of the instances: each node keeps what the events tell.
use Rattle.std.specs.Prelude.{◌≡◌, ◌<◌, ℕ, suc, if◌then◌else◌, List, length, map, Some}
use Rattle.std.specs.List.{range_with_len}
use Rattle.cilk_laws_model.specs.labelled.Labelled.{Labelled}
use Rattle.cilk_laws_model.specs.model.Path.{Path, same_path}
use Rattle.cilk_laws_model.specs.model.Event.{Event, spawned, delivered, returned, ended}
use Rattle.cilk_laws_model.specs.model.Fate as model
use Rattle.cilk_laws_model.specs.model.Fate.{lives, has_returned, was_delivered, was_aborted, fate_of}
use Rattle.cilk_laws_model.specs.model.Made.{callee_of, procedure_of, made}
use Rattle.cilk_spawn.specs.declared.fate.Fate.{Fate}
use Rattle.cilk_spawn.specs.declared.fate.Fate.TheVariants.{Live, Returned, Delivered, Aborted}
use Rattle.cilk_spawn.specs.Nodes.{Node, node_at, after_taking, path_at}

-- the word of the definitions for a fate
abbrev pub fate_named : Fate → model.Fate
fate_named Live = lives
fate_named Returned = has_returned
fate_named (Delivered choice) = was_delivered choice
fate_named (Aborted choice) = was_aborted choice

-- the nodes are the instances ever made, in the order of their birth, and each keeps the fate and the procedure that the events tell
pub record Fated (program : Labelled) (ns : List Node) (events : List Event) : Type 0 where
  pub paths : map (path_at ns) (range_with_len 0 (length ns)) ≡ made events
  pub fates : (i : ℕ) → i < length ns → fate_of events (path_at ns i) ≡ Some (fate_named (node_at ns i).fate)
  pub procedures : (i : ℕ) → i < length ns → procedure_of program events (path_at ns i) ≡ Some (node_at ns i).procedure

-- the fate of p after this event of a choice, where it was that before
abbrev pub fate_after : ℕ → Path → Event → Fate → Fate
fate_after choice p (delivered q n) fate = if same_path q p then after_taking choice fate else fate
fate_after choice p (returned q n) fate = if same_path q p then Returned else fate
fate_after choice p (ended q) fate = if same_path q p then Aborted choice else fate
fate_after choice p other fate = fate

-- spawn n has given birth to the child of this path, of the procedure that it names
pub record IsBorn (program : Labelled) (ns now : List Node) (child : Path) (n : ℕ) : Type 0 where
  pub count : length now ≡ suc (length ns)
  pub path : path_at now (length ns) ≡ child
  pub fate : (node_at now (length ns)).fate ≡ Live
  pub procedure : callee_of program n ≡ Some (node_at now (length ns)).procedure

-- only a spawn gives birth
abbrev pub Births : Labelled → List Node → List Node → Event → Type 0
Births program ns now (spawned child n) = IsBorn program ns now child n
Births program ns now other = length now ≡ length ns

-- an instance that was made before
pub record Stays (choice : ℕ) (ns now : List Node) (did : Event) (i : ℕ) : Type 0 where
  pub path : path_at now i ≡ path_at ns i
  pub procedure : (node_at now i).procedure ≡ (node_at ns i).procedure
  pub fate : (node_at now i).fate ≡ fate_after choice (path_at ns i) did (node_at ns i).fate

-- by this event of a choice the nodes have become these
pub record Follows (program : Labelled) (choice : ℕ) (ns now : List Node) (did : Event) : Type 0 where
  pub births : Births program ns now did
  pub stays : (i : ℕ) → i < length ns → Stays choice ns now did i
