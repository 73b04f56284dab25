-- The paths behind one path, in their order.
use Rattle.std.specs.Prelude.{ℕ, List, [], ◌∷◌, length, map, Option, Some, None}
use Rattle.std.specs.List.{filter, range_with_len}
use Rattle.cilk_machine_agree.specs.model.Path.{Path}
use Rattle.cilk_machine_agree.specs.model.ViewTrees.{is_before, in_order}
use Rattle.cilk_machine_agree.specs.spawn.Nodes.{Node, path_at}

-- those of all instances ever made
abbrev pub all_paths : List Node → List Path
all_paths ns = in_order (map (path_at ns) (range_with_len 0 (length ns)))

abbrev pub beyond : Path → List Path → List Path
beyond p paths = filter (is_before p) paths

-- from that of this instance on
abbrev pub from_here : List Node → Option ℕ → List Path
from_here ns None = []
from_here ns (Some i) = path_at ns i ∷ beyond (path_at ns i) (all_paths ns)
