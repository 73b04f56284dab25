-- Who is whose child, as links tell it, and the paths that follow from that.
use Rattle.std.specs.Prelude.{◌<◌, ⊤, ℕ, zero, suc, List, [], map, Option, Some, None, slice_index_or}
use Rattle.cilk_machine_agree.specs.model.Path.{Path, child_path}
use Rattle.cilk_machine_agree.specs.spawn.Nodes.{Node}
use Rattle.cilk_view.specs.declared.link.Link.{Link}

abbrev pub link_by : Option ℕ → ℕ → Option Link
link_by None ordinal = None
link_by (Some p) ordinal = Some (record { parent = p; ordinal = ordinal })

abbrev pub link_of : Node → Option Link
link_of n = link_by n.parent n.ordinal

abbrev pub links_of : List Node → List (Option Link)
links_of ns = map link_of ns

abbrev pub link_at : List (Option Link) → ℕ → Option Link
link_at links i = slice_index_or links i None

abbrev pub path_over : (ℕ → Path) → Option Link → Path
path_over up None = []
path_over up (Some l) = child_path (up l.parent) l.ordinal

-- with at most so many steps up
abbrev pub path_within : ℕ → List (Option Link) → ℕ → Path
path_within zero links i = []
path_within (suc steps) links i = path_over (path_within steps links) (link_at links i)

-- the path of i: a parent's number is below that of its child
abbrev pub linked_path : List (Option Link) → ℕ → Path
linked_path links i = path_within (suc i) links i

abbrev pub IsUp : ℕ → Option Link → Type 0
IsUp i None = ⊤
IsUp i (Some l) = l.parent < i

abbrev pub AreUp : List (Option Link) → Type 0
AreUp links = (i : ℕ) → IsUp i (link_at links i)
