-- The paths that links tell are those that the nodes tell.
use Rattle.std.proofs.Common.{◌≡◌, ◌<◌, ℕ, zero, suc, List, [], ◌∷◌, ◌++◌, Option, Some, None, refl, sym, ap, ◌∙◌, subst, arith}
use Rattle.cilk_machine_agree.specs.model.Path.{Path, child_path}
use Rattle.cilk_machine_agree.specs.spawn.Nodes.{Node, node_at, path_via, path_up, path_at, IsBelow, IsTree}
use Rattle.cilk_machine_agree.proofs.spawn_laws.Trees.{path_child, same_front}
use Rattle.cilk_view.specs.declared.link.Link.{Link}
use Rattle.cilk_view.specs.Ups.{link_by, link_of, links_of, link_at, path_over, path_within, linked_path, IsUp, AreUp}

-- the link of the node at an id
pub link_there : (ns : List Node) (i : ℕ) → link_at (links_of ns) i ≡ link_of (node_at ns i)
link_there [] i = refl
link_there (n ∷ ns) zero = refl
link_there (n ∷ ns) (suc i) = link_there ns i

over_link : (up : ℕ → Path) (parent : Option ℕ) (ordinal : ℕ) → path_over up (link_by parent ordinal) ≡ path_via up parent ordinal
over_link up None ordinal = refl
over_link up (Some p) ordinal = refl

over_same : (up down : ℕ → Path) (l : Option Link) → ((j : ℕ) → up j ≡ down j) → path_over up l ≡ path_over down l
over_same up down None same = refl
over_same up down (Some l) same = ap (λ (p : Path). child_path p l.ordinal) (same l.parent)

path_steps : (ns : List Node) (steps i : ℕ) → path_within steps (links_of ns) i ≡ path_up ns steps i
path_steps ns zero i = refl
path_steps ns (suc steps) i =
    over_same (path_within steps (links_of ns)) (path_up ns steps) (link_at (links_of ns) i) (path_steps ns steps)
    ∙ ap (path_over (path_up ns steps)) (link_there ns i) ∙ over_link (path_up ns steps) (node_at ns i).parent (node_at ns i).ordinal

-- the path by the links is the path by the nodes
pub path_is : (ns : List Node) (i : ℕ) → linked_path (links_of ns) i ≡ path_at ns i
path_is ns i = path_steps ns (suc i) i

up_link : (i : ℕ) (parent : Option ℕ) (ordinal : ℕ) → IsBelow parent i → IsUp i (link_by parent ordinal)
up_link i None ordinal below = tt
up_link i (Some p) ordinal below = below

pub are_up : (ns : List Node) → IsTree ns → AreUp (links_of ns)
are_up ns t i = subst (IsUp i) (sym (link_there ns i)) (up_link i (node_at ns i).parent (node_at ns i).ordinal (t.below i))

-- more steps than are needed change nothing
over_near : (up down : ℕ → Path) (i : ℕ) (l : Option Link) → IsUp i l → ((j : ℕ) → j < i → up j ≡ down j) → path_over up l ≡ path_over down l
over_near up down i None is same = refl
over_near up down i (Some l) is same = ap (λ (p : Path). child_path p l.ordinal) (same l.parent is)

enough : (links : List (Option Link)) → AreUp links → (k l i : ℕ) → i < k → i < l → path_within k links i ≡ path_within l links i
enough links up zero l i h g = absurd (omega arith)
enough links up (suc k) zero i h g = absurd (omega arith)
enough links up (suc k) (suc l) i h g =
    over_near (path_within k links) (path_within l links) i (link_at links i) (up i) (λ j lt. enough links up k l j (omega arith) (omega arith))

-- the path of a child
pub path_step : (links : List (Option Link)) (i : ℕ) (l : Link) → AreUp links → link_at links i ≡ Some l
    → (linked_path links i ≡ child_path (linked_path links l.parent) l.ordinal) × (l.parent < i)
path_step links i l up is =
    let below : l.parent < i = subst (IsUp i) is (up i) in
    (ap (path_over (path_within i links)) is ∙ ap (λ (p : Path). child_path p l.ordinal) (enough links up i (suc l.parent) l.parent below (omega arith)), below)

pub path_top : (links : List (Option Link)) (i : ℕ) → link_at links i ≡ None → linked_path links i ≡ []
path_top links i is = ap (path_over (path_within i links)) is

-- the last number of a child's path is its ordinal
pub link_found : (ns : List Node) (i p o : ℕ) (front : Path) → IsTree ns → (node_at ns i).parent ≡ Some p → path_at ns i ≡ front ++ o ∷ []
    → link_of (node_at ns i) ≡ Some (record { parent = p; ordinal = o })
link_found ns i p o front t e is =
    let last = (same_front (path_at ns p) front (node_at ns i).ordinal o (sym (path_child ns t i p e) ∙ is)).1 in
    ap (λ (u : Option ℕ). link_by u (node_at ns i).ordinal) e ∙ ap (λ (k : ℕ). let l : Link = record { parent = p; ordinal = k } in Some l) last

pub link_missing : (ns : List Node) (i : ℕ) → (node_at ns i).parent ≡ None → link_of (node_at ns i) ≡ None
link_missing ns i e = ap (λ (u : Option ℕ). link_by u (node_at ns i).ordinal) e
