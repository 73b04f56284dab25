-- The relation of two steps, by what is kept of their instances.
use Rattle.std.specs.Prelude.{ℕ, suc, ◌+◌, ◌-◌, ◌==◌, nat_le, nat_lt, not, ◌&&◌, if◌then◌else◌, List, [], ◌∷◌, length, take, slice_index_or, Option, Some, None}
use Rattle.cilk_log_replay.specs.machine.model.Path.{Path, same_path}
use Rattle.cilk_races.specs.Line.{Line}
use Rattle.cilk_races.specs.declared.touch.Placed.{Placed}
use Rattle.cilk_races.specs.Kept.{path_in, block_in, last_in}
use Rattle.cilk_races.specs.Order.{Relation, ordered, race, order, inlets, if_so}

-- how many numbers stand in front of both paths
abbrev pub common : Path → Path → ℕ
common [] q = 0
common (k ∷ p) [] = 0
common (k ∷ p) (l ∷ q) = if k == l then suc (common p q) else 0

-- a step of an instance beside its child whose number stands there on the other path
abbrev pub child_by : List Line → Option ℕ → Placed → ℕ → ℕ → Relation
child_by rows None own other at =
    if_so (nat_le (slice_index_or (path_in rows other) at 0) own.children && (own.syncs == block_in rows other at)) race
child_by rows (Some child) own other at =
    if_so (not (same_path (path_in rows child) (take (at + 1) (path_in rows other))) && (last_in rows child == block_in rows other at)) race

-- a thread's step beside what takes the value of a child
abbrev pub value_in : List Line → Placed → ℕ → Relation
value_in rows own child =
    if_so (nat_le (slice_index_or (path_in rows child) (length (path_in rows child) - 1) 0) own.children && (own.syncs == last_in rows child)) order

abbrev pub inlets_in : List Line → ℕ → ℕ → Relation
inlets_in rows child other =
    if_so (not (same_path (path_in rows child) (path_in rows other)) && (last_in rows child == last_in rows other)) inlets

abbrev pub within_by : List Line → Option ℕ → Option ℕ → Placed → Placed → Relation
within_by rows None None a b = ordered
within_by rows None (Some child) a b = value_in rows a child
within_by rows (Some child) None a b = value_in rows b child
within_by rows (Some child) (Some other) a b = inlets_in rows child other

abbrev pub relation_at : List Line → Placed → Placed → ℕ → Relation
relation_at rows a b at =
    if nat_lt at (length (path_in rows a.place))
    then (if nat_lt at (length (path_in rows b.place)) then if_so (block_in rows a.place at == block_in rows b.place at) race
    else child_by rows b.taking b a.place at)
    else (if nat_lt at (length (path_in rows b.place)) then child_by rows a.taking a b.place at
    else within_by rows a.taking b.taking a b)

abbrev pub relation_in : List Line → Placed → Placed → Relation
relation_in rows a b = relation_at rows a b (common (path_in rows a.place) (path_in rows b.place))
