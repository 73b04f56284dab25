-- Pairs of kept accesses.
use Rattle.std.specs.Prelude.{◌<◌, ℕ, Bool, false, not, List, [], ◌∷◌, ◌++◌, map, filter, slice_index_or, take, if◌then◌else◌, Option, Some, None}
use Rattle.std.specs.List.{list_any}
use Rattle.cilk_log_replay.specs.machine.model.labelled.Labelled.{Labelled}
use Rattle.cilk_log_replay.specs.machine.model.Event.{Event}
use Rattle.cilk_log_replay.specs.machine.step.Accesses.{output}
use Rattle.cilk_races.specs.declared.pairing.Pair as kept
use Rattle.cilk_races.specs.Line.{Line}
use Rattle.cilk_races.specs.declared.touch.Touch as touched
use Rattle.cilk_races.specs.Order.{Relation}
use Rattle.cilk_races.specs.Races.{Touch, Pair, meet, is_ordered, paired, same_entry, entries_of}
use Rattle.cilk_races.specs.Related.{relation_in}
use Rattle.cilk_races.specs.PairWords.{relation_named, touch_of}

-- what stands where there is no access
abbrev pub no_touch : Touch
no_touch = record {
  choice = 0;
  placed = record { path = []; taking = None; syncs = 0; children = 0 };
  n = 0;
  access = record { at = output; writes = false };
  locks = [];
  procedure = 0;
}

abbrev pub touches_of : List Line → List touched.Touch → List Touch
touches_of rows touches = map (touch_of rows) touches

abbrev pub touch_at : List Touch → ℕ → Touch
touch_at touches k = slice_index_or touches k no_touch

abbrev pub pair_of : List Line → List touched.Touch → kept.Pair → Pair
pair_of rows touches p = record {
  first = touch_at (touches_of rows touches) p.first;
  second = touch_at (touches_of rows touches) p.second;
  relation = relation_named p.relation;
}

abbrev pub pairs_told : List Line → List touched.Touch → List kept.Pair → List Pair
pairs_told rows touches pairs = map (pair_of rows touches) pairs

-- the pairs of an access with those before it
abbrev pub with_earlier : Labelled → List Event → List Touch → Touch → List Pair
with_earlier program events before b =
    filter (λ p. not (is_ordered p.relation)) (map (λ a. paired program events a b) (filter (λ a. meet a b) before))

abbrev pub Pairs : Type 0
Pairs = List Pair

-- the entries of these pairs and of those of access b with the first k
abbrev pub entries_up_to : Labelled → List Event → List Touch → List Pair → ℕ → Touch → List Pair
entries_up_to program events touches pairs k b = entries_of (pairs ++ with_earlier program events (take k touches) b)

-- whether one of these is told as the same
abbrev pub is_told : List Pair → Pair → Bool
is_told entries x = list_any (λ e. same_entry e x) entries

-- one pair more, unless one of these is told as the same
abbrev pub with_entry : List Pair → Pair → List Pair
with_entry entries x = if is_told entries x then entries else entries ++ x ∷ []

-- both accesses are there
pub record Within (count : ℕ) (p : kept.Pair) : Type 0 where
  pub first : p.first < count
  pub second : p.second < count

abbrev pub unless_ordered : Relation → Option Relation
unless_ordered relation = if is_ordered relation then None else Some relation

-- how two accesses are related that meet, if they are not ordered
abbrev pub between : List Line → touched.Touch → touched.Touch → Option Relation
between rows a b = if meet (touch_of rows a) (touch_of rows b) then unless_ordered (relation_in rows a.placed b.placed) else None
