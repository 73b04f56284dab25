-- What the code's words for touches and their relations mean.
use Rattle.std.specs.Prelude.{List, option_map}
use Rattle.cilk_log_replay.specs.machine.step.CellWords.{access_of}
use Rattle.cilk_races.specs.declared.relation.Relation as coded
use Rattle.cilk_races.specs.declared.relation.Relation.TheVariants as named
use Rattle.cilk_races.specs.Line.{Line}
use Rattle.cilk_races.specs.declared.touch.Placed as kept
use Rattle.cilk_races.specs.declared.touch.Touch as kept_touch
use Rattle.cilk_races.specs.Kept.{path_in}
use Rattle.cilk_races.specs.Order.{Placed, Relation, ordered, race, order, inlets}
use Rattle.cilk_races.specs.Races.{Touch}

abbrev pub relation_named : coded.Relation → Relation
relation_named named.Ordered = ordered
relation_named named.Race = race
relation_named named.Order = order
relation_named named.Inlets = inlets

abbrev pub placed_of : List Line → kept.Placed → Placed
placed_of rows p =
    record { path = path_in rows p.place; taking = option_map (path_in rows) p.taking; syncs = p.syncs; children = p.children }

abbrev pub touch_of : List Line → kept_touch.Touch → Touch
touch_of rows t = record {
  choice = t.choice;
  placed = placed_of rows t.placed;
  n = t.n;
  access = access_of (path_in rows t.own) t.access;
  locks = t.locks.items;
  procedure = t.procedure;
}
