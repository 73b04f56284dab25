-- What the code's numbers of a run mean.
use Rattle.cilk_races.specs.Measure as model
use Rattle.cilk_races.specs.declared.measure.Measure.{Measure}

abbrev pub numbers_of : Measure → model.Measure
numbers_of m = record {
  work = m.work;
  span = m.span;
  instances = m.instances;
  live = m.live;
  depth = m.depth;
  bodies = m.bodies;
  deque = m.deque;
  steals = m.steals;
  pops = m.pops;
  parks = m.parks;
  shares = m.shares.items;
}
