-- Accesses that are alike as they are kept are so as they are meant.
use Rattle.std.proofs.Common.{List, option_map, ap, ◌∙◌, sym}
use Rattle.cilk_log_replay.specs.machine.step.CellWords.{access_of}
use Rattle.cilk_races.specs.declared.touch.Touch as kept
use Rattle.cilk_races.specs.Alike.{AreAlike, AreKeptAlike, AreKeptOfThread, AreOfThread}
use Rattle.cilk_races.specs.Kept.{path_in}
use Rattle.cilk_races.specs.Line.{Line}
use Rattle.cilk_races.specs.PairWords.{placed_of, touch_of}
use Rattle.cilk_races.specs.Races.{Touch}

pub kept-alike : (rows : List Line) (a b : kept.Touch) → AreKeptAlike a b → AreAlike (touch_of rows a) (touch_of rows b)
kept-alike rows a b h = record {
  placed = ap (placed_of rows) h.placed;
  n = h.n;
  access = λ j. access_of (path_in rows (h.own j)) (h.access j);
  locks = h.locks;
}

pub kept-of-thread : (rows : List Line) (a b : kept.Touch) → AreKeptOfThread a b → AreOfThread (touch_of rows a) (touch_of rows b)
kept-of-thread rows a b h = record {
  path = ap (path_in rows) h.place;
  first = ap (option_map (path_in rows)) h.first;
  second = ap (option_map (path_in rows)) h.second;
}

-- a third one by the same thread
pub thread-on : (a b c : Touch) → AreOfThread a b → AreOfThread b c → AreOfThread a c
thread-on a b c h k = record { path = h.path ∙ k.path; first = h.first; second = k.second }

pub thread-back : (a b : Touch) → AreOfThread a b → AreOfThread b a
thread-back a b h = record { path = sym h.path; first = h.second; second = h.first }
