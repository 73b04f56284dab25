-- What is kept behind the first choices of a tape is what their events tell.
use Rattle.std.specs.Prelude.{◌≡◌, ◌<◌, ℕ, suc, List, length, map, take, count_by}
use Rattle.cilk_log_replay.specs.machine.labelled.Bodies.{label}
use Rattle.cilk_log_replay.specs.machine.labelled.Labelled.{Labelled}
use Rattle.cilk_log_replay.specs.machine.model.Event.{Event}
use Rattle.cilk_log_replay.specs.machine.model.Made.{made}
use Rattle.cilk_log_replay.specs.machine.model.Path.{Path}
use Rattle.cilk_log_replay.specs.machine.spawn.Nodes.{path_at}
use Rattle.cilk_log_replay.specs.Tape.{Tape}
use Rattle.cilk_races.specs.Steps.{steps_of}
use Rattle.cilk_races.specs.Span.{span_of}
use Rattle.cilk_races.specs.Deeds.{Deed, deeds_of, is_work, is_park, pops, steals, is_work_of, puts, takes_out, in_deque}
use Rattle.cilk_races.specs.Measure.{greatest, most, is_end, living, depth_in, bodies_at}
use Rattle.cilk_races.specs.declared.gauge.Gauge.{Gauge}
use Rattle.cilk_races.specs.declared.seat.Seat.{Seat}
use Rattle.cilk_races.specs.Tallies.{Tally}
use Rattle.cilk_races.specs.Seats.{Counts, seat_at}
use Rattle.cilk_races.specs.CellsKept.{Keeps}
use Rattle.cilk_races.specs.Gauged.{events_at}

pub record Totals (program : Labelled) (events : List Event) (t : Tally) : Type 0 where
  pub instances : length t.cells ≡ length (made events)
  pub span : t.span ≡ span_of (steps_of program events)
  pub bodies : t.bodies ≡ greatest (map bodies_at (steps_of program events))
  pub depth : t.depth ≡ depth_in events
  pub ended : t.ended ≡ count_by is_end events
  pub live : t.live ≡ most living events

pub record Held (program : Labelled) (up : ℕ → Path) (count : ℕ) (events : List Event) (t : Tally) : Type 0 where
  pub cells : Keeps program up count events t.cells
  pub totals : Totals program events t

-- of a worker
pub record Seated (w : ℕ) (deeds : List Deed) (s : Seat) : Type 0 where
  pub share : s.share ≡ count_by (is_work_of w) deeds
  pub put : s.put ≡ count_by (puts w) deeds
  pub gone : s.gone ≡ count_by (takes_out w) deeds
  pub longest : s.longest ≡ most (in_deque w) deeds

-- of n workers
pub record Counted (n : ℕ) (deeds : List Deed) (c : Counts) : Type 0 where
  pub work : c.work ≡ count_by is_work deeds
  pub steals : c.steals ≡ count_by steals deeds
  pub pops : c.pops ≡ count_by pops deeds
  pub parks : c.parks ≡ count_by is_park deeds
  pub entries : length c.seats ≡ n
  pub each : (i : ℕ) → i < n → Seated (suc i) deeds (seat_at c.seats i)

-- behind the first k choices
pub record Gauged (t : Tape) (k : ℕ) (g : Gauge) : Type 0 where
  pub tally : Held (label t.program) (path_at g.machine.machine.nodes) (length g.machine.machine.nodes) (events_at t k) g.tally
  pub counts : Counted t.workers (deeds_of (take k t.choices) (events_at t k)) g.counts
