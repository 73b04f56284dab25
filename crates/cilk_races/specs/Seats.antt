-- How the choices are counted, by worker.
use Rattle.std.specs.Prelude.{ℕ, zero, suc, ◌-◌, max, Bool, true, false, if◌then◌else◌, List, length, map, replicate, slice_index_or, slice_set}
use Rattle.cilk_log_replay.specs.machine.plans.declared.did.Did.{Did}
use Rattle.cilk_log_replay.specs.machine.plans.declared.did.Did.TheVariants.{Moved, Spawned}
use Rattle.cilk_log_replay.specs.machine.sched.declared.choice.Choice.{Choice}
use Rattle.cilk_log_replay.specs.machine.sched.declared.act.Act.{Act}
use Rattle.cilk_log_replay.specs.machine.sched.declared.act.Act.TheVariants.{Step, Pop, Steal}
use Rattle.cilk_races.specs.declared.seat.Seat.{Seat}
use Rattle.cilk_races.specs.Measure.{Measure, greatest}
use Rattle.cilk_races.specs.Cells.{next}
use Rattle.cilk_races.specs.Tallies.{Tally}

abbrev pub no_seat : Seat
no_seat = record { share = 0; put = 0; gone = 0; longest = 0 }

abbrev pub seat_at : List Seat → ℕ → Seat
seat_at seats i = slice_index_or seats i no_seat

-- a step that was work, by which a child may have been spawned
abbrev pub worked : Bool → Seat → Seat
worked false s = record s { share = next s.share }
worked true s = record s { share = next s.share; put = next s.put; longest = max s.longest (next s.put - s.gone) }

-- a frame left the deque
abbrev pub drawn : Seat → Seat
drawn s = record s { gone = next s.gone }

-- the seat of a worker is changed, where workers are numbered from 1
abbrev pub at_worker : ℕ → (Seat → Seat) → List Seat → List Seat
at_worker zero f seats = seats
at_worker (suc w) f seats = slice_set seats w (f (seat_at seats w))

pub record Counts : Type 0 where
  pub work : ℕ
  pub steals : ℕ
  pub pops : ℕ
  pub parks : ℕ
  pub seats : List Seat

abbrev pub no_counts : ℕ → Counts
no_counts n = record { work = 0; steals = 0; pops = 0; parks = 0; seats = replicate n no_seat }

abbrev pub is_moved : Did → Bool
is_moved Moved = true
is_moved other = false

abbrev pub is_spawned : Did → Bool
is_spawned (Spawned id n) = true
is_spawned other = false

abbrev pub step_after : ℕ → Did → Counts → Counts
step_after w did c =
    if is_moved did then record c { parks = next c.parks }
    else record c { work = next c.work; seats = at_worker w (worked (is_spawned did)) c.seats }

abbrev pub act_after : Act → ℕ → Did → Counts → Counts
act_after Step w did c = step_after w did c
act_after Pop w did c = record c { pops = next c.pops; seats = at_worker w drawn c.seats }
act_after (Steal victim) w did c = record c { steals = next c.steals; seats = at_worker victim drawn c.seats }

abbrev pub counts_after : Choice → Did → Counts → Counts
counts_after choice did c = act_after choice.act choice.worker did c

abbrev pub shares_in : List Seat → List ℕ
shares_in seats = map (λ (s : Seat). s.share) seats

abbrev pub longest_in : List Seat → ℕ
longest_in seats = greatest (map (λ (s : Seat). s.longest) seats)

-- the numbers that are told of what is kept
abbrev pub told : Tally → Counts → Measure
told t c = record {
  work = c.work;
  span = t.span;
  instances = length t.cells;
  live = t.live;
  depth = t.depth;
  bodies = max t.depth t.bodies;
  deque = longest_in c.seats;
  steals = c.steals;
  pops = c.pops;
  parks = c.parks;
  shares = shares_in c.seats;
}
