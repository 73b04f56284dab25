-- Schedules that take two accesses of a run in the other order.
use Rattle.std.specs.Prelude.{⊤, ◌≡◌, ◌<◌, ◌≤◌, ◌==◌, nat_le, ◌&&◌, ℕ, Bool, true, false, not, List, length, count_by, Option, Some, None}
use Rattle.cilk_log_replay.specs.Tape.{Tape, position_at}
use Rattle.cilk_log_replay.specs.machine.labelled.Bodies.{label}
use Rattle.cilk_log_replay.specs.machine.model.End.{End, end_now}
use Rattle.cilk_log_replay.specs.machine.model.Path.{same_path}
use Rattle.cilk_log_replay.specs.machine.model.Run.{Position}
use Rattle.cilk_races.specs.Races.{Pair, Touch, same_cell, touches_of}

abbrev pub same_bool : Bool → Bool → Bool
same_bool true b = b
same_bool false b = not b

-- by one instance and one action, of one cell, and both read it or both write it
abbrev pub is_again : Touch → Touch → Bool
is_again a b =
    same_path a.placed.path b.placed.path && ((a.n == b.n) && (same_cell a.access.at b.access.at && same_bool a.access.writes b.access.writes))

-- how often an access is made up to choice k
abbrev pub times : Touch → ℕ → List Touch → ℕ
times a k touches = count_by (λ t. is_again a t && nat_le t.choice k) touches

-- behind some choice the second access was made as often as behind its own in the run, and the first was not, which is made later
pub record AreReversed (touches now : List Touch) (p : Pair) : Type 0 where
  pub choice : ℕ
  pub second : times p.second p.second.choice touches ≤ times p.second choice now
  pub before : times p.first choice now < times p.first p.first.choice touches
  pub last : ℕ
  pub first : times p.first p.first.choice touches ≤ times p.first last now

-- how such a schedule ends, and how many choices of how many workers it has
pub record Reversal : Type 0 where
  pub end : End
  pub choices : ℕ
  pub workers : ℕ

-- another run of the program of a tape, whose accesses are these, ends so
pub record Reverses (t : Tape) (p : Pair) (r : Reversal) : Type 0 where
  pub schedule : Tape
  pub program : schedule.program ≡ t.program
  pub workers : schedule.workers ≡ r.workers
  pub choices : length schedule.choices ≡ r.choices
  pub at : Position
  pub led : position_at schedule r.choices ≡ Some at
  pub end : r.end ≡ end_now (label t.program) at.standing
  pub main : ℕ
  pub start : (label t.program).main ≡ Some main
  pub are : AreReversed (touches_of (label t.program) main t.workers t.choices) (touches_of (label t.program) main schedule.workers schedule.choices) p

-- two accesses that meet, and how a schedule ends that takes them in the other order, where one was found
pub record Meeting : Type 0 where
  pub pair : Pair
  pub reversal : Option Reversal

abbrev pub ReversesBy : Tape → Pair → Option Reversal → Type 0
ReversesBy t p None = ⊤
ReversesBy t p (Some r) = Reverses t p r

abbrev pub IsMeetingOf : Tape → Meeting → Type 0
IsMeetingOf t m = ReversesBy t m.pair m.reversal
