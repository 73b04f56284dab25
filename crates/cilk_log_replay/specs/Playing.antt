-- What contracts see of a player, and by which way it comes from one place to another.
use Rattle.std.specs.Prelude.{◌≡◌, ◌+◌, ◌-◌, ◌%◌, ◌&&◌, ℕ, Bool, List, length, leb, ltb, if◌then◌else◌}
use Rattle.cilk_machine.specs.Checkpoints.{Checkpoint}
use Rattle.cilk_machine.specs.Situation.{Situation}
use Rattle.cilk_log_replay.specs.Going.{Goes}
use Rattle.cilk_log_replay.specs.Tape.{Tape}
use Rattle.cilk_log_replay.specs.Tracks.{IsTrack}

pub record Playing : Type 0 where
  -- what is replayed
  pub tape : Tape
  -- behind how many choices its machine stands
  pub place : ℕ
  -- of how many of these, the last ones, a record is kept
  pub kept : ℕ

-- the last checkpoint up to place k
abbrev pub home : ℕ → ℕ
home k = k - k % 1000

-- no checkpoint lies between p and k, on the way on
abbrev pub is_on : ℕ → ℕ → Bool
is_on p k = leb p k && leb (home k) p

-- none lies between them on the way back, and of each choice there is a record
abbrev pub is_back : ℕ → ℕ → ℕ → Bool
is_back kept p k = ltb k p && (ltb (p - home k) 1000 && leb (p - k) kept)

-- how many choices are made and taken back on the way, and of how many a record is kept then
pub record Way : Type 0 where
  pub cost : ℕ
  pub kept : ℕ

-- the choices between are made or taken back; else it starts over from the checkpoint
abbrev pub way : ℕ → ℕ → ℕ → Way
way kept p k =
    if is_on p k then record { cost = k - p; kept = kept + (k - p) } else
    if is_back kept p k then record { cost = p - k; kept = kept - (p - k) } else
    record { cost = k % 1000; kept = k % 1000 }

-- it stands at place k then
abbrev pub played_to : Playing → ℕ → Playing
played_to p k = record p { place = k; kept = (way p.kept p.place k).kept }

-- what is always true of a player, that it has a second machine of the tape among it
pub record IsPlayer (t : Tape) (m beside last : Situation) (checkpoints : List Checkpoint) (actions : List ℕ) : Type 0 where
  pub goes : Goes t m
  -- it has a record of each choice since the checkpoint before
  pub full : length m.past ≡ m.choices % 1000
  pub spare : Goes t beside
  pub track : IsTrack t (length t.choices) last checkpoints actions
