-- What contracts see of a debugger: what it shows, and what its moves cost.
use Rattle.std.specs.Prelude.{◌+◌, ◌-◌, ◌^◌, ℕ, Bool, List, min}
use Rattle.cilk_debug.specs.Debugging.{Debugging}
use Rattle.cilk_log_replay.specs.Playing.{Playing, way}

pub record Working : Type 0 where
  pub shown : Debugging
  -- of how many of the last choices a record is kept
  pub kept : ℕ
  -- how many choices were made and taken back since it was new
  pub work : ℕ

-- it stays at its greatest value
abbrev pub worked : ℕ → ℕ → ℕ
worked work cost = min (work + cost) (2 ^ 64 - 1)

-- it moves to position k
abbrev pub gone_to : Working → ℕ → Working
gone_to d k =
    record {
      shown = record d.shown { position = k };
      kept = (way d.kept d.shown.position k).kept;
      work = worked d.work (way d.kept d.shown.position k).cost;
    }

-- what it is by its player
abbrev pub working_of : Playing → List Bool → ℕ → Working
working_of p marks work = record { shown = record { tape = p.tape; position = p.place; marks = marks }; kept = p.kept; work = work }

abbrev pub with_marks : Working → List Bool → Working
with_marks d marks = record d { shown = record d.shown { marks = marks } }
