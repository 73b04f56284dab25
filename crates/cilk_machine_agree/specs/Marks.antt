-- What an `abort` marks (Cilk 5.4 manual, `abort`).
use Rattle.std.specs.Prelude.{Bool, true, map, if◌then◌else◌}
use Rattle.cilk_laws_model.specs.model.Path.{Path}
use Rattle.cilk_laws_model.specs.model.Instance.{Instance}
use Rattle.cilk_laws_model.specs.model.State.{State}
use Rattle.cilk_laws_model.specs.model.Change.{mark}

abbrev pub marked_if : Bool → Instance → Instance
marked_if b i = if b then record i { aborted = true } else i

-- the live descendants of p are marked, and p does not go on
abbrev pub marked_from : State → Path → State
marked_from s p = record s { instances = map (mark p) s.instances }
