-- Which bodies an instance runs above its procedure's own, as the events tell.
use Rattle.std.specs.Prelude.{ℕ, zero, suc, ◌+◌, Bool, true, false, if◌then◌else◌, List, [], ◌∷◌, Option, Some, None, unwrap_or}
use Rattle.cilk_log_replay.specs.machine.nodes.model.labelled.Labelled.{Action, Labelled}
use Rattle.cilk_log_replay.specs.machine.nodes.model.Path.{Path, same_path, parent_of}
use Rattle.cilk_log_replay.specs.machine.nodes.model.Change.{leaves}
use Rattle.cilk_log_replay.specs.machine.nodes.model.Event.{Event, acted, spawned, delivered, returned, ended, trapped, moved}
use Rattle.cilk_races.specs.Acts.{act_of, is_call, goes_through, is_so}

pub record Inside : Type 0 where
  -- how many bodies of C functions and inlets stand above the procedure's own
  pub above : ℕ
  -- the child whose value the inlet among them takes, if there is one
  pub taking : Option Path

abbrev pub outside : Inside
outside = record { above = 0; taking = None }

-- the top body is left: without a body above the procedure's own no inlet is there
abbrev pub without_top : ℕ → Option Path → Inside
without_top zero taking = outside
without_top (suc zero) taking = outside
without_top (suc (suc n)) taking = record { above = suc n; taking = taking }

-- an action that leaves its body, or calls, or does neither
abbrev pub by_kind : Bool → Bool → Inside → Inside
by_kind true calls i = without_top i.above i.taking
by_kind false true i = record i { above = i.above + 1 }
by_kind false false i = i

abbrev pub by_act : Option Action → Inside → Inside
by_act act i = by_kind (is_so leaves act) (is_so is_call act) i

-- an inlet is entered with the value of child c, or the value is put into a place (Cilk 5.4 manual, `inlet`)
abbrev pub by_entry : Bool → Path → Inside → Inside
by_entry true c i = record { above = i.above + 1; taking = Some c }
by_entry false c i = i

abbrev pub by_value : Option Action → Path → Inside → Inside
by_value act c i = by_entry (is_so goes_through act) c i

-- who takes the value of a child; the root stands for its own parent
abbrev pub parent_path : Path → Path
parent_path p = unwrap_or (parent_of p) []

-- the bodies of p behind an event, where they were these before
abbrev pub inside_by : Labelled → Path → Event → Inside → Inside
inside_by program p (acted q n) i = if same_path q p then by_act (act_of program n) i else i
inside_by program p (spawned c n) i = i
inside_by program p (delivered c n) i = if same_path (parent_path c) p then by_value (act_of program n) c i else i
inside_by program p (returned q n) i = i
inside_by program p (ended q) i = i
inside_by program p (trapped kind q n) i = i
inside_by program p moved i = i

abbrev pub inside_from : Labelled → Path → List Event → Inside → Inside
inside_from program p [] i = i
inside_from program p (e ∷ events) i = inside_from program p events (inside_by program p e i)

abbrev pub inside_of : Labelled → List Event → Path → Inside
inside_of program events p = inside_from program p events outside
