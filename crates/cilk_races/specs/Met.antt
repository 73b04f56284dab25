-- What the code's words for meetings mean.
use Rattle.std.specs.Prelude.{ℕ, List, map, option_map}
use Rattle.cilk_log_replay.specs.machine.sched.Words.{end_of}
use Rattle.cilk_races.specs.Line.{Line}
use Rattle.cilk_races.specs.Paired.{Within, pair_of}
use Rattle.cilk_races.specs.declared.touch.Touch.{Touch}
use Rattle.cilk_races.specs.Reversals.{Meeting, Reversal}
use Rattle.cilk_races.specs.declared.reversal.Reversal as kept
use Rattle.cilk_races.specs.declared.meeting.Meeting as coded

abbrev pub reversal_by : kept.Reversal → Reversal
reversal_by r = record { end = end_of r.end; choices = r.choices; workers = r.workers }

abbrev pub meeting_in : List Line → List Touch → coded.Meeting → Meeting
meeting_in rows touches m = record { pair = pair_of rows touches m.pair; reversal = option_map reversal_by m.reversal }

abbrev pub meetings_in : List Line → List Touch → List coded.Meeting → List Meeting
meetings_in rows touches meetings = map (meeting_in rows touches) meetings

-- both accesses are there
abbrev pub AreWithin : ℕ → coded.Meeting → Type 0
AreWithin count m = Within count m.pair
