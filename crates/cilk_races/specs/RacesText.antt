-- How the races of a run are told.
use Rattle.std.specs.Prelude.{◌≡◌, ℕ, ◌==◌, if◌then◌else◌, List, [], ◌++◌, map, flat_map, slice_get, unwrap_or, codes, decimal, Option, Some, None}
use Rattle.std.specs.List.{All}
use Rattle.cilk_log_replay.specs.Tape.{Tape}
use Rattle.cilk_log_replay.specs.machine.labelled.Bodies.{label}
use Rattle.cilk_log_replay.specs.machine.labelled.Labelled.{Labelled, Variable, Body}
use Rattle.cilk_log_replay.specs.machine.model.End.{End, finished, trapped, stuck, limit, end_text, line_of}
use Rattle.cilk_log_replay.specs.machine.model.Path.{Path, path_text}
use Rattle.cilk_races.specs.Order.{Relation, ordered, race, order, inlets}
use Rattle.cilk_races.specs.Races.{Pair, Touch, count_of}
use Rattle.cilk_log_replay.specs.machine.step.Accesses.{Where, global, own, output, synched}
use Rattle.cilk_races.specs.Raced.{AreRacesOf}
use Rattle.cilk_races.specs.Reversals.{Meeting, Reversal, IsMeetingOf}

abbrev pub name_by : Option Variable → List ℕ
name_by None = []
name_by (Some v) = v.name

abbrev pub own_name : ℕ → Option Body → List ℕ
own_name n None = []
own_name n (Some body) = name_by (slice_get body.variables n)

-- of the variable of a cell, which is its procedure's own or of the top level
abbrev pub variable_name : Labelled → ℕ → Where → List ℕ
variable_name program procedure (global n k) = name_by (slice_get program.globals n)
variable_name program procedure (own p n k) = own_name n (slice_get program.bodies procedure)
variable_name program procedure output = codes "output"
variable_name program procedure (synched p) = codes "SYNCHED"

-- the child whose value is taken
abbrev pub child_text : Option Path → List ℕ
child_text None = []
child_text (Some c) = codes ", for " ++ path_text c

abbrev pub touch_line : Labelled → Touch → List ℕ
touch_line program t =
    codes "    "
    ++ (path_text t.placed.path
    ++ ((if t.access.writes then codes " writes at " else codes " reads at ")
    ++ (decimal t.n
    ++ (codes ", line "
    ++ (decimal (unwrap_or (line_of program t.n) 0)
    ++ (codes ", choice " ++ (decimal t.choice ++ (child_text t.placed.taking ++ codes "\n"))))))))

abbrev pub both_lines : Labelled → Pair → List ℕ
both_lines program p =
    variable_name program p.first.procedure p.first.access.at ++ (codes "\n" ++ (touch_line program p.first ++ touch_line program p.second))

-- the words of an end, without the number of choices
abbrev pub reversal_end : End → List ℕ
reversal_end (finished z) = end_text (finished z) 0
reversal_end (trapped kind path n line) = end_text (trapped kind path n line) 0
reversal_end stuck = codes "stuck"
reversal_end limit = codes "limit"

abbrev pub reversal_size : Reversal → List ℕ
reversal_size r = codes ", " ++ (decimal r.choices ++ (codes " choices of " ++ (decimal r.workers ++ codes " workers")))

abbrev pub reversal_text : Option Reversal → List ℕ
reversal_text None = codes "not found"
reversal_text (Some r) = reversal_end r.end ++ reversal_size r

abbrev pub reversal_line : Option Reversal → List ℕ
reversal_line r = codes "    the other way round: " ++ (reversal_text r ++ codes "\n")

-- two inlets of one instance are counted alone
abbrev pub meeting_by : Labelled → Pair → Option Reversal → Relation → List ℕ
meeting_by program p r race = codes "race on " ++ (both_lines program p ++ reversal_line r)
meeting_by program p r order = codes "order on " ++ both_lines program p
meeting_by program p r inlets = []
meeting_by program p r ordered = []

abbrev pub meeting_text : Labelled → Meeting → List ℕ
meeting_text program m = meeting_by program m.pair m.reversal m.pair.relation

unfoldable pub counted : ℕ → List ℕ → List ℕ → List ℕ
counted n one many = decimal n ++ (if n == 1 then one else many)

-- of those that the status does not tell of
abbrev pub other_counts : List Pair → List ℕ
other_counts pairs =
    counted (count_of order pairs) (codes " order, ") (codes " orders, ")
    ++ counted (count_of inlets pairs) (codes " pair of inlets\n") (codes " pairs of inlets\n")

abbrev pub count_line : List Pair → List ℕ
count_line pairs = counted (count_of race pairs) (codes " race, ") (codes " races, ") ++ other_counts pairs

abbrev pub pairs_in : List Meeting → List Pair
pairs_in meetings = map (λ (m : Meeting). m.pair) meetings

abbrev pub races_text : Labelled → List Meeting → List ℕ
races_text program meetings = flat_map (meeting_text program) meetings ++ count_line (pairs_in meetings)

-- the text of the races of all choices of a tape, and how many they are
pub record IsRacesText (t : Tape) (count : ℕ) (text : List ℕ) : Type 0 where
  pub meetings : List Meeting
  pub races : AreRacesOf t (pairs_in meetings)
  pub reversed : All (IsMeetingOf t) meetings
  pub count_is : count ≡ count_of race (pairs_in meetings)
  pub is : text ≡ races_text (label t.program) meetings
