-- What the words of a command line ask for.
use Rattle.std.specs.Prelude.{ℕ, Bool, true, false, String, List, map, [], ◌∷◌, Option, Some, None, is_some, ◌-◌, ◌^◌, pos, codes, if◌then◌else◌}
use Rattle.std.specs.Prelude.{option_and_then, option_map}
use Rattle.std.specs.Global.{Global}
use Rattle.std.specs.String.{string_bytes}
use Rattle.std.specs.Str.{bytes_eq}
use Rattle.std.specs.Str.Parse.{digits_value, without_leading_plus}
use Rattle.clap.specs.ValueTests.{is_unsigned_in}
use Rattle.clap.specs.Kinds.{Kinds}
use Rattle.clap.specs.Simple.{on_top}
use Rattle.clap.specs.Words.{App, Row, Rule, Text, fault_of, first_of, new_app, new_rule, one_of, subcommand_of, with_rule, with_subcommand}
use Rattle.clap.specs.declared.builder.action.ArgAction.TheVariants.{Set, SetTrue}
use Rattle.clap.specs.declared.builder.value_parser.ValueParser.{ValueParser}
use Rattle.clap.specs.declared.builder.value_parser.ValueParser.TheVariants.{Signed}
use Rattle.cilk_words.specs.declared.clash.Clash.{Clash}
use Rattle.cilk_words.specs.declared.clash.Clash.TheVariants as clash
use Rattle.cilk_words.specs.declared.request.Request.{Request}
use Rattle.cilk_words.specs.declared.request.Task.{Task}
use Rattle.cilk_words.specs.declared.request.Task.TheVariants as task

-- ---- the command line

-- the argument that names a text
abbrev pub file_rule : Rule
file_rule = record (new_rule (codes "F")) { required = true; action = Some Set }

-- the argument that names a log
abbrev pub log_rule : Rule
log_rule = record (new_rule (codes "G")) { required = true; action = Some Set }

-- an option that takes a number, by this parser
abbrev pub option_rule : Text → ValueParser → Rule
option_rule name parser = record (new_rule name) { long = Some name; value_names = 1; parser = Some parser }

-- and says one where it is left out
abbrev pub number_rule : Text → ValueParser → Text → Rule
number_rule name parser default = record (option_rule name parser) { defaults = default ∷ [] }

-- the option that says how many choices a run may make
abbrev pub limit_rule : Rule
limit_rule = number_rule (codes "limit") (Signed (pos 1) (pos 10000000)) (codes "1000000")

-- the option that says how many workers a run has
abbrev pub workers_rule : Rule
workers_rule = number_rule (codes "workers") (Signed (pos 1) (pos 64)) (codes "1")

-- the option that names the schedule of a run
abbrev pub seed_rule : Rule
seed_rule = option_rule (codes "seed") (Signed (pos 0) (pos 4294967295))

-- the option that says how many runs a tally is of
abbrev pub runs_rule : Rule
runs_rule = option_rule (codes "runs") (Signed (pos 1) (pos 1000000))

-- the option that says how many workers an exploration is of: with two there are schedules to choose among
abbrev pub crew_rule : Rule
crew_rule = number_rule (codes "workers") (Signed (pos 1) (pos 64)) (codes "2")

-- the option that names the folder to which the logs of an exploration are written
abbrev pub logs_rule : Rule
logs_rule = record (new_rule (codes "logs")) { long = Some (codes "logs"); value_names = 1; action = Some Set }

-- the option that names the log to be written of a run
abbrev pub written_rule : Rule
written_rule = record (new_rule (codes "log")) { long = Some (codes "log"); value_names = 1; action = Some Set }

-- the flag by which more is said of what is wrong
abbrev pub explain_rule : Rule
explain_rule = record (new_rule (codes "explain")) { long = Some (codes "explain"); action = Some SetTrue }

-- the options that say with which choice a picture begins, and with which it ends
abbrev pub from_rule : Rule
from_rule = number_rule (codes "from") (Signed (pos 1) (pos 10000000)) (codes "1")

abbrev pub to_rule : Rule
to_rule = number_rule (codes "to") (Signed (pos 1) (pos 10000000)) (codes "10000000")

-- the flag by which a picture is told in lines
abbrev pub lines_rule : Rule
lines_rule = record (new_rule (codes "text")) { long = Some (codes "text"); action = Some SetTrue }

-- a subcommand on a text
abbrev pub on_text : Text → App
on_text name = with_rule (new_app name) file_rule

-- one that may say more of what is wrong
abbrev pub on_explained : Text → App
on_explained name = with_rule (on_text name) explain_rule

-- one on a text and a log, which may say more too
abbrev pub on_log : Text → App
on_log name = with_rule (on_explained name) log_rule

-- one on a text and a log, which may be left out
abbrev pub measured_rule : Rule
measured_rule = record (new_rule (codes "G")) { action = Some Set }

abbrev pub on_a_run : Text → App
on_a_run name = with_rule (on_explained name) measured_rule

abbrev pub on_measure : App
on_measure = on_a_run (codes "measure")

abbrev pub on_races : App
on_races = on_a_run (codes "races")

-- one on a text and a log, of which a part is drawn
abbrev pub on_draw : App
on_draw = with_rule (with_rule (with_rule (on_log (codes "draw")) from_rule) to_rule) lines_rule

-- a run, of which a log may be written
abbrev pub on_run : App
on_run =
    let limited = with_rule (with_rule (on_explained (codes "run")) workers_rule) limit_rule in
    with_rule (with_rule (with_rule limited seed_rule) runs_rule) written_rule

-- an exploration, whose limit is one of standings
abbrev pub on_explore : App
on_explore = with_rule (with_rule (with_rule (on_explained (codes "explore")) crew_rule) limit_rule) logs_rule

-- the program, which wants one of its subcommands
abbrev pub bare : App
bare = on_top (λ s. record s { subcommand_required = true; arg_required_else_help = true; has_version = true }) (new_app (codes "cilk"))

-- the whole command line
abbrev pub command_line : App
command_line =
    let front = with_subcommand (with_subcommand bare (on_explained (codes "print")).top) (on_explained (codes "check")).top in
    let exploring = with_subcommand (with_subcommand front on_run.top) on_explore.top in
    let measuring = with_subcommand (with_subcommand exploring (on_log (codes "replay")).top) on_measure.top in
    let drawing = with_subcommand (with_subcommand measuring on_races.top) on_draw.top in
    with_subcommand (with_subcommand drawing (on_log (codes "debug")).top) (new_app (codes "dap")).top

-- ---- what is wished

-- what is to be done with a text
pub data Wanted : Type 0 where
  printed : Wanted
  checked : Wanted
  -- run with so many workers for at most so many choices, with a log of this name or none, and by a seed or none; so many times, where that is said
  run : (workers limit : ℕ) (log : Option Text) (seed runs : Option ℕ) → Wanted
  -- all outcomes told that so many workers come to, of at most so many standings, with their logs in a folder of this name or none
  explored : (workers limit : ℕ) (logs : Option Text) → Wanted
  replayed : (log : Text) → Wanted
  measured : (log : Option Text) → Wanted
  raced : (log : Option Text) → Wanted
  -- from one choice of the log up to another, in lines or not
  pictured : (log : Text) (from to : ℕ) (in_lines : Bool) → Wanted
  debugged : (log : Text) → Wanted
  -- an editor answered, which names the texts
  served : Wanted

-- the number that a word says in decimal, where it is at most so great
abbrev pub number_to : ℕ → Text → Option ℕ
number_to most word = if is_unsigned_in 0 most word then Some (digits_value 10 (without_leading_plus word)) else None

-- a word of 32 bits, where there is such a word
abbrev pub word_of : Option Text → Option ℕ
word_of = option_and_then (number_to (2 ^ 32 - 1))

-- a run with as many workers and for as many choices as two words say
abbrev pub run_of : Option Text → Option Text → Option Text → Option Text → Option Text → Option Wanted
run_of workers limit log seed runs =
    option_and_then (λ n. option_map (λ k. run n k log (word_of seed) (word_of runs)) (word_of limit)) (option_and_then (number_to (2 ^ 8 - 1)) workers)

-- the same, by what was given to a subcommand
abbrev pub run_in : List Row → Option Wanted
run_in rows =
    run_of (one_of (codes "workers") rows) (one_of (codes "limit") rows) (first_of (codes "log") rows) (one_of (codes "seed") rows) (one_of (codes "runs") rows)

-- an exploration by as many workers and of as many standings as two words say
abbrev pub explore_of : Option Text → Option Text → Option Text → Option Wanted
explore_of workers limit logs = option_and_then (λ n. option_map (λ k. explored n k logs) (word_of limit)) (option_and_then (number_to (2 ^ 8 - 1)) workers)

abbrev pub explore_in : List Row → Option Wanted
explore_in rows = explore_of (one_of (codes "workers") rows) (one_of (codes "limit") rows) (first_of (codes "logs") rows)

-- a flag is given, by the text that stands for it
abbrev pub is_set : Option Text → Bool
is_set None = false
is_set (Some word) = bytes_eq word (codes "true")

-- a picture of a log, from one choice up to another, where all of these are said
abbrev pub pictured_by : Option Text → Option ℕ → Option ℕ → Bool → Option Wanted
pictured_by (Some log) (Some from) (Some to) in_lines = Some (pictured log from to in_lines)
pictured_by _ _ _ in_lines = None

abbrev pub draw_in : List Row → Option Wanted
draw_in rows =
    let from = word_of (one_of (codes "from") rows) in
    let to = word_of (one_of (codes "to") rows) in
    pictured_by (first_of (codes "G") rows) from to (is_set (one_of (codes "text") rows))

-- what a subcommand of this name wants that a log may be named for
abbrev pub wanted_by_log : Text → Option Text → Option Wanted
wanted_by_log name log =
    if bytes_eq name (codes "replay") then option_map replayed log
    else (if bytes_eq name (codes "measure") then Some (measured log)
    else (if bytes_eq name (codes "races") then Some (raced log)
    else (if bytes_eq name (codes "debug") then option_map debugged log else None)))

-- what a subcommand of this name wants, with what was given to it
abbrev pub wanted_of : Text → List Row → Option Wanted
wanted_of name rows =
    if bytes_eq name (codes "print") then Some printed
    else (if bytes_eq name (codes "check") then Some checked
    else (if bytes_eq name (codes "run") then run_in rows
    else (if bytes_eq name (codes "explore") then explore_in rows
    else (if bytes_eq name (codes "draw") then draw_in rows
    else (if bytes_eq name (codes "dap") then Some served else wanted_by_log name (first_of (codes "G") rows))))))

-- the name of the text that a subcommand of this name is for: empty where an editor is answered
abbrev pub text_for : Text → List Row → Option Text
text_for name rows = if bytes_eq name (codes "dap") then Some [] else first_of (codes "F") rows

-- what is wanted, the name of the text that it is for, and whether more is to be said of what is wrong
pub record Asked : Type 0 where
  pub wanted : Wanted
  pub name : Text
  pub explain : Bool

-- what a task wants
abbrev pub wanted_by : Task → Wanted
wanted_by task.Print = printed
wanted_by task.Check = checked
wanted_by (task.Run workers limit log seed runs) = run workers limit (option_map (λ name. name.now) log) seed runs
wanted_by (task.Explore workers limit logs) = explored workers limit (option_map (λ name. name.now) logs)
wanted_by (task.Replay log) = replayed log.now
wanted_by (task.Measure log) = measured (option_map (λ name. name.now) log)
wanted_by (task.Races log) = raced (option_map (λ name. name.now) log)
wanted_by (task.Draw log from to in_lines) = pictured log.now from to in_lines
wanted_by (task.Debug log) = debugged log.now
wanted_by task.Serve = served

-- what a request asks for
abbrev pub asked_by : Request → Asked
asked_by r = record { wanted = wanted_by r.task; name = r.name.now; explain = r.explain }

-- what is asked for, where something is wanted and there is a name
abbrev pub request_for : Option Wanted → Option Text → Bool → Option Asked
request_for (Some wanted) (Some name) explain = Some (record { wanted = wanted; name = name; explain = explain })
request_for _ _ explain = None

-- what a subcommand asks for
abbrev pub request_of : Text × List Row → Option Asked
request_of sub = request_for (wanted_of sub.0 sub.1) (text_for sub.0 sub.1) (is_set (one_of (codes "explain") sub.1))

-- the same, where there is a subcommand
abbrev pub request_of_any : Option (Text × List Row) → Option Asked
request_of_any = option_and_then request_of

-- what is asked for, unless there is a fault
abbrev pub unless_fault : Kinds → Option (Text × List Row) → Option Asked
unless_fault [] sub = request_of_any sub
unless_fault (k ∷ ks) sub = None

-- the words of the program's command line
abbrev pub texts_of : List (String Global) → List Text
texts_of = map string_bytes

-- what the words ask for, whether they go together or not
abbrev pub wished : List Text → Option Asked
wished words = unless_fault (fault_of command_line words) (subcommand_of command_line words)

-- ---- words that do not go together

abbrev pub is_dash : Text → Bool
is_dash name = bytes_eq name (codes "-")

-- a log is a file
abbrev pub log_clash : Text → Option Clash
log_clash log = if is_dash log then Some clash.DashAsLog else None

-- several runs have a first seed, and no log
abbrev pub runs_clash : (has_log has_seed : Bool) → Option Clash
runs_clash has_log false = Some clash.NoSeed
runs_clash true true = Some clash.LogOfRuns
runs_clash false true = None

abbrev pub run_clash : Option Text → Option ℕ → Option ℕ → Option Clash
run_clash log seed None = option_and_then log_clash log
run_clash log seed (Some runs) = runs_clash (is_some log) (is_some seed)

-- no log is a dash, and a program is none where commands are read from standard input
abbrev pub clash_in : Wanted → Text → Option Clash
clash_in printed name = None
clash_in checked name = None
clash_in (run workers limit log seed runs) name = run_clash log seed runs
clash_in (explored workers limit logs) name = None
clash_in (replayed log) name = log_clash log
clash_in (measured log) name = option_and_then log_clash log
clash_in (raced log) name = option_and_then log_clash log
clash_in (pictured log from to in_lines) name = log_clash log
clash_in (debugged log) name = if is_dash name then Some clash.DashAsProgram else log_clash log
clash_in served name = None

abbrev pub clash_of : Asked → Option Clash
clash_of a = clash_in a.wanted a.name

-- what is asked for, unless its words do not go together
abbrev pub without_clash : Asked → Option Asked
without_clash a = if is_some (clash_of a) then None else Some a

-- what the words ask for
abbrev pub asked : List Text → Option Asked
asked words = option_and_then without_clash (wished words)
