-- What some command lines ask for, and which faults some have.
use Rattle.std.proofs.Common.{◌≡◌, refl, [], ◌∷◌, Some, None, true, false, codes}
use Rattle.std.specs.Prelude.{option_and_then}
use Rattle.clap.specs.Words.{Text, fault_of}
use Rattle.clap.proofs.OnLiterals.{clap_on_literals}
use Rattle.clap.specs.declared.error.kind.ErrorKind.TheVariants as kind
use Rattle.cilk_words.specs.declared.clash.Clash.TheVariants as clash
use Rattle.cilk_words.specs.CommandLine.{Asked, Wanted, printed, checked, run, explored, replayed, measured, raced, pictured, debugged, served}
use Rattle.cilk_words.specs.CommandLine.{asked, command_line, clash_of, wished}
use Rattle.cilk_words.specs.Refusing.{asks_for_help, asks_to_show}

-- what is asked for without the flag, and with it
abbrev briefly : Wanted → Text → Asked
briefly wanted name = record { wanted = wanted; name = name; explain = false }

abbrev at_length : Wanted → Text → Asked
at_length wanted name = record { wanted = wanted; name = name; explain = true }

prints : asked (codes "cilk" ∷ codes "print" ∷ codes "a" ∷ []) ≡ Some (briefly printed (codes "a"))
unfolding clap_on_literals
prints = refl

checks : asked (codes "cilk" ∷ codes "check" ∷ codes "-" ∷ []) ≡ Some (briefly checked (codes "-"))
unfolding clap_on_literals
checks = refl

runs : asked (codes "cilk" ∷ codes "run" ∷ codes "a" ∷ []) ≡ Some (briefly (run 1 1000000 None None None) (codes "a"))
unfolding clap_on_literals
runs = refl

runs_limited : asked (codes "cilk" ∷ codes "run" ∷ codes "a" ∷ codes "--limit" ∷ codes "5" ∷ []) ≡ Some (briefly (run 1 5 None None None) (codes "a"))
unfolding clap_on_literals
runs_limited = refl

explains_print : asked (codes "cilk" ∷ codes "print" ∷ codes "a" ∷ codes "--explain" ∷ []) ≡ Some (at_length printed (codes "a"))
unfolding clap_on_literals
explains_print = refl

explains_check : asked (codes "cilk" ∷ codes "check" ∷ codes "--explain" ∷ codes "-" ∷ []) ≡ Some (at_length checked (codes "-"))
unfolding clap_on_literals
explains_check = refl

explains_run : asked (codes "cilk" ∷ codes "run" ∷ codes "a" ∷ codes "--explain" ∷ codes "--limit" ∷ codes "5" ∷ [])
    ≡ Some (at_length (run 1 5 None None None) (codes "a"))
unfolding clap_on_literals
explains_run = refl

names_a_text : asked (codes "cilk" ∷ codes "check" ∷ codes "--" ∷ codes "--explain" ∷ []) ≡ Some (briefly checked (codes "--explain"))
unfolding clap_on_literals
names_a_text = refl

explains_once : fault_of command_line (codes "cilk" ∷ codes "run" ∷ codes "--explain" ∷ codes "a" ∷ codes "--explain" ∷ []) ≡ kind.ArgumentConflict ∷ []
unfolding clap_on_literals
explains_once = refl

explains_behind_the_subcommand : fault_of command_line (codes "cilk" ∷ codes "--explain" ∷ codes "run" ∷ codes "a" ∷ []) ≡ kind.UnknownArgument ∷ []
unfolding clap_on_literals
explains_behind_the_subcommand = refl

takes_no_value : fault_of command_line (codes "cilk" ∷ codes "print" ∷ codes "--explain=true" ∷ codes "a" ∷ []) ≡ kind.TooManyValues ∷ []
unfolding clap_on_literals
takes_no_value = refl

refuses_zero : fault_of command_line (codes "cilk" ∷ codes "run" ∷ codes "a" ∷ codes "--limit" ∷ codes "0" ∷ []) ≡ kind.ValueValidation ∷ []
unfolding clap_on_literals
refuses_zero = refl

wants_a_subcommand : fault_of command_line (codes "cilk" ∷ []) ≡ kind.DisplayHelpOnMissingArgumentOrSubcommand ∷ []
unfolding clap_on_literals
wants_a_subcommand = refl

wants_a_text : fault_of command_line (codes "cilk" ∷ codes "print" ∷ []) ≡ kind.MissingRequiredArgument ∷ []
unfolding clap_on_literals
wants_a_text = refl

is_help : fault_of command_line (codes "cilk" ∷ codes "--help" ∷ []) ≡ kind.DisplayHelp ∷ []
unfolding clap_on_literals
is_help = refl

is_version : fault_of command_line (codes "cilk" ∷ codes "--version" ∷ []) ≡ kind.DisplayVersion ∷ []
unfolding clap_on_literals
is_version = refl

is_help_of_run : asks_to_show (codes "cilk" ∷ codes "run" ∷ codes "--help" ∷ []) ≡ true
unfolding clap_on_literals
is_help_of_run = refl

asks_in_a_word : asks_for_help (codes "cilk" ∷ codes "help" ∷ codes "run" ∷ []) ≡ true
unfolding clap_on_literals
asks_in_a_word = refl

has_one_version : fault_of command_line (codes "cilk" ∷ codes "run" ∷ codes "--version" ∷ []) ≡ kind.UnknownArgument ∷ []
unfolding clap_on_literals
has_one_version = refl

is_no_subcommand : fault_of command_line (codes "cilk" ∷ codes "frob" ∷ []) ≡ kind.UnknownArgument ∷ kind.InvalidSubcommand ∷ []
unfolding clap_on_literals
is_no_subcommand = refl

-- ---- logs

writes_a_log : asked (codes "cilk" ∷ codes "run" ∷ codes "a" ∷ codes "--log" ∷ codes "g" ∷ [])
    ≡ Some (briefly (run 1 1000000 (Some (codes "g")) None None) (codes "a"))
unfolding clap_on_literals
writes_a_log = refl

has_one_worker : asked (codes "cilk" ∷ codes "run" ∷ codes "--workers" ∷ codes "1" ∷ codes "-" ∷ []) ≡ Some (briefly (run 1 1000000 None None None) (codes "-"))
unfolding clap_on_literals
has_one_worker = refl

has_four_workers : asked (codes "cilk" ∷ codes "run" ∷ codes "a" ∷ codes "--workers" ∷ codes "4" ∷ codes "--limit" ∷ codes "5" ∷ [])
    ≡ Some (briefly (run 4 5 None None None) (codes "a"))
unfolding clap_on_literals
has_four_workers = refl

has_at_most_64_workers : fault_of command_line (codes "cilk" ∷ codes "run" ∷ codes "--workers" ∷ codes "65" ∷ codes "a" ∷ []) ≡ kind.ValueValidation ∷ []
unfolding clap_on_literals
has_at_most_64_workers = refl

has_a_worker : fault_of command_line (codes "cilk" ∷ codes "run" ∷ codes "--workers" ∷ codes "0" ∷ codes "a" ∷ []) ≡ kind.ValueValidation ∷ []
unfolding clap_on_literals
has_a_worker = refl

replays : asked (codes "cilk" ∷ codes "replay" ∷ codes "-" ∷ codes "g" ∷ []) ≡ Some (briefly (replayed (codes "g")) (codes "-"))
unfolding clap_on_literals
replays = refl

debugs : asked (codes "cilk" ∷ codes "debug" ∷ codes "a" ∷ codes "g" ∷ []) ≡ Some (briefly (debugged (codes "g")) (codes "a"))
unfolding clap_on_literals
debugs = refl

serves : asked (codes "cilk" ∷ codes "dap" ∷ []) ≡ Some (briefly served [])
unfolding clap_on_literals
serves = refl

serves_no_text : fault_of command_line (codes "cilk" ∷ codes "dap" ∷ codes "a" ∷ []) ≡ kind.UnknownArgument ∷ []
unfolding clap_on_literals
serves_no_text = refl

wants_a_log : fault_of command_line (codes "cilk" ∷ codes "replay" ∷ codes "a" ∷ []) ≡ kind.MissingRequiredArgument ∷ []
unfolding clap_on_literals
wants_a_log = refl

explains_replay : asked (codes "cilk" ∷ codes "replay" ∷ codes "a" ∷ codes "g" ∷ codes "--explain" ∷ []) ≡ Some (at_length (replayed (codes "g")) (codes "a"))
unfolding clap_on_literals
explains_replay = refl

explains_debug : asked (codes "cilk" ∷ codes "debug" ∷ codes "--explain" ∷ codes "a" ∷ codes "g" ∷ []) ≡ Some (at_length (debugged (codes "g")) (codes "a"))
unfolding clap_on_literals
explains_debug = refl

-- a log is no dash, nor is a program where commands are read
writes_no_dash : option_and_then clash_of (wished (codes "cilk" ∷ codes "run" ∷ codes "a" ∷ codes "--log" ∷ codes "-" ∷ [])) ≡ Some clash.DashAsLog
unfolding clap_on_literals
writes_no_dash = refl

replays_no_dash : option_and_then clash_of (wished (codes "cilk" ∷ codes "replay" ∷ codes "-" ∷ codes "-" ∷ [])) ≡ Some clash.DashAsLog
unfolding clap_on_literals
replays_no_dash = refl

debugs_no_dash : option_and_then clash_of (wished (codes "cilk" ∷ codes "debug" ∷ codes "-" ∷ codes "g" ∷ [])) ≡ Some clash.DashAsProgram
unfolding clap_on_literals
debugs_no_dash = refl

asks_nothing_with_a_dash : asked (codes "cilk" ∷ codes "debug" ∷ codes "a" ∷ codes "-" ∷ []) ≡ None
unfolding clap_on_literals
asks_nothing_with_a_dash = refl

-- ---- seeds, and the numbers of a run

by_a_seed : asked (codes "cilk" ∷ codes "run" ∷ codes "a" ∷ codes "--workers" ∷ codes "2" ∷ codes "--seed" ∷ codes "12" ∷ [])
    ≡ Some (briefly (run 2 1000000 None (Some 12) None) (codes "a"))
unfolding clap_on_literals
by_a_seed = refl

by_a_seed_with_a_log : asked (codes "cilk" ∷ codes "run" ∷ codes "--seed" ∷ codes "4294967295" ∷ codes "--log" ∷ codes "g" ∷ codes "a" ∷ [])
    ≡ Some (briefly (run 1 1000000 (Some (codes "g")) (Some 4294967295) None) (codes "a"))
unfolding clap_on_literals
by_a_seed_with_a_log = refl

has_a_word_for_a_seed : fault_of command_line
    (codes "cilk" ∷ codes "run" ∷ codes "--seed" ∷ codes "4294967296" ∷ codes "a" ∷ []) ≡ kind.ValueValidation ∷ []
unfolding clap_on_literals
has_a_word_for_a_seed = refl

tallies : asked (codes "cilk" ∷ codes "run" ∷ codes "a" ∷ codes "--seed" ∷ codes "1" ∷ codes "--runs" ∷ codes "1000" ∷ [])
    ≡ Some (briefly (run 1 1000000 None (Some 1) (Some 1000)) (codes "a"))
unfolding clap_on_literals
tallies = refl

has_at_most_a_million_runs : fault_of command_line
    (codes "cilk" ∷ codes "run" ∷ codes "a" ∷ codes "--seed" ∷ codes "1" ∷ codes "--runs" ∷ codes "1000001" ∷ []) ≡ kind.ValueValidation ∷ []
unfolding clap_on_literals
has_at_most_a_million_runs = refl

has_a_first_seed : option_and_then clash_of (wished (codes "cilk" ∷ codes "run" ∷ codes "a" ∷ codes "--runs" ∷ codes "5" ∷ [])) ≡ Some clash.NoSeed
unfolding clap_on_literals
has_a_first_seed = refl

tallies_no_log : option_and_then clash_of
    (wished (codes "cilk" ∷ codes "run" ∷ codes "a" ∷ codes "--seed" ∷ codes "1" ∷ codes "--runs" ∷ codes "5" ∷ codes "--log" ∷ codes "g" ∷ []))
    ≡ Some clash.LogOfRuns
unfolding clap_on_literals
tallies_no_log = refl

measures_a_run : asked (codes "cilk" ∷ codes "measure" ∷ codes "-" ∷ []) ≡ Some (briefly (measured None) (codes "-"))
unfolding clap_on_literals
measures_a_run = refl

measures_a_log : asked (codes "cilk" ∷ codes "measure" ∷ codes "a" ∷ codes "g" ∷ codes "--explain" ∷ [])
    ≡ Some (at_length (measured (Some (codes "g"))) (codes "a"))
unfolding clap_on_literals
measures_a_log = refl

measures_no_dash : option_and_then clash_of (wished (codes "cilk" ∷ codes "measure" ∷ codes "a" ∷ codes "-" ∷ [])) ≡ Some clash.DashAsLog
unfolding clap_on_literals
measures_no_dash = refl

-- ---- races

races_of_a_run : asked (codes "cilk" ∷ codes "races" ∷ codes "a" ∷ codes "--explain" ∷ []) ≡ Some (at_length (raced None) (codes "a"))
unfolding clap_on_literals
races_of_a_run = refl

races_of_a_log : asked (codes "cilk" ∷ codes "races" ∷ codes "-" ∷ codes "g" ∷ []) ≡ Some (briefly (raced (Some (codes "g"))) (codes "-"))
unfolding clap_on_literals
races_of_a_log = refl

races_of_no_dash : option_and_then clash_of (wished (codes "cilk" ∷ codes "races" ∷ codes "a" ∷ codes "-" ∷ [])) ≡ Some clash.DashAsLog
unfolding clap_on_literals
races_of_no_dash = refl

-- ---- pictures

draws : asked (codes "cilk" ∷ codes "draw" ∷ codes "a" ∷ codes "g" ∷ []) ≡ Some (briefly (pictured (codes "g") 1 10000000 false) (codes "a"))
unfolding clap_on_literals
draws = refl

draws_a_part_in_lines : asked
    (codes "cilk" ∷ codes "draw" ∷ codes "-" ∷ codes "g" ∷ codes "--text" ∷ codes "--from" ∷ codes "3" ∷ codes "--to" ∷ codes "9" ∷ codes "--explain" ∷ [])
    ≡ Some (at_length (pictured (codes "g") 3 9 true) (codes "-"))
unfolding clap_on_literals
draws_a_part_in_lines = refl

draws_from_a_choice : fault_of command_line (codes "cilk" ∷ codes "draw" ∷ codes "a" ∷ codes "g" ∷ codes "--from" ∷ codes "0" ∷ []) ≡ kind.ValueValidation ∷ []
unfolding clap_on_literals
draws_from_a_choice = refl

draws_no_dash : option_and_then clash_of (wished (codes "cilk" ∷ codes "draw" ∷ codes "a" ∷ codes "-" ∷ [])) ≡ Some clash.DashAsLog
unfolding clap_on_literals
draws_no_dash = refl

-- ---- explorations

explores : asked (codes "cilk" ∷ codes "explore" ∷ codes "a" ∷ []) ≡ Some (briefly (explored 2 1000000 None) (codes "a"))
unfolding clap_on_literals
explores = refl

explores_by_one : asked (codes "cilk" ∷ codes "explore" ∷ codes "-" ∷ codes "--workers" ∷ codes "1" ∷ codes "--limit" ∷ codes "50" ∷ [])
    ≡ Some (briefly (explored 1 50 None) (codes "-"))
unfolding clap_on_literals
explores_by_one = refl

explores_with_logs : asked (codes "cilk" ∷ codes "explore" ∷ codes "--logs" ∷ codes "d" ∷ codes "a" ∷ codes "--explain" ∷ [])
    ≡ Some (at_length (explored 2 1000000 (Some (codes "d"))) (codes "a"))
unfolding clap_on_literals
explores_with_logs = refl

explores_by_at_most_64 : fault_of command_line (codes "cilk" ∷ codes "explore" ∷ codes "--workers" ∷ codes "65" ∷ codes "a" ∷ []) ≡ kind.ValueValidation ∷ []
unfolding clap_on_literals
explores_by_at_most_64 = refl

keeps_a_standing : fault_of command_line (codes "cilk" ∷ codes "explore" ∷ codes "--limit" ∷ codes "0" ∷ codes "a" ∷ []) ≡ kind.ValueValidation ∷ []
unfolding clap_on_literals
keeps_a_standing = refl

explores_no_log : fault_of command_line (codes "cilk" ∷ codes "explore" ∷ codes "a" ∷ codes "--log" ∷ codes "g" ∷ []) ≡ kind.UnknownArgument ∷ []
unfolding clap_on_literals
explores_no_log = refl
