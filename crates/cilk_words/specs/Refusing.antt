-- What is told where words ask for nothing to be done.
use Rattle.std.specs.Prelude.{◌≡◌, ◌≢◌, Bool, true, false, List, [], ◌∷◌, Some, None, option_and_then}
use Rattle.std.specs.List.{list_all, list_any}
use Rattle.clap.specs.Kinds.{Kinds}
use Rattle.clap.specs.Words.{Text, fault_of}
use Rattle.clap.specs.declared.error.kind.ErrorKind.{ErrorKind}
use Rattle.clap.specs.declared.error.kind.ErrorKind.TheVariants as kind
use Rattle.cilk_words.specs.CommandLine.{asked, command_line, clash_of, wished}
use Rattle.cilk_words.specs.declared.refusal.NoRequest.{NoRequest}
use Rattle.cilk_words.specs.declared.refusal.NoRequest.TheVariants as refusal

-- an error of this kind is help
abbrev pub is_help : ErrorKind → Bool
is_help kind.DisplayHelp = true
is_help other = false

-- or it is the version
abbrev pub is_version : ErrorKind → Bool
is_version kind.DisplayVersion = true
is_version other = false

-- such a text is no mistake
abbrev pub is_shown : ErrorKind → Bool
is_shown kind.DisplayHelp = true
is_shown kind.DisplayVersion = true
is_shown other = false

-- the words may ask for help
abbrev pub asks_for_help : List Text → Bool
asks_for_help words = list_any is_help (fault_of command_line words)

-- or for the version
abbrev pub asks_for_version : List Text → Bool
asks_for_version words = list_any is_version (fault_of command_line words)

-- there are faults, and none of them is a mistake
abbrev pub are_shown : Kinds → Bool
are_shown [] = false
are_shown (k ∷ ks) = list_all is_shown (k ∷ ks)

-- the words ask for help or the version, and have no mistake
abbrev pub asks_to_show : List Text → Bool
asks_to_show words = are_shown (fault_of command_line words)

-- what is told of an error of this kind, unless memory runs out
abbrev pub TellsOf : ErrorKind → NoRequest → Type 0
TellsOf k (refusal.Help text) = k ≡ kind.DisplayHelp
TellsOf k (refusal.Version text) = k ≡ kind.DisplayVersion
TellsOf k (refusal.Usage text) = (is_shown k ≡ false) × (k ≢ kind.OutOfMemory)
TellsOf k (refusal.Clash which) = ⊥
TellsOf k refusal.Memory = Unit {0}

-- what is told of words that ask for nothing to be done, unless memory runs out
abbrev pub IsNoRequest : List Text → NoRequest → Type 0
IsNoRequest words (refusal.Help text) = (asked words ≡ None) × (asks_for_help words ≡ true)
IsNoRequest words (refusal.Version text) = (asked words ≡ None) × (asks_for_version words ≡ true)
IsNoRequest words (refusal.Usage text) = (asked words ≡ None) × (asks_to_show words ≡ false)
IsNoRequest words (refusal.Clash which) =
    (option_and_then clash_of (wished words) ≡ Some which) × ((asked words ≡ None) × (asks_to_show words ≡ false))
IsNoRequest words refusal.Memory = Unit {0}
