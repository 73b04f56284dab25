-- What a line of a session asks.
use Rattle.std.specs.Prelude.{ℕ, ◌==◌, if◌then◌else◌, List, [], ◌∷◌, Option, Some, None, option_map, option_and_then, unwrap_or, bytes_eq, codes}
use Rattle.std.specs.Option.{option_or}
use Rattle.std.specs.List.{slice_split}
use Rattle.cilk_log.specs.Reading.{number_in, number_told, behind}
use Rattle.cilk_log.specs.choices.model.What.{What, tree, frame, globals, deques, output, where_it_stands, list}
use Rattle.cilk_debug_console.specs.Command.{Command, step, back, go, next, previous, set, clear, see, quit, nothing, unknown}

-- a number has nine digits at most
abbrev pub greatest : ℕ
greatest = 999999999

-- ---- what one word asks, or no word

abbrev pub word_in : List ℕ → Option Command
word_in line =
    if bytes_eq line [] then Some nothing
    else if bytes_eq line (codes "step") then Some step
    else if bytes_eq line (codes "back") then Some back
    else if bytes_eq line (codes "next") then Some next
    else if bytes_eq line (codes "prev") then Some previous
    else if bytes_eq line (codes "quit") then Some quit
    else None

abbrev pub view_in : List ℕ → Option What
view_in line =
    if bytes_eq line (codes "tree") then Some tree
    else if bytes_eq line (codes "globals") then Some globals
    else if bytes_eq line (codes "deques") then Some deques
    else if bytes_eq line (codes "output") then Some output
    else if bytes_eq line (codes "where") then Some where_it_stands
    else if bytes_eq line (codes "list") then Some list
    else None

-- ---- a word and a number, one space between them

abbrev pub number_behind : List ℕ → List ℕ → Option ℕ
number_behind word line = number_told greatest (behind word line)

abbrev pub numbered_in : List ℕ → Option Command
numbered_in line =
    option_or (option_map go (number_behind (codes "go ") line))
    (option_or (option_map set (number_behind (codes "break ") line)) (option_map clear (number_behind (codes "clear ") line)))

-- ---- a path

-- the number of a child counts from 1
abbrev pub ordinal_in : List ℕ → Option ℕ
ordinal_in text = option_and_then (λ n. if n == 0 then None else Some n) (number_in greatest text)

abbrev pub with_ordinal : Option ℕ → Option (List ℕ) → Option (List ℕ)
with_ordinal None ordinals = None
with_ordinal (Some n) ordinals = option_map (λ ns. n ∷ ns) ordinals

-- each of these texts is an ordinal
abbrev pub ordinals_in : List (List ℕ) → Option (List ℕ)
ordinals_in [] = Some []
ordinals_in (text ∷ texts) = with_ordinal (ordinal_in text) (ordinals_in texts)

-- behind the first slash: nothing, or ordinals with slashes between them; 47 is the slash
abbrev pub path_behind : Option (List ℕ) → Option (List ℕ)
path_behind None = None
path_behind (Some []) = Some []
path_behind (Some (b ∷ text)) = ordinals_in (slice_split (λ c. c == 47) (b ∷ text))

abbrev pub path_in : List ℕ → Option (List ℕ)
path_in text = path_behind (behind (codes "/") text)

abbrev pub frame_in : List ℕ → Option What
frame_in line = option_map frame (option_and_then path_in (behind (codes "frame ") line))

-- ---- all lines

-- each line is one command; what is spelled like no other one is unknown
abbrev pub command_in : List ℕ → Command
command_in line =
    unwrap_or (option_or (word_in line) (option_or (option_map see (view_in line))
    (option_or (numbered_in line) (option_map see (frame_in line))))) unknown
