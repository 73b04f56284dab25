-- What bytes tell, read from the top as the text of a recorded schedule.
use Rattle.std.specs.Prelude.{◌≡◌, ◌<◌, ℕ, ◌+◌, nat_le, ◌==◌, ◌&&◌, Bool, false, if◌then◌else◌, List, [], ◌∷◌, length, take, drop, Option, Some, None}
use Rattle.std.specs.Prelude.{option_map, Result, Ok, Err, bytes_eq, codes, true}
use Rattle.std.specs.Char.{is_ascii_digit}
use Rattle.std.specs.Int.{is_in_range}
use Rattle.std.specs.List.{prefix_len}
use Rattle.std.specs.Str.{all_ascii_digits}
use Rattle.std.specs.Str.Parse.{digits_value}
use Rattle.cilk_sched.specs.model.Choice.{Act, step, pop, steal, Choice}
use Rattle.hex.specs.declared.error.FromHexError.{FromHexError}
use Rattle.hex.specs.Hex.{decode_sized, encode_lower}
use Rattle.cilk_log.specs.Stretches.{Stretch, once, choices_of, count_of, is_apart}
use Rattle.cilk_log.specs.Text.{Log, first_line, first_line_2, most_choices}

-- ---- lines

-- the lines, without the newlines that end them, and the bytes behind the last newline
pub record Lines : Type 0 where
  pub whole : List (List ℕ)
  pub rest : List ℕ

-- with a byte in front of the first line, or of the rest where there is no line
abbrev pub behind_byte : ℕ → List (List ℕ) → List ℕ → Lines
behind_byte b [] rest = record { whole = []; rest = b ∷ rest }
behind_byte b (line ∷ lines) rest = record { whole = (b ∷ line) ∷ lines; rest = rest }

abbrev pub lines_of : List ℕ → Lines
lines_of [] = record { whole = []; rest = [] }
lines_of (b ∷ bs) =
    if b == 10
    then record { whole = [] ∷ (lines_of bs).whole; rest = (lines_of bs).rest }
    else behind_byte b (lines_of bs).whole (lines_of bs).rest

-- ---- what a line tells

-- one digit, or more of which the first is not 0
abbrev pub is_decimal : List ℕ → Bool
is_decimal [] = false
is_decimal (b ∷ []) = is_ascii_digit b
is_decimal (b ∷ c ∷ bs) = is_in_range 49 57 b && all_ascii_digits (c ∷ bs)

-- the number that a text spells, up to the most that it may be
abbrev pub number_in : ℕ → List ℕ → Option ℕ
number_in most text = if is_decimal text && nat_le (digits_value 10 text) most then Some (digits_value 10 text) else None

-- what stands behind these bytes
abbrev pub behind : List ℕ → List ℕ → Option (List ℕ)
behind front text = if bytes_eq (take (length front) text) front then Some (drop (length front) text) else None

-- the number that stands behind these bytes
abbrev pub number_told : ℕ → Option (List ℕ) → Option ℕ
number_told most None = None
number_told most (Some text) = number_in most text

-- N, where the line is `workers N`
abbrev pub workers_in : List ℕ → Option ℕ
workers_in line = number_told 255 (behind (codes "workers ") line)

-- K, where the line is `end K`
abbrev pub count_in : List ℕ → Option ℕ
count_in line = number_told 18446744073709551615 (behind (codes "end ") line)

-- ` steal V`
abbrev pub steal_in : List ℕ → Option Act
steal_in text = option_map steal (number_told 255 (behind (codes " steal ") text))

-- ` step`, ` pop` or ` steal V`
abbrev pub act_in : List ℕ → Option Act
act_in text =
    if bytes_eq text (codes " step") then Some step
    else if bytes_eq text (codes " pop") then Some pop
    else steal_in text

abbrev pub choice_by : Option ℕ → Option Act → Option Choice
choice_by (Some worker) (Some act) = Some (record { worker = worker; act = act })
choice_by (Some worker) None = None
choice_by None act = None

-- the choice, where the line is a number and what its worker does
abbrev pub choice_in : List ℕ → Option Choice
choice_in line =
    choice_by (number_in 255 (take (prefix_len is_ascii_digit line) line)) (act_in (drop (prefix_len is_ascii_digit line) line))

-- C of at least 2, where the text is ` step C`
abbrev pub several : Option ℕ → Option ℕ
several None = None
several (Some n) = if nat_le 2 n then Some n else None

abbrev pub times_in : List ℕ → Option ℕ
times_in text = several (number_told most_choices (behind (codes " step ") text))

abbrev pub steps_by : Option ℕ → Option ℕ → Option Stretch
steps_by (Some worker) (Some times) = Some (record { choice = record { worker = worker; act = step }; times = times })
steps_by (Some worker) None = None
steps_by None times = None

-- several steps, where the line is a number and how many its worker takes
abbrev pub steps_in : List ℕ → Option Stretch
steps_in line =
    steps_by (number_in 255 (take (prefix_len is_ascii_digit line) line)) (times_in (drop (prefix_len is_ascii_digit line) line))

abbrev pub stretch_by : Option Choice → Option Stretch → Option Stretch
stretch_by (Some choice) several = Some (once choice)
stretch_by None several = several

-- a choice or several steps
abbrev pub stretch_in : List ℕ → Option Stretch
stretch_in line = stretch_by (choice_in line) (steps_in line)

-- the bytes, where the text is their digits in lower case
abbrev pub digest_by : Result (List ℕ) FromHexError → List ℕ → Option (List ℕ)
digest_by (Ok bytes) text = if bytes_eq (encode_lower bytes) text then Some bytes else None
digest_by (Err error) text = None

-- the 32 bytes whose digits, sixteen to each place, the text is
abbrev pub digest_in : List ℕ → Option (List ℕ)
digest_in text = digest_by (decode_sized text 32) text

abbrev pub digest_told : Option (List ℕ) → Option (List ℕ)
digest_told None = None
digest_told (Some text) = digest_in text

-- H, where the line is `program H`
abbrev pub program_in : List ℕ → Option (List ℕ)
program_in line = digest_told (behind (codes "program ") line)

-- the first line of a text tells the choice, and these bytes stand behind it
pub record TellsFirst (text : List ℕ) (choice : Choice) (behind : List ℕ) : Type 0 where
  pub line : List ℕ
  pub whole : (lines_of text).whole ≡ line ∷ (lines_of behind).whole
  pub rest : (lines_of text).rest ≡ (lines_of behind).rest
  pub tells : choice_in line ≡ Some choice
  pub shorter : length behind < length text

-- ---- what the lines tell

-- why bytes are no text of a recorded schedule
pub data Fault : Type 0 where
  -- the first line is wrong
  wrong_version : Fault
  -- this line is, counted from 1
  wrong_line : (number : ℕ) → Fault
  -- a line is wanted, and no newline follows
  truncated : Fault
  -- the last line tells another number of choices
  wrong_count : Fault
  -- there are more choices than a text of version 2 tells
  too_many : Fault

-- nothing may stand behind the last line, whose number is given
abbrev pub closed : ℕ → List (List ℕ) → List ℕ → List Choice → Result (List Choice) Fault
closed last [] [] choices = Ok choices
closed last [] (b ∷ rest) choices = Err (wrong_line (last + 1))
closed last (after ∷ lines) rest choices = Err (wrong_line (last + 1))

-- the line behind the choices tells how many they are
abbrev pub counted : Option ℕ → ℕ → List (List ℕ) → List ℕ → List Choice → Result (List Choice) Fault
counted None last lines rest choices = Err (wrong_line last)
counted (Some n) last lines rest choices = if n == length choices then closed last lines rest choices else Err wrong_count

-- behind these choices, of which the lines before the one of this number tell, stand these lines
abbrev pub ended : ℕ → List Choice → List (List ℕ) → List ℕ → Result (List Choice) Fault
ended last choices [] rest = Err truncated
ended last choices (line ∷ lines) rest = counted (count_in line) last lines rest choices

abbrev pub with_head : Option (List ℕ) → ℕ → Result (List Choice) Fault → Result Log Fault
with_head program workers (Ok choices) = Ok (record { program = program; workers = workers; choices = choices })
with_head program workers (Err fault) = Err fault

-- ---- version 1

-- the choices that lines tell from the first on, and the lines from the first on that tells none
pub record Told : Type 0 where
  pub choices : List Choice
  pub others : List (List ℕ)

abbrev pub told_by : Option Choice → List ℕ → List (List ℕ) → Told → Told
told_by None line lines told = record { choices = []; others = line ∷ lines }
told_by (Some choice) line lines told = record { choices = choice ∷ told.choices; others = told.others }

abbrev pub told_in : List (List ℕ) → Told
told_in [] = record { choices = []; others = [] }
told_in (line ∷ lines) = told_by (choice_in line) line lines (told_in lines)

-- two lines stand before the choices
abbrev pub choices_read : Option ℕ → List (List ℕ) → List ℕ → Result Log Fault
choices_read None lines rest = Err (wrong_line 2)
choices_read (Some workers) lines rest =
    with_head None workers (ended (length (told_in lines).choices + 3) (told_in lines).choices (told_in lines).others rest)

abbrev pub workers_read : List (List ℕ) → List ℕ → Result Log Fault
workers_read [] rest = Err truncated
workers_read (line ∷ lines) rest = choices_read (workers_in line) lines rest

-- ---- version 2

-- the stretches that lines tell from the first on, and the lines from the first on that may not stand there as one: it tells none, or
-- steps of the worker of whose steps the line before it tells
pub record Stretched : Type 0 where
  pub stretches : List Stretch
  pub others : List (List ℕ)

-- what the lines behind that of a choice tell, which tell this where none stands before them
abbrev pub behind_choice : Choice → List (List ℕ) → Stretched → Stretched
behind_choice choice lines told = if is_apart choice told.stretches then told else record { stretches = []; others = lines }

abbrev pub in_front : Stretch → Stretched → Stretched
in_front stretch told = record { stretches = stretch ∷ told.stretches; others = told.others }

abbrev pub stretched_by : Option Stretch → List ℕ → List (List ℕ) → Stretched → Stretched
stretched_by None line lines told = record { stretches = []; others = line ∷ lines }
stretched_by (Some stretch) line lines told = in_front stretch (behind_choice stretch.choice lines told)

abbrev pub stretched_in : List (List ℕ) → Stretched
stretched_in [] = record { stretches = []; others = [] }
stretched_in (line ∷ lines) = stretched_by (stretch_in line) line lines (stretched_in lines)

-- that they tell too much, if they do, is told before what stands behind them is looked at; three lines stand before them
abbrev pub few_ended : Bool → Stretched → List ℕ → Result (List Choice) Fault
few_ended false told rest = Err too_many
few_ended true told rest = ended (length told.stretches + 4) (choices_of told.stretches) told.others rest

abbrev pub stretches_read : List (List ℕ) → List ℕ → Result (List Choice) Fault
stretches_read lines rest = few_ended (nat_le (count_of (stretched_in lines).stretches) most_choices) (stretched_in lines) rest

abbrev pub program_read : ℕ → Option (List ℕ) → List (List ℕ) → List ℕ → Result Log Fault
program_read workers None lines rest = Err (wrong_line 3)
program_read workers (Some digest) lines rest = with_head (Some digest) workers (stretches_read lines rest)

abbrev pub third_read : Option ℕ → List (List ℕ) → List ℕ → Result Log Fault
third_read None lines rest = Err (wrong_line 2)
third_read (Some workers) [] rest = Err truncated
third_read (Some workers) (line ∷ lines) rest = program_read workers (program_in line) lines rest

abbrev pub second_read : List (List ℕ) → List ℕ → Result Log Fault
second_read [] rest = Err truncated
second_read (line ∷ lines) rest = third_read (workers_in line) lines rest

-- ---- both

abbrev pub lines_read : List (List ℕ) → List ℕ → Result Log Fault
lines_read [] rest = Err truncated
lines_read (line ∷ lines) rest =
    if bytes_eq line first_line then workers_read lines rest
    else if bytes_eq line first_line_2 then second_read lines rest
    else Err wrong_version

-- the recorded schedule that bytes tell, or the first fault from the top
unfoldable pub log_read : List ℕ → Result Log Fault
log_read bytes = lines_read (lines_of bytes).whole (lines_of bytes).rest
