-- Where a log tells a choice, and what is told of one that is not possible.
use Rattle.std.specs.Prelude.{◌≡◌, ◌≤◌, ◌<◌, ◌-◌, ◌+◌, ℕ, zero, suc, if◌then◌else◌, List, ◌∷◌, length, take, map, ◌++◌, Option, Some, None, Ok}
use Rattle.std.specs.Prelude.{slice_get, codes, decimal}
use Rattle.cilk_log_replay.specs.machine.model.Choice.{Choice}
use Rattle.cilk_log_replay.specs.log.choices.declared.refusal.Refusal.{Refusal}
use Rattle.cilk_log_replay.specs.log.Choices.{choice_text}
use Rattle.cilk_log_replay.specs.log.Reading.{log_read}
use Rattle.cilk_log_replay.specs.log.Stretches.{Stretch, once, are_joined, count_of, stretches_of}
use Rattle.cilk_log_replay.specs.log.Text.{Log, log_lines}
use Rattle.cilk_program_tapes.specs.Meanings.{refusal_meaning}

-- choice k of some, counted from 1
abbrev pub nth_choice : {C : Type 0} → List C → ℕ → Option C
nth_choice choices zero = None
nth_choice choices (suc k) = slice_get choices k

-- the number of the line that tells choice k, both counted from 1: in the text of the choices up to that one only the last line stands behind it
abbrev pub line_of_choice : Log → ℕ → ℕ
line_of_choice log k = length (log_lines (record { program = log.program; workers = log.workers; choices = take k log.choices })) - 1

-- what the lines between the first ones and the last tell, a stretch each
abbrev pub stretches_told : Option (List ℕ) → List Choice → List Stretch
stretches_told None choices = map once choices
stretches_told (Some digest) choices = stretches_of choices

-- so many lines stand before them
abbrev pub lines_before : Option (List ℕ) → ℕ
lines_before None = 2
lines_before (Some digest) = 3

-- the line of this number tells choice k of a log: the lines before it tell fewer choices, and with those of its own they are k or more
pub record TellsChoice (log : Log) (k number : ℕ) : Type 0 where
  pub before : List Stretch
  pub stretch : Stretch
  pub behind : List Stretch
  pub split : stretches_told log.program log.choices ≡ before ++ stretch ∷ behind
  pub number_is : number ≡ lines_before log.program + (length before + 1)
  pub fewer : count_of before < k
  pub reached : k ≤ count_of before + stretch.times

-- of version 2: how many lines more tell a choice behind this one, if one stands before it
abbrev pub new_lines : Option Choice → Choice → ℕ
new_lines None choice = 1
new_lines (Some last) choice = if are_joined last choice then 0 else 1

-- choice k, told on this line, is not possible for this reason
abbrev pub choice_words : ℕ → ℕ → Choice → Refusal → List ℕ
choice_words k line choice why =
    codes "Choice " ++ (decimal k ++ (codes ", `" ++ (choice_text choice ++ (codes "` in line " ++ (decimal line ++ (codes " of the log, is not possible: "
    ++ (refusal_meaning why ++ codes ".\n")))))))

-- the same of choice k of a log
pub record IsChoiceOf (log : Log) (k : ℕ) (why : Refusal) (told : List ℕ) : Type 0 where
  pub choice : Choice
  pub made : nth_choice log.choices k ≡ Some choice
  pub tells : TellsChoice log k (line_of_choice log k)
  pub is : told ≡ choice_words k (line_of_choice log k) choice why

-- of the log of which these bytes are the text
pub record IsChoiceTold (bytes : List ℕ) (k : ℕ) (why : Refusal) (told : List ℕ) : Type 0 where
  pub log : Log
  pub read : log_read bytes ≡ Ok log
  pub is : IsChoiceOf log k why told
