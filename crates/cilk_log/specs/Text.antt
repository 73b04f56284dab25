-- A recorded schedule, and its text.
use Rattle.std.specs.Prelude.{◌≡◌, ℕ, ◌<◌, ◌^◌, nat_lt, ⊤, Bool, false, List, [], ◌∷◌, ◌++◌, map, length, flat_map, Option, Some, None, codes, decimal}
use Rattle.std.specs.List.{AllByRecursion}
use Rattle.hex.specs.Hex.{encode_lower, IsBytes}
use Rattle.cilk_sched.specs.model.Choice.{Choice}
use Rattle.cilk_log.specs.Choices.{choice_text, ChoiceFits}
use Rattle.cilk_log.specs.Stretches.{stretch_text, stretches_of}

-- for so many workers, the choices that were made, the first one first; and the digest of the text of the program that they made them in,
-- where it tells that
pub record Log : Type 0 where
  pub program : Option (List ℕ)
  pub workers : ℕ
  pub choices : List Choice

abbrev pub first_line : List ℕ
first_line = codes "cilklog 1"

abbrev pub first_line_2 : List ℕ
first_line_2 = codes "cilklog 2"

abbrev pub workers_text : ℕ → List ℕ
workers_text n = codes "workers " ++ decimal n

abbrev pub digest_text : List ℕ → List ℕ
digest_text digest = codes "program " ++ encode_lower digest

abbrev pub end_text : ℕ → List ℕ
end_text n = codes "end " ++ decimal n

-- the lines, without the newlines that end them: of version 2 where the program is told, and else of version 1
abbrev pub lines_by : Option (List ℕ) → ℕ → List Choice → List (List ℕ)
lines_by None workers choices =
    first_line ∷ (workers_text workers ∷ (map choice_text choices ++ end_text (length choices) ∷ []))
lines_by (Some digest) workers choices =
    first_line_2 ∷ (workers_text workers
    ∷ (digest_text digest ∷ (map stretch_text (stretches_of choices) ++ end_text (length choices) ∷ [])))

abbrev pub log_lines : Log → List (List ℕ)
log_lines log = lines_by log.program log.workers log.choices

abbrev pub with_newline : List ℕ → List ℕ
with_newline line = line ++ codes "\n"

-- the text: each line with its newline
unfoldable pub log_text : Log → List ℕ
log_text log = flat_map with_newline (log_lines log)

-- version 2 tells no more choices
abbrev pub most_choices : ℕ
most_choices = 10000000

abbrev pub is_past_most : Option (List ℕ) → ℕ → Bool
is_past_most None n = false
is_past_most (Some digest) n = nat_lt most_choices n

-- a recorded schedule of too many choices for the version of its text
abbrev pub is_too_long : Log → Bool
is_too_long log = is_past_most log.program (length log.choices)

abbrev pub ProgramFits : Option (List ℕ) → Type 0
ProgramFits None = ⊤
ProgramFits (Some digest) = (length digest ≡ 32) × IsBytes digest

-- the numbers of a recorded schedule fit their types, and it is not too long
pub record LogFits (log : Log) : Type 0 where
  pub program : ProgramFits log.program
  pub workers : log.workers < 256
  pub choices : AllByRecursion ChoiceFits log.choices
  pub count : length log.choices < 2 ^ 64
  pub few : is_too_long log ≡ false
