-- Worked rows: in which lines logs tell their choices.
use Rattle.std.specs.Prelude.{◌≡◌, refl, None}
use Rattle.cilk_log_replay.specs.log.Rows.{stolen}
use Rattle.cilk_program_tapes.specs.ChoiceLines.{line_of_choice}

-- behind three lines of version 2: `1 step`, `2 steal 1`, `2 step`, `1 step 4`
first_choice : line_of_choice stolen 1 ≡ 4
first_choice = refl

third_choice : line_of_choice stolen 3 ≡ 6
third_choice = refl

first_of_four : line_of_choice stolen 4 ≡ 7
first_of_four = refl

last_of_four : line_of_choice stolen 7 ≡ 7
last_of_four = refl

-- in version 1 each has a line
last_alone : line_of_choice (record { program = None; workers = 2; choices = stolen.choices }) 7 ≡ 9
last_alone = refl
