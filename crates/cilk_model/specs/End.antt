-- How things stand after the last choice, and the closing text of a run.
use Rattle.std.specs.Prelude.{ℕ, zero, suc, ℤ, Bool, true, ◌&&◌, ◌==◌, if◌then◌else◌, List, [], ◌∷◌, ◌++◌, length, map, Option, None, is_some}
use Rattle.std.specs.Prelude.{unwrap_or, slice_get, codes, decimal}
use Rattle.std.specs.List.{list_all}
use Rattle.std.specs.Fmt.{signed_decimal}
use Rattle.cilk_model.specs.declared.trap.Trap.{Trap}
use Rattle.cilk_model.specs.declared.trap.Trap.TheVariants.{Overflow, ZeroDivide, Shift, Index}
use Rattle.cilk_model.specs.labelled.Labelled.{Labelled}
use Rattle.cilk_model.specs.Path.{Path, path_text}
use Rattle.cilk_model.specs.State as state
use Rattle.cilk_model.specs.State.{TrapKind, of_value, lock, held_lock, depth, instances, output, Outcome}
use Rattle.cilk_model.specs.Choice.{Choice, step, pop, steal}
use Rattle.cilk_model.specs.Run.{Standing, Position, is_running, refusal_of}

-- the numbers from 1 to n
abbrev pub numbers : ℕ → List ℕ
numbers zero = []
numbers (suc n) = numbers n ++ suc n ∷ []

-- each choice of worker w, the last number being that of the workers
abbrev pub choices_of : ℕ → ℕ → List Choice
choices_of w n =
    record { worker = w; act = step } ∷ record { worker = w; act = pop } ∷ map (λ v. record { worker = w; act = steal v }) (numbers n)

-- each choice of the workers from 1 to w
abbrev pub choices_below : ℕ → ℕ → List Choice
choices_below zero n = []
choices_below (suc w) n = choices_below w n ++ choices_of (suc w) n

-- each choice of n workers
abbrev pub all_choices : ℕ → List Choice
all_choices n = choices_below n n

-- the program has not ended, and each choice of each worker is refused
abbrev pub is_stuck : Labelled → Standing → Bool
is_stuck program at =
    is_running at.state.outcome && list_all (λ c. is_some (refusal_of program at c)) (all_choices (length at.scheduler.places))

-- how it stands
pub data End : Type 0 where
  finished : (value : ℤ) → End
  -- with the line of the action
  trapped : (kind : TrapKind) (path : Path) (n line : ℕ) → End
  -- it has not ended, and no choice is possible
  stuck : End
  -- it has not ended, and some choice is possible
  limit : End

-- the line of action n in the canonical text, if there is such an action
abbrev pub line_of : Labelled → ℕ → Option ℕ
line_of program zero = None
line_of program (suc k) = slice_get program.lines k

abbrev pub end_by : Labelled → Bool → Outcome → End
end_by program is_stuck state.running = if is_stuck then stuck else limit
end_by program is_stuck (state.finished z) = finished z
end_by program is_stuck (state.trapped kind path n) = trapped kind path n (unwrap_or (line_of program n) 0)

abbrev pub end_now : Labelled → Standing → End
end_now program at = end_by program (is_stuck program at) at.state.outcome

abbrev pub trap_text : Trap → List ℕ
trap_text Overflow = codes "Overflow"
trap_text ZeroDivide = codes "ZeroDivide"
trap_text Shift = codes "Shift"
trap_text Index = codes "Index"

abbrev pub kind_text : TrapKind → List ℕ
kind_text (of_value trap) = trap_text trap
kind_text lock = codes "Lock"
kind_text held_lock = codes "HeldLock"
kind_text depth = codes "Depth"
kind_text instances = codes "Instances"
kind_text output = codes "Output"

-- the last line, after so many choices
abbrev pub end_text : End → ℕ → List ℕ
end_text (finished z) choices = codes "main returned " ++ signed_decimal z
end_text (trapped kind path n line) choices =
    codes "trapped " ++ (kind_text kind ++ (codes " in " ++ (path_text path ++ (codes " at " ++ (decimal n ++ (codes ", line " ++ decimal line))))))
end_text stuck choices = codes "stuck after " ++ (decimal choices ++ codes " choices")
end_text limit choices = codes "limit after " ++ (decimal choices ++ codes " choices")

-- whether the bytes are none, or end in a newline
abbrev pub ends_in_newline : List ℕ → Bool
ends_in_newline [] = true
ends_in_newline (b ∷ []) = b == 10
ends_in_newline (b ∷ c ∷ bytes) = ends_in_newline (c ∷ bytes)

-- a newline, where the line before has none
abbrev pub line_break : List ℕ → List ℕ
line_break bytes = if ends_in_newline bytes then [] else codes "\n"

-- the output on lines of its own, and the last line
abbrev pub ending : List ℕ → End → ℕ → List ℕ
ending printed end choices = printed ++ (line_break printed ++ (end_text end choices ++ codes "\n"))

-- the closing text of a run that led here
abbrev pub closing_text : Labelled → Position → List ℕ
closing_text program at =
    ending at.standing.state.output (end_now program at.standing) (length at.events)
