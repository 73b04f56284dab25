-- The schedule that a seed names: the choices of n workers, one after another, and where they are drawn.
use Rattle.std.specs.Prelude.{ℕ, zero, suc, Bool, ◌||◌, not, nat_lt, if◌then◌else◌, List, [], ◌∷◌, length, filter, slice_index_or, Option, Some, None}
use Rattle.std.specs.Prelude.{is_none}
use Rattle.cilk_run.specs.labelled.Labelled.{Labelled}
use Rattle.cilk_run.specs.model.Choice.{Act, step, pop, steal, Choice}
use Rattle.cilk_run.specs.model.State.{is_empty}
use Rattle.cilk_run.specs.model.Run.{Standing, refusal_of, next_of, opening}
use Rattle.cilk_run.specs.model.End.{numbers}
use Rattle.cilk_run.specs.step.Private.{is_private}
use Rattle.cilk_run.specs.Generator.{next_state, drawn_below}

-- worker w may do so
abbrev pub can : Labelled → Standing → ℕ → Act → Bool
can program at w act = is_none (refusal_of program at (record { worker = w; act = act }))

-- those of n workers from whom w may steal
abbrev pub victims : Labelled → ℕ → Standing → ℕ → List ℕ
victims program n at w = filter (λ v. can program at w (steal v)) (numbers n)

abbrev pub can_move : Labelled → ℕ → Standing → ℕ → Bool
can_move program n at w = can program at w step || (can program at w pop || not (is_empty (victims program n at w)))

-- those of n workers that may do anything
abbrev pub movers : Labelled → ℕ → Standing → List ℕ
movers program n at = filter (can_move program n at) (numbers n)

-- one of these, where the generator is in state s: of several it is drawn, and an only one is not
abbrev pub place_in : List ℕ → ℕ → ℕ
place_in found s = if nat_lt 1 (length found) then drawn_below (length found) s else 0

abbrev pub one_of : List ℕ → ℕ → ℕ
one_of found s = slice_index_or found (place_in found s) 0

-- the state of the generator behind that
abbrev pub state_behind : List ℕ → ℕ → ℕ
state_behind found s = if nat_lt 1 (length found) then next_state s else s

-- a choice, and the state of the generator behind it
pub record Turn : Type 0 where
  pub choice : Choice
  pub state : ℕ

abbrev pub turn : ℕ → Act → ℕ → Turn
turn w act s = record { choice = record { worker = w; act = act }; state = s }

-- a worker that may do anything steps; else it pops; else it steals from one of those from whom it may
abbrev pub turn_of_worker : Labelled → ℕ → Standing → ℕ → ℕ → Turn
turn_of_worker program n at s w =
    if can program at w step then turn w step s
    else (if can program at w pop then turn w pop s
    else turn w (steal (one_of (victims program n at w) s)) (state_behind (victims program n at w) s))

abbrev pub turn_among : Labelled → ℕ → Standing → ℕ → List ℕ → Option Turn
turn_among program n at s [] = None
turn_among program n at s (w ∷ ws) = Some (turn_of_worker program n at (state_behind (w ∷ ws) s) (one_of (w ∷ ws) s))

-- the worker of the last choice goes on while its step is private; else it is the turn of one of those that may do anything
abbrev pub turn_of : Labelled → ℕ → Standing → ℕ → ℕ → Option Turn
turn_of program n at last s =
    if is_private program at last then Some (turn last step s) else turn_among program n at s (movers program n at)

abbrev pub drawn_by : (Turn → List Choice) → Option Turn → List Choice
drawn_by others None = []
drawn_by others (Some t) = t.choice ∷ others t

-- at most so many choices from there on
abbrev pub drawn_from : Labelled → ℕ → ℕ → Standing → ℕ → ℕ → List Choice
drawn_from program n zero at last s = []
drawn_from program n (suc k) at last s =
    drawn_by (λ t. drawn_from program n k (next_of program at t.choice) t.choice.worker t.state) (turn_of program n at last s)

abbrev pub drawn_in : Labelled → ℕ → ℕ → ℕ → Option ℕ → List Choice
drawn_in program n seed limit None = []
drawn_in program n seed limit (Some main) = drawn_from program n limit (opening program main n) 1 seed

-- the choices that a seed names, at most so many: the generator begins with the seed as its state, and worker 1 as the one that chose last
abbrev pub drawn : Labelled → ℕ → ℕ → ℕ → List Choice
drawn program n seed limit = drawn_in program n seed limit program.main
