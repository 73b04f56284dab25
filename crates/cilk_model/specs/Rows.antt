-- What becomes of worked programs.
use Rattle.std.specs.Prelude.{ℕ, zero, suc, List, [], ◌∷◌, Option, option_map, option_and_then}
use Rattle.cilk_check_scopes.specs.syntax.Tree.{Program}
use Rattle.cilk_model.specs.labelled.Bodies.{label}
use Rattle.cilk_model.specs.Path.{Path}
use Rattle.cilk_model.specs.State.{Outcome}
use Rattle.cilk_model.specs.Event.{Event}
use Rattle.cilk_model.specs.Fate.{Fate, fate_of}
use Rattle.cilk_model.specs.Choice.{Choice, step, pop, steal, Refusal}
use Rattle.cilk_model.specs.Run.{after, refusal_of}
use Rattle.cilk_model.specs.End.{closing_text}

-- a worker's step, pop and steal
abbrev pub s : ℕ → Choice
s w = record { worker = w; act = step }

abbrev pub p : ℕ → Choice
p w = record { worker = w; act = pop }

abbrev pub t : ℕ → ℕ → Choice
t w v = record { worker = w; act = steal v }

-- so many steps of a worker
abbrev pub steps : ℕ → ℕ → List Choice
steps zero w = []
steps (suc n) w = s w ∷ steps n w

abbrev pub outcome_of : Program → List Choice → Option Outcome
outcome_of what choices = option_map (λ at. at.standing.state.outcome) (after (label what) 2 choices)

abbrev pub events_of : Program → List Choice → Option (List Event)
events_of what choices = option_map (λ at. at.events) (after (label what) 2 choices)

abbrev pub closing_of : Program → ℕ → List Choice → Option (List ℕ)
closing_of what n choices = option_map (closing_text (label what)) (after (label what) n choices)

abbrev pub refusal_then : Program → List Choice → Choice → Option Refusal
refusal_then what choices choice = option_and_then (λ at. refusal_of (label what) at.standing choice) (after (label what) 2 choices)

abbrev pub fate_after : Program → List Choice → Path → Option Fate
fate_after what choices path = option_and_then (λ at. fate_of at.events path) (after (label what) 2 choices)

-- the first value stops the other child
abbrev pub stops : List Choice
stops = s 1 ∷ s 1 ∷ t 2 1 ∷ s 2 ∷ s 2 ∷ s 1 ∷ s 1 ∷ s 1 ∷ t 1 2 ∷ s 1 ∷ s 1 ∷ s 1 ∷ s 2 ∷ s 1 ∷ s 1 ∷ s 1 ∷ []

-- both children return before the first inlet
abbrev pub both : List Choice
both = s 1 ∷ s 1 ∷ t 2 1 ∷ s 2 ∷ s 1 ∷ s 1 ∷ s 1 ∷ s 2 ∷ s 2 ∷ s 2 ∷ p 2 ∷ steps 10 2

-- of three workers: the parent is parked, and goes on with the first value while the other child lives
abbrev pub woken : List Choice
woken = s 1 ∷ s 1 ∷ t 2 1 ∷ s 2 ∷ t 3 2 ∷ s 3 ∷ s 1 ∷ s 1 ∷ s 1 ∷ s 1 ∷ s 1 ∷ s 1 ∷ s 1 ∷ s 2 ∷ s 1 ∷ s 1 ∷ []

-- an inlet of `main` marks a child, which is parked then, and its child
abbrev pub marks : List Choice
marks = s 1 ∷ t 2 1 ∷ s 1 ∷ s 2 ∷ s 2 ∷ p 2 ∷ s 2 ∷ s 2 ∷ s 2 ∷ s 2 ∷ t 2 1 ∷ s 2 ∷ steps 4 1

-- the first choices of a list
abbrev pub front : ℕ → List Choice → List Choice
front zero choices = []
front (suc n) [] = []
front (suc n) (c ∷ choices) = c ∷ front n choices
