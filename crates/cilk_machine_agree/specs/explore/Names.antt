-- Workers by other names: what one worker has is another's, and nothing else is changed.
use Rattle.std.specs.Prelude.{◌≡◌, ◌==◌, if◌then◌else◌, ℕ, zero, suc, List, [], ◌∷◌, length, None, IsPermutation}
use Rattle.std.specs.List.Sorted.{apply_swaps, SwapsInRange}
use Rattle.cilk_machine_agree.specs.labelled.Labelled.{Labelled}
use Rattle.cilk_machine_agree.specs.model.Choice.{Act, step, pop, steal, Choice}
use Rattle.cilk_machine_agree.specs.model.Run.{Standing, refusal_of, next_of, event_of}
use Rattle.cilk_machine_agree.specs.explore.Same.{SameState}

-- where what stood at one of two places stands when they are exchanged
abbrev pub exchanged : ℕ × ℕ → ℕ → ℕ
exchanged p k = if k == p.0 then p.1 else (if k == p.1 then p.0 else k)

-- workers are numbered from 1, and their places from 0
abbrev pub renamed_once : ℕ × ℕ → ℕ → ℕ
renamed_once p zero = zero
renamed_once p (suc k) = suc (exchanged p k)

-- the number of a worker after these exchanges of places, the last of which stands first
abbrev pub renamed_worker : List (ℕ × ℕ) → ℕ → ℕ
renamed_worker [] w = w
renamed_worker (p ∷ moves) w = renamed_once p (renamed_worker moves w)

abbrev pub renamed_act : List (ℕ × ℕ) → Act → Act
renamed_act moves step = step
renamed_act moves pop = pop
renamed_act moves (steal v) = steal (renamed_worker moves v)

abbrev pub renamed_choice : List (ℕ × ℕ) → Choice → Choice
renamed_choice moves choice = record { worker = renamed_worker moves choice.worker; act = renamed_act moves choice.act }

abbrev pub renamed : List (ℕ × ℕ) → Standing → Standing
renamed moves at = record at { scheduler = record at.scheduler { places = apply_swaps at.scheduler.places moves } }

-- a choice by the other names is refused for the same reason, and a possible one does the same, and leads to the same by these names
pub record GoesByOtherNames (program : Labelled) (at : Standing) (moves : List (ℕ × ℕ)) (choice : Choice) : Type 0 where
  pub refusal : refusal_of program (renamed moves at) (renamed_choice moves choice) ≡ refusal_of program at choice
  pub event : refusal_of program at choice ≡ None
      → event_of program (renamed moves at) (renamed_choice moves choice) ≡ event_of program at choice
  pub next : refusal_of program at choice ≡ None
      → next_of program (renamed moves at) (renamed_choice moves choice) ≡ renamed moves (next_of program at choice)

abbrev pub NamesDoNotMatter : Type 0
NamesDoNotMatter = (program : Labelled) (at : Standing) (moves : List (ℕ × ℕ)) → SwapsInRange (length at.scheduler.places) moves
    → (choice : Choice) → GoesByOtherNames program at moves choice

-- the same, but for the names of the workers
pub record SameButNames (a b : Standing) : Type 0 where
  pub state : SameState a.state b.state
  pub places : IsPermutation a.scheduler.places b.scheduler.places
