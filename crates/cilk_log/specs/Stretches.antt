-- Stretches of choices: what one line of the second version tells.
use Rattle.std.specs.Prelude.{◌≡◌, ◌<◌, ◌≤◌, ℕ, ◌+◌, ◌==◌, ◌&&◌, not, Bool, true, false, ⊤, if◌then◌else◌, List, [], ◌∷◌, ◌++◌, replicate, Option, Some, None}
use Rattle.std.specs.Prelude.{codes, decimal}
use Rattle.cilk_sched.specs.model.Choice.{Act, step, pop, steal, Choice}
use Rattle.cilk_log.specs.Choices.{choice_text}

-- a choice, so many times one after another
pub record Stretch : Type 0 where
  pub choice : Choice
  pub times : ℕ

abbrev pub once : Choice → Stretch
once choice = record { choice = choice; times = 1 }

-- the choices that they tell, the first one first
abbrev pub choices_of : List Stretch → List Choice
choices_of [] = []
choices_of (stretch ∷ stretches) = replicate stretch.times stretch.choice ++ choices_of stretches

-- how many those are
abbrev pub count_of : List Stretch → ℕ
count_of [] = 0
count_of (stretch ∷ stretches) = stretch.times + count_of stretches

abbrev pub is_step : Act → Bool
is_step step = true
is_step pop = false
is_step (steal victim) = false

-- both are steps of one worker
abbrev pub are_joined : Choice → Choice → Bool
are_joined a b = is_step a.act && (is_step b.act && a.worker == b.worker)

-- the first of these stretches is not of steps of the worker whose step the choice is
abbrev pub is_apart : Choice → List Stretch → Bool
is_apart choice [] = true
is_apart choice (stretch ∷ stretches) = not (are_joined choice stretch.choice)

-- what stands behind a choice, if that may: no stretch of steps of the worker whose step the choice is
abbrev pub following : Option Choice → Option Stretch → Option Stretch
following None stretch = stretch
following (Some choice) None = None
following (Some choice) (Some stretch) = if are_joined choice stretch.choice then None else Some stretch

-- with one choice more in front: it is one of the first stretch, or a stretch of its own
abbrev pub with_first : Choice → List Stretch → List Stretch
with_first choice [] = once choice ∷ []
with_first choice (stretch ∷ stretches) =
    if are_joined choice stretch.choice
    then record { choice = choice; times = stretch.times + 1 } ∷ stretches
    else once choice ∷ stretch ∷ stretches

-- the stretches of choices: all steps of one worker that stand together are one
abbrev pub stretches_of : List Choice → List Stretch
stretches_of [] = []
stretches_of (choice ∷ choices) = with_first choice (stretches_of choices)

-- some choices, and more than one only if they are steps
pub record IsStretch (stretch : Stretch) : Type 0 where
  pub some : 1 ≤ stretch.times
  pub steps : 1 < stretch.times → is_step stretch.choice.act ≡ true

-- neighbours are not steps of one worker
abbrev pub AreStretches : List Stretch → Type 0
AreStretches [] = ⊤
AreStretches (stretch ∷ stretches) = IsStretch stretch × (is_apart stretch.choice stretches ≡ true) × AreStretches stretches

-- the line, without its newline: `W step C` of several steps
abbrev pub stretch_text : Stretch → List ℕ
stretch_text stretch =
    if stretch.times == 1 then choice_text stretch.choice else choice_text stretch.choice ++ (codes " " ++ decimal stretch.times)
