-- What a search rests on: a standing's future is that of each that is the same, and a search that has looked at all it found has found all.
use Rattle.std.specs.Prelude.{◌≡◌, ◌≤◌, ◌↔◌, ℕ, true, List, ◌++◌, length, Some, None, slice_get}
use Rattle.cilk_machine_agree.specs.labelled.Labelled.{Labelled}
use Rattle.cilk_machine_agree.specs.model.Choice.{Choice}
use Rattle.cilk_machine_agree.specs.model.Run.{Standing, Position, refusal_of, next_of, event_of, after}
use Rattle.cilk_machine_agree.specs.model.End.{end_now}
use Rattle.cilk_machine_agree.specs.runs.Hands.{EachInItsPlace}
use Rattle.cilk_machine_agree.specs.explore.Ending.{ending_at, is_last, IsOver}
use Rattle.cilk_machine_agree.specs.explore.Same.{Same}
use Rattle.cilk_machine_agree.specs.explore.Names.{SameButNames}
use Rattle.cilk_machine_agree.specs.explore.Search.{KnownBy, Search, IsSearchBy, Told, Tells, Sound, Whole, First}

-- a choice is possible in both or refused for one reason, does the same, and leads to what is the same
pub record GoesAlike (program : Labelled) (a b : Standing) (choice : Choice) : Type 0 where
  pub refusal : refusal_of program a choice ≡ refusal_of program b choice
  pub event : event_of program a choice ≡ event_of program b choice
  pub next : Same (next_of program a choice) (next_of program b choice)

abbrev pub SamenessIsKept : Type 0
SamenessIsKept = (program : Labelled) (a b : Standing) → EachInItsPlace a → EachInItsPlace b → Same a b
    → (choice : Choice) → GoesAlike program a b choice

abbrev pub TheSameEndAlikeBy : (Standing → Standing → Type 0) → Type 0
TheSameEndAlikeBy alike = (program : Labelled) (a b : Standing) → EachInItsPlace a → EachInItsPlace b → alike a b → ending_at program a ≡ ending_at program b

abbrev pub TheSameEndAlike : Type 0
TheSameEndAlike = TheSameEndAlikeBy Same

-- the second of two standings that are taken for one does what a choice of the first does, and leads to what is taken for one again
pub record DoesAsWell (alike : Standing → Standing → Type 0) (program : Labelled) (a b : Standing) (choice : Choice) : Type 0 where
  pub other : Choice
  pub free : refusal_of program b other ≡ None
  pub event : event_of program b other ≡ event_of program a choice
  pub next : alike (next_of program a choice) (next_of program b other)

-- standings may be taken for one by this: each can do what the other can, and they stand alike
pub record TakenForOne (alike : Standing → Standing → Type 0) (program : Labelled) : Type 0 where
  pub again : (a : Standing) → alike a a
  pub turned : (a b : Standing) → alike a b → alike b a
  pub both : (a b c : Standing) → alike a b → alike b c → alike a c
  pub outcome : (a b : Standing) → alike a b → a.state.outcome ≡ b.state.outcome
  pub output : (a b : Standing) → alike a b → a.state.output ≡ b.state.output
  pub onward : (a b : Standing) → EachInItsPlace a → EachInItsPlace b → alike a b
      → (choice : Choice) → refusal_of program a choice ≡ None → DoesAsWell alike program a b choice

-- the names of workers do not matter to what can be done
abbrev pub SamenessButNamesIsKept : Type 0
SamenessButNamesIsKept = (program : Labelled) → TakenForOne SameButNames program

-- what is possible behind one list of choices is so behind each other that leads to the same, and leads to the same again
abbrev pub TheSameGoOnAlike : Type 0
TheSameGoOnAlike = (program : Labelled) (n : ℕ) (choices others more : List Choice) (a b at : Position)
    → after program n choices ≡ Some a → after program n others ≡ Some b → Same a.standing b.standing → after program n (choices ++ more) ≡ Some at
    → (to : Position) × (after program n (others ++ more) ≡ Some to) × Same at.standing to.standing

-- a program has ended, or is stuck, exactly where no choice is possible
abbrev pub OverExactly : Type 0
OverExactly = (program : Labelled) (at : Standing) → (is_last (end_now program at) ≡ true) ↔ IsOver program at

-- what is reached in no more choices than the next log that is to be looked at is known; where there is none, that is all that is reached
abbrev pub EachIsKnownBy : (Standing → Standing → Type 0) → Type 0
EachIsKnownBy alike = (program : Labelled) (n : ℕ) (search : Search) → IsSearchBy alike program n search
    → (choices : List Choice) (at : Position) → after program n choices ≡ Some at
    → ((log : List Choice) → slice_get search.logs search.looked ≡ Some log → length choices ≤ length log)
    → KnownBy alike program n search.logs at.standing (length choices)

abbrev pub EachIsKnown : Type 0
EachIsKnown = EachIsKnownBy SameButNames

-- what a search tells is sound and comes first, and is whole where it has looked at all that it found
pub record TellsRightly (program : Labelled) (n : ℕ) (search : Search) (told : List Told) : Type 0 where
  pub sound : Sound program n told
  pub first : First program n told
  pub whole : length search.logs ≤ search.looked → Whole program n told

abbrev pub SearchesTellRightlyBy : (Standing → Standing → Type 0) → Type 0
SearchesTellRightlyBy alike = (program : Labelled) (n : ℕ) (search : Search) (told : List Told) → IsSearchBy alike program n search
    → Tells program n search told → TellsRightly program n search told

abbrev pub SearchesTellRightly : Type 0
SearchesTellRightly = SearchesTellRightlyBy SameButNames
