-- A run goes on by one choice.
use Rattle.std.proofs.Common.{◌≡◌, ℕ, Bool, true, false, List, [], ◌∷◌, ◌++◌, Option, Some, None, is_none, refl, subst, if◌then◌else◌}
use Rattle.cilk_model.specs.labelled.Labelled.{Labelled}
use Rattle.cilk_model.specs.Event.{Event}
use Rattle.cilk_model.specs.Choice.{Choice, Refusal}
use Rattle.cilk_model.specs.Run.{Standing, Position, refusal_of, next_of, event_of, after_from, opening, is_crew, after_main, after, position_after, one_more}

push_if : (program : Labelled) (choice : Choice) (b : Bool) (x y : Option Position) → x ≡ one_more program choice y
    → (if b then x else None) ≡ one_more program choice (if b then y else None)
push_if program choice true x y e = e
push_if program choice false x y e = refl

after_from-push : (program : Labelled) (at : Standing) (events : List Event) (choices : List Choice) (choice : Choice)
    → after_from program at events (choices ++ choice ∷ []) ≡ one_more program choice (after_from program at events choices)
after_from-push program at events [] choice = refl
after_from-push program at events (c ∷ choices) choice =
    push_if program choice (is_none (refusal_of program at c)) _ _
    (after_from-push program (next_of program at c) (events ++ event_of program at c ∷ []) choices choice)

after_main-push : (program : Labelled) (n : ℕ) (main : Option ℕ) (choices : List Choice) (choice : Choice)
    → after_main program n main (choices ++ choice ∷ []) ≡ one_more program choice (after_main program n main choices)
after_main-push program n None choices choice = refl
after_main-push program n (Some main) choices choice =
    push_if program choice (is_crew n) _ _ (after_from-push program (opening program main n) [] choices choice)

pub after-push : (program : Labelled) (n : ℕ) (choices : List Choice) (choice : Choice)
    → after program n (choices ++ choice ∷ []) ≡ one_more program choice (after program n choices)
after-push program n choices choice = after_main-push program n program.main choices choice

-- what holds at the opening, and is kept by each choice that is possible, holds at each position
module _ (program : Labelled) (Holds : Standing → Type 0)
    (keeps : (at : Standing) (c : Choice) → refusal_of program at c ≡ None → Holds at → Holds (next_of program at c)) where
  at_next : (at : Standing) (events : List Event) (c : Choice) (choices : List Choice) (end : Position) (o : Option Refusal) → refusal_of program at c ≡ o
      → (refusal_of program at c ≡ None → after_from program (next_of program at c) events choices ≡ Some end → Holds end.standing)
      → (if is_none o then after_from program (next_of program at c) events choices else None) ≡ Some end → Holds end.standing
  at_next at events c choices end None e f h = f e h
  at_next at events c choices end (Some r) e f h = cc

  at_each_from : (at : Standing) (events : List Event) (choices : List Choice) (end : Position) → Holds at
      → after_from program at events choices ≡ Some end → Holds end.standing
  at_each_from at events [] end holds h =
      let e : record { standing = at; events = events } ≡ end = cc in
      subst (λ (q : Position). Holds q.standing) e holds
  at_each_from at events (c ∷ choices) end holds h =
      at_next at (events ++ event_of program at c ∷ []) c choices end (refusal_of program at c) refl
      (λ free rest. at_each_from (next_of program at c) (events ++ event_of program at c ∷ []) choices end (keeps at c free holds) rest) h

  at_crew : (main n : ℕ) (choices : List Choice) (end : Position) (b : Bool) → is_crew n ≡ b → (is_crew n ≡ true → Holds (opening program main n))
      → (if b then after_from program (opening program main n) [] choices else None) ≡ Some end → Holds end.standing
  at_crew main n choices end true e opens h = at_each_from (opening program main n) [] choices end (opens e) h
  at_crew main n choices end false e opens h = cc

  at_main : (n : ℕ) (main : Option ℕ) (choices : List Choice) (end : Position) → ((m : ℕ) → is_crew n ≡ true → Holds (opening program m n))
      → after_main program n main choices ≡ Some end → Holds end.standing
  at_main n None choices end opens h = cc
  at_main n (Some main) choices end opens h = at_crew main n choices end (is_crew n) refl (opens main) h

  pub at_each : (n : ℕ) (choices : List Choice) (end : Position) → ((m : ℕ) → is_crew n ≡ true → Holds (opening program m n))
      → after program n choices ≡ Some end → Holds end.standing
  at_each n choices end opens h = at_main n program.main choices end opens h

-- what is known where one more choice is possible
pub record Went (program : Labelled) (choice : Choice) (at next : Position) : Type 0 where
  pub possible : refusal_of program at.standing choice ≡ None
  pub result : next ≡ position_after program at choice

went_by : (program : Labelled) (choice : Choice) (at next : Position) (o : Option Refusal) → refusal_of program at.standing choice ≡ o
    → (if is_none o then Some (position_after program at choice) else None) ≡ Some next → Went program choice at next
went_by program choice at next None e h = record { possible = e; result = cc }
went_by program choice at next (Some r) e h = cc

pub went : (program : Labelled) (choice : Choice) (at next : Position) → one_more program choice (Some at) ≡ Some next → Went program choice at next
went program choice at next h = went_by program choice at next (refusal_of program at.standing choice) refl h
