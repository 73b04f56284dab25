-- One event more.
use Rattle.std.proofs.Common.{◌≡◌, ℕ, ◌≤◌, List, [], ◌∷◌, ◌++◌, length, refl, ap, sym, ◌∙◌, max, arith}
use Rattle.std.proofs.lemmas.List.{append-nil, append_assoc}
use Rattle.cilk_log_replay.specs.machine.nodes.model.labelled.Labelled.{Labelled}
use Rattle.cilk_log_replay.specs.machine.nodes.model.Path.{Path}
use Rattle.cilk_log_replay.specs.machine.nodes.model.Choice.{Choice}
use Rattle.cilk_log_replay.specs.machine.nodes.model.Event.{Event}
use Rattle.cilk_races.specs.Inside.{Inside, outside, inside_by, inside_from, inside_of}
use Rattle.cilk_races.specs.Steps.{Step, listed, step_of, steps_from, steps_of}
use Rattle.cilk_races.specs.Deeds.{Deed, deeds_of}
use Rattle.cilk_races.specs.Measure.{greatest, most_from, most}
use Rattle.cilk_races.proofs.Tops.{max-assoc}

inside_from-push : (program : Labelled) (p : Path) (events : List Event) (e : Event) (i : Inside)
    → inside_from program p (events ++ e ∷ []) i ≡ inside_by program p e (inside_from program p events i)
inside_from-push program p [] e i = refl
inside_from-push program p (x ∷ events) e i = inside_from-push program p events e (inside_by program p x i)

pub inside-push : (program : Labelled) (p : Path) (events : List Event) (e : Event)
    → inside_of program (events ++ e ∷ []) p ≡ inside_by program p e (inside_of program events p)
inside-push program p events e = inside_from-push program p events e outside

steps_from-push : (program : Labelled) (before events : List Event) (e : Event)
    → steps_from program before (events ++ e ∷ []) ≡ steps_from program before events ++ listed (step_of program (before ++ events) e)
steps_from-push program before [] e =
    append-nil (listed (step_of program before e)) ∙ ap (λ (es : List Event). listed (step_of program es e)) (sym (append-nil before))
steps_from-push program before (x ∷ events) e =
    ap (λ (ss : List Step). listed (step_of program before x) ++ ss) (steps_from-push program (before ++ x ∷ []) events e)
    ∙ sym (append_assoc (listed (step_of program before x)) (steps_from program (before ++ x ∷ []) events) _)
    ∙ ap
    (λ (es : List Event). (listed (step_of program before x) ++ steps_from program (before ++ x ∷ []) events) ++ listed (step_of program es e))
    (append_assoc before (x ∷ []) events)

pub steps-push : (program : Labelled) (events : List Event) (e : Event)
    → steps_of program (events ++ e ∷ []) ≡ steps_of program events ++ listed (step_of program events e)
steps-push program events e = steps_from-push program [] events e

pub deeds-push : (choices : List Choice) (events : List Event) (choice : Choice) (e : Event) → length choices ≡ length events
    → deeds_of (choices ++ choice ∷ []) (events ++ e ∷ []) ≡ deeds_of choices events ++ record { choice = choice; did = e } ∷ []
deeds-push [] [] choice e same = refl
deeds-push [] (x ∷ events) choice e same = absurd (omega (arith, same))
deeds-push (c ∷ choices) [] choice e same = absurd (omega (arith, same))
deeds-push (c ∷ choices) (x ∷ events) choice e same =
    let less : length choices ≡ length events = omega (arith, same) in
    ap (λ (ds : List Deed). record { choice = c; did = x } ∷ ds) (deeds-push choices events choice e less)

pub greatest-push : (xs : List ℕ) (x : ℕ) → greatest (xs ++ x ∷ []) ≡ max (greatest xs) x
greatest-push [] x = omega arith
greatest-push (y ∷ xs) x = ap (max y) (greatest-push xs x) ∙ max-assoc y (greatest xs) x

most_from-push : {A : Type 0} (f : List A → ℕ) (before xs : List A) (x : A)
    → most_from f before (xs ++ x ∷ []) ≡ max (most_from f before xs) (f (before ++ (xs ++ x ∷ [])))
most_from-push f before [] x = refl
most_from-push f before (y ∷ xs) x =
    ap (max (f before)) (most_from-push f (before ++ y ∷ []) xs x)
    ∙ max-assoc (f before) (most_from f (before ++ y ∷ []) xs) _
    ∙ ap (λ zs. max (max (f before) (most_from f (before ++ y ∷ []) xs)) (f zs)) (append_assoc before (y ∷ []) (xs ++ x ∷ []))

pub most-push : {A : Type 0} (f : List A → ℕ) (xs : List A) (x : A) → most f (xs ++ x ∷ []) ≡ max (most f xs) (f (xs ++ x ∷ []))
most-push f xs x = most_from-push f [] xs x

-- what is told at the end was told on the way
most_from-last : {A : Type 0} (f : List A → ℕ) (before xs : List A) → f (before ++ xs) ≤ most_from f before xs
most_from-last f before [] =
    let same : f (before ++ []) ≡ f before = ap f (append-nil before) in
    omega (arith, same)
most_from-last f before (x ∷ xs) =
    let same : f ((before ++ x ∷ []) ++ xs) ≡ f (before ++ x ∷ xs) = ap f (append_assoc before (x ∷ []) xs) in
    let low = most_from-last f (before ++ x ∷ []) xs in
    omega (arith, same, low)

pub most-last : {A : Type 0} (f : List A → ℕ) (xs : List A) → f xs ≤ most f xs
most-last f xs = most_from-last f [] xs
