-- What holds at one position, and is kept by each choice that is possible, holds at each later one.
use Rattle.std.proofs.Common.{◌≡◌, ℕ, Bool, true, false, List, [], ◌∷◌, ◌++◌, Option, Some, None, ◌⊎◌, inl, inr, is_none, refl, sym, ap, subst, ◌∙◌}
use Rattle.std.proofs.Common.{if◌then◌else◌}
use Rattle.std.proofs.lemmas.List.{append-nil, append_assoc}
use Rattle.cilk_laws_model.specs.labelled.Labelled.{Labelled}
use Rattle.cilk_laws_model.specs.model.Path.{Path}
use Rattle.cilk_laws_model.specs.model.Instance.{Instance}
use Rattle.cilk_laws_model.specs.model.State.{instance_at}
use Rattle.cilk_laws_model.specs.model.Event.{Event, moved}
use Rattle.cilk_laws_model.specs.model.Pick.{step_of_live, step_of_instance}
use Rattle.cilk_laws_model.specs.model.Scheduler.{hand_of}
use Rattle.cilk_laws_model.specs.model.Choice.{Act, step, pop, steal, Choice, Refusal}
use Rattle.cilk_laws_model.specs.model.Run.{Standing, Position, refusal_of, next_of, next_by, next_by_hand, event_of, event_by, event_by_hand}
use Rattle.cilk_laws_model.specs.model.Run.{event_of_step, state_after, after_from, opening, is_crew, after_main, after, position_after, one_more}
use Rattle.cilk_laws_model.proofs.model_laws.Runs.{after-push, Went, went}
use Rattle.cilk_laws.specs.ChildLaws.{Leads}

-- the rest of a list of choices, from where its front led
abbrev pub rest_from : Labelled → Option Position → List Choice → Option Position
rest_from program None rest = None
rest_from program (Some at) rest = after_from program at.standing at.events rest

rest_if : (program : Labelled) (b : Bool) (x y : Option Position) (rest : List Choice) → x ≡ rest_from program y rest
    → (if b then x else None) ≡ rest_from program (if b then y else None) rest
rest_if program true x y rest e = e
rest_if program false x y rest e = refl

after_from-append : (program : Labelled) (at : Standing) (events : List Event) (front rest : List Choice)
    → after_from program at events (front ++ rest) ≡ rest_from program (after_from program at events front) rest
after_from-append program at events [] rest = refl
after_from-append program at events (c ∷ front) rest =
    rest_if program (is_none (refusal_of program at c)) _ _ rest
    (after_from-append program (next_of program at c) (events ++ event_of program at c ∷ []) front rest)

after_main-append : (program : Labelled) (n : ℕ) (main : Option ℕ) (front rest : List Choice)
    → after_main program n main (front ++ rest) ≡ rest_from program (after_main program n main front) rest
after_main-append program n None front rest = refl
after_main-append program n (Some main) front rest =
    rest_if program (is_crew n) _ _ rest (after_from-append program (opening program main n) [] front rest)

pub after-append : (program : Labelled) (n : ℕ) (front rest : List Choice) → after program n (front ++ rest) ≡ rest_from program (after program n front) rest
after-append program n front rest = after_main-append program n program.main front rest

-- where one more choice led
pub led : (program : Labelled) (n : ℕ) (choices : List Choice) (choice : Choice) (at next : Position)
    → Leads program n choices choice at next → Went program choice at next
led program n choices choice at next leads =
    went program choice at next (ap (one_more program choice) (sym leads.before) ∙ sym (after-push program n choices choice) ∙ leads.later)

pub possible_after : (program : Labelled) (n : ℕ) (choices : List Choice) (choice : Choice) (at : Position)
    → after program n choices ≡ Some at → refusal_of program at.standing choice ≡ None
    → after program n (choices ++ choice ∷ []) ≡ Some (position_after program at choice)
possible_after program n choices choice at known free =
    after-push program n choices choice ∙ ap (one_more program choice) known
    ∙ ap (λ (o : Option Refusal). if is_none o then Some (position_after program at choice) else None) free

-- kept by each choice from a position on
module _ (program : Labelled) (n : ℕ) (Holds : List Choice → Position → Type 0)
    (keeps : (choices : List Choice) (c : Choice) (at : Position) → after program n choices ≡ Some at
    → refusal_of program at.standing c ≡ None → Holds choices at → Holds (choices ++ c ∷ []) (position_after program at c)) where
  rest_by : (done : List Choice) (c : Choice) (rest : List Choice) (at end : Position) (o : Option Refusal) → refusal_of program at.standing c ≡ o
      →
      (refusal_of program at.standing c ≡ None → after_from program (next_of program at.standing c)
      (at.events ++ event_of program at.standing c ∷ []) rest ≡ Some end → Holds (done ++ c ∷ rest) end)
      →
      (if is_none o then after_from program (next_of program at.standing c) (at.events ++ event_of program at.standing c ∷ []) rest else
      None) ≡ Some end → Holds (done ++ c ∷ rest) end
  rest_by done c rest at end None e f h = f e h
  rest_by done c rest at end (Some r) e f h = cc

  each_rest : (done rest : List Choice) (at end : Position) → after program n done ≡ Some at → Holds done at
      → after_from program at.standing at.events rest ≡ Some end → Holds (done ++ rest) end
  each_rest done [] at end known holds h =
      let e : at ≡ end = cc in
      subst (λ cs. Holds cs end) (sym (append-nil done)) (subst (Holds done) e holds)
  each_rest done (c ∷ rest) at end known holds h =
      rest_by done c rest at end (refusal_of program at.standing c) refl
      (λ free k. subst (λ cs. Holds cs end) (append_assoc done (c ∷ []) rest)
      (each_rest (done ++ c ∷ []) rest (position_after program at c) end (possible_after program n done c at known free)
      (keeps done c at known free holds) k)) h

  pub each_later : (done rest : List Choice) (at end : Position) → after program n done ≡ Some at → Holds done at
      → after program n (done ++ rest) ≡ Some end → Holds (done ++ rest) end
  each_later done rest at end known holds h =
      each_rest done rest at end known holds (sym (ap (λ o. rest_from program o rest) known) ∙ sym (after-append program n done rest) ∙ h)

  main_by : (main : Option ℕ) (choices : List Choice) (end : Position) → program.main ≡ main
      →
      ((m : ℕ) → after program n [] ≡ Some (record { standing = opening program m n; events = [] })
      → Holds [] (record { standing = opening program m n; events = [] }))
      → after_main program n main choices ≡ Some end → Holds choices end
  main_by None choices end e opens h = cc
  main_by (Some m) choices end e opens h = crew_by (is_crew n) refl h
    where
      crew_by : (b : Bool) → is_crew n ≡ b → (if b then after_from program (opening program m n) [] choices else None) ≡ Some end → Holds choices end
      crew_by true f k =
          let first : after program n [] ≡ Some (record { standing = opening program m n; events = [] }) =
          ap (λ o. after_main program n o []) e ∙ ap (λ (b : Bool). if b then Some (record { standing = opening program m n; events = [] }) else None) f in
          each_rest [] choices (record { standing = opening program m n; events = [] }) end first (opens m first) k
      crew_by false f k = cc

  pub each_position : (choices : List Choice) (end : Position)
      →
      ((m : ℕ) → after program n [] ≡ Some (record { standing = opening program m n; events = [] })
      → Holds [] (record { standing = opening program m n; events = [] })) → after program n choices ≡ Some end → Holds choices end
  each_position choices end opens h = main_by program.main choices end refl opens h

-- what a choice was: a step of a live instance, or nothing that the state tells
pub record Stepped (program : Labelled) (at : Standing) (choice : Choice) : Type 0 where
  pub path : Path
  pub instance : Instance
  pub by_step : choice.act ≡ step
  pub in_hand : hand_of at.scheduler.places choice.worker ≡ Some path
  pub lives : instance_at at.state.instances path ≡ Some instance
  pub did : event_of program at choice ≡ event_of_step (step_of_instance program at.state path instance)
  pub leads : (next_of program at choice).state ≡ state_after at.state (step_of_instance program at.state path instance)

pub record Rested (program : Labelled) (at : Standing) (choice : Choice) : Type 0 where
  pub did : event_of program at choice ≡ moved
  pub leads : (next_of program at choice).state ≡ at.state

live_stepped : (program : Labelled) (at : Standing) (w : ℕ) (act : Act) (p : Path) (o : Option Instance) → act ≡ step
    → hand_of at.scheduler.places w ≡ Some p → instance_at at.state.instances p ≡ o
    → event_by program at w act ≡ event_of_step (step_of_live program at.state p o)
    → (next_by program at w act).state ≡ state_after at.state (step_of_live program at.state p o)
    → Stepped program at (record { worker = w; act = act }) ⊎ Rested program at (record { worker = w; act = act })
live_stepped program at w act p None is hand e did leads = inr (record { did = did; leads = leads })
live_stepped program at w act p (Some i) is hand e did leads =
    inl (record { path = p; instance = i; by_step = is; in_hand = hand; lives = e; did = did; leads = leads })

hand_stepped : (program : Labelled) (at : Standing) (w : ℕ) (o : Option Path) → hand_of at.scheduler.places w ≡ o
    → Stepped program at (record { worker = w; act = step }) ⊎ Rested program at (record { worker = w; act = step })
hand_stepped program at w None e = inr (record {
  did = ap (event_by_hand program at.state) e;
  leads = ap (λ o. (next_by_hand program at w o).state) e;
})
hand_stepped program at w (Some p) e =
    live_stepped program at w step p (instance_at at.state.instances p) refl e refl (ap (event_by_hand program at.state) e)
    (ap (λ o. (next_by_hand program at w o).state) e)

pub what_happens : (program : Labelled) (at : Standing) (choice : Choice) → Stepped program at choice ⊎ Rested program at choice
what_happens program at choice = by choice.act refl
  where
    by : (act : Act) → choice.act ≡ act → Stepped program at choice ⊎ Rested program at choice
    by act e =
        subst
        (λ a. Stepped program at (record { worker = choice.worker; act = a })
        ⊎ Rested program at (record { worker = choice.worker; act = a })) (sym e) (act_by act)
      where
        act_by : (a : Act) → Stepped program at (record { worker = choice.worker; act = a }) ⊎ Rested program at (record { worker = choice.worker; act = a })
        act_by step = hand_stepped program at choice.worker (hand_of at.scheduler.places choice.worker) refl
        act_by pop = inr (record { did = refl; leads = refl })
        act_by (steal v) = inr (record { did = refl; leads = refl })
