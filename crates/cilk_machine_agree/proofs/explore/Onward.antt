-- What is possible behind one list of choices is so behind another that leads to the same.
use Rattle.std.proofs.Common.{◌≡◌, ℕ, Bool, true, false, List, [], ◌∷◌, ◌++◌, Option, Some, None, is_none, refl, sym, ap, subst, ◌∙◌, if◌then◌else◌}
use Rattle.cilk_machine_agree.specs.labelled.Labelled.{Labelled}
use Rattle.cilk_machine_agree.specs.model.Event.{Event}
use Rattle.cilk_machine_agree.specs.model.Choice.{Choice, Refusal}
use Rattle.cilk_machine_agree.specs.model.Run.{Standing, Position, refusal_of, next_of, event_of, after_from, opening, is_crew, after_main, after}
use Rattle.cilk_machine_agree.specs.runs.Hands.{EachInItsPlace}
use Rattle.cilk_machine_agree.proofs.runs_laws.Kept.{places_are_kept}
use Rattle.cilk_machine_agree.specs.explore.Same.{Same}
use Rattle.cilk_machine_agree.specs.explore.Laws.{TheSameGoOnAlike}
use Rattle.cilk_machine_agree.proofs.explore.Standings.{sameness_is_kept}

-- further choices, where the first ones lead somewhere
abbrev pub then_after : Labelled → List Choice → Option Position → Option Position
then_after program more None = None
then_after program more (Some at) = after_from program at.standing at.events more

append_if : (program : Labelled) (more : List Choice) (b : Bool) (x y : Option Position) → x ≡ then_after program more y
    → (if b then x else None) ≡ then_after program more (if b then y else None)
append_if program more true x y e = e
append_if program more false x y e = refl

after_from-append : (program : Labelled) (at : Standing) (events : List Event) (choices more : List Choice)
    → after_from program at events (choices ++ more) ≡ then_after program more (after_from program at events choices)
after_from-append program at events [] more = refl
after_from-append program at events (c ∷ choices) more =
    append_if program more (is_none (refusal_of program at c)) _ _
    (after_from-append program (next_of program at c) (events ++ event_of program at c ∷ []) choices more)

after_main-append : (program : Labelled) (n : ℕ) (main : Option ℕ) (choices more : List Choice)
    → after_main program n main (choices ++ more) ≡ then_after program more (after_main program n main choices)
after_main-append program n None choices more = refl
after_main-append program n (Some main) choices more =
    append_if program more (is_crew n) _ _ (after_from-append program (opening program main n) [] choices more)

pub after-append : (program : Labelled) (n : ℕ) (choices more : List Choice)
    → after program n (choices ++ more) ≡ then_after program more (after program n choices)
after-append program n choices more = after_main-append program n program.main choices more

-- a choice that is possible is made
pub made : (program : Labelled) (at : Standing) (events : List Event) (c : Choice) (more : List Choice) → refusal_of program at c ≡ None
    → after_from program at events (c ∷ more) ≡ after_from program (next_of program at c) (events ++ event_of program at c ∷ []) more
made program at events c more free =
    ap (λ (o : Option Refusal). if is_none o then after_from program (next_of program at c) (events ++ event_of program at c ∷ []) more else None) free

-- the first of choices that lead somewhere is possible
pub free_by : {A : Type 0} (o : Option Refusal) (x : Option A) (y : A) → (if is_none o then x else None) ≡ Some y → o ≡ None
free_by None x y h = refl
free_by (Some why) x y h = cc

-- where further choices lead from what is the same
pub record Follows (program : Labelled) (b : Standing) (events : List Event) (more : List Choice) (at : Position) : Type 0 where
  pub to : Position
  pub leads : after_from program b events more ≡ Some to
  pub same : Same at.standing to.standing

pub follows : (program : Labelled) (more : List Choice) (a b : Standing) (es fs : List Event) (at : Position) → EachInItsPlace a → EachInItsPlace b
    → Same a b → after_from program a es more ≡ Some at → Follows program b fs more at
follows program [] a b es fs at placed laid same h =
    let e : record { standing = a; events = es } ≡ at = cc in
    record { to = record { standing = b; events = fs }; leads = refl; same = subst (λ (q : Position). Same q.standing b) e same }
follows program (c ∷ more) a b es fs at placed laid same h =
    let free = free_by (refusal_of program a c) _ at h in
    let alike = sameness_is_kept program a b placed laid same c in
    let other : refusal_of program b c ≡ None = sym alike.refusal ∙ free in
    let rest = follows program more (next_of program a c) (next_of program b c) (es ++ event_of program a c ∷ []) (fs ++ event_of program b c ∷ []) at
    (places_are_kept.by_choice program a c free placed) (places_are_kept.by_choice program b c other laid) alike.next
    (sym (made program a es c more free) ∙ h) in
    record { to = rest.to; leads = made program b fs c more other ∙ rest.leads; same = rest.same }

pub the_same_go_on_alike : TheSameGoOnAlike
the_same_go_on_alike program n choices others more a b at led beside same h =
    let f = follows program more a.standing b.standing a.events b.events at
    (places_are_kept.always program n choices a led) (places_are_kept.always program n others b beside) same
    (ap (then_after program more) (sym led) ∙ sym (after-append program n choices more) ∙ h) in
    (f.to, after-append program n others more ∙ ap (then_after program more) beside ∙ f.leads, f.same)
