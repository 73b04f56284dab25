-- A search that has looked at all it found tells from where the program never ends.
use Rattle.std.proofs.Common.{◌≡◌, ◌≤◌, ℕ, Bool, true, false, List, [], ◌∷◌, ◌++◌, length, Option, Some, None, is_none, slice_get, refl, sym, ap, subst, ◌∙◌}
use Rattle.std.proofs.Common.{if◌then◌else◌, arith}
use Rattle.std.proofs.lemmas.Option.{slice_get_within}
use Rattle.cilk_machine_agree.specs.labelled.Labelled.{Labelled}
use Rattle.cilk_machine_agree.specs.model.Event.{Event}
use Rattle.cilk_machine_agree.specs.model.Choice.{Choice, Refusal}
use Rattle.cilk_machine_agree.specs.model.Run.{Standing, Position, refusal_of, next_of, event_of, after_from, after, position_after, one_more}
use Rattle.cilk_machine_agree.specs.runs.Hands.{EachInItsPlace}
use Rattle.cilk_machine_agree.proofs.runs_laws.Kept.{places_are_kept}
use Rattle.cilk_machine_agree.proofs.runs_laws.model_laws.Runs.{after-push}
use Rattle.cilk_machine_agree.specs.explore.Ending.{IsOver}
use Rattle.cilk_machine_agree.specs.explore.Names.{SameButNames}
use Rattle.cilk_machine_agree.specs.explore.Search.{KnownBy, Search, IsSearchBy}
use Rattle.cilk_machine_agree.specs.explore.Endless.{CanEnd, UnmarkedBy, AreMarkedBy, TheEndlessAreUnmarked, TheEndlessAreUnmarkedBy}
use Rattle.cilk_machine_agree.specs.explore.Laws.{TakenForOne}
use Rattle.cilk_machine_agree.proofs.explore.Taken.{over_alike}
use Rattle.cilk_machine_agree.proofs.explore.ButNames.{names_kept}
use Rattle.cilk_machine_agree.proofs.explore.Onward.{made, free_by}
use Rattle.cilk_machine_agree.proofs.explore.Searches.{known_by}

module _ (alike : Standing → Standing → Type 0) (program : Labelled) (kept : TakenForOne alike program) where
  -- where one can end each other that is taken for it can
  pub can_end_by : (choices : List Choice) (a b : Standing) (es fs : List Event) (to : Position) → EachInItsPlace a → EachInItsPlace b → alike a b
      → after_from program a es choices ≡ Some to → IsOver program to.standing
      → (others : List Choice) × (at : Position) × (after_from program b fs others ≡ Some at) × IsOver program at.standing
  can_end_by [] a b es fs to placed laid same h over =
      let e : record { standing = a; events = es } ≡ to = cc in
      let here = subst (λ (q : Position). IsOver program q.standing) (sym e) over in
      ([], record { standing = b; events = fs }, refl, over_alike alike program kept b a laid placed (kept.turned a b same) here)
  can_end_by (c ∷ choices) a b es fs to placed laid same h over =
      let free = free_by (refusal_of program a c) _ to h in
      let does = kept.onward a b placed laid same c free in
      let rest = can_end_by choices (next_of program a c) (next_of program b does.other) (es ++ event_of program a c ∷ [])
      (fs ++ event_of program b does.other ∷ []) to (places_are_kept.by_choice program a c free placed)
      (places_are_kept.by_choice program b does.other does.free laid) does.next (sym (made program a es c choices free) ∙ h) over in
      (does.other ∷ rest.0, rest.1, made program b fs does.other rest.0 does.free ∙ rest.2, rest.3)

  pub can_end_alike : (a b : Standing) → EachInItsPlace a → EachInItsPlace b → alike a b → CanEnd program a → CanEnd program b
  can_end_alike a b placed laid same e =
      let f = can_end_by e.choices a b [] [] e.to placed laid same e.leads e.over in record { choices = f.0; to = f.1; leads = f.2; over = f.3 }

  module _ (n : ℕ) (logs : List (List Choice)) (marks : ℕ → Bool) (are : AreMarkedBy alike program n logs marks) where
    -- from what is not marked no choices lead to an end
    unending : (rest : List Choice) (mid : Standing) (events : List Event) (at : Position) → EachInItsPlace mid → UnmarkedBy alike program n logs marks mid
        → after_from program mid events rest ≡ Some at → ¬ IsOver program at.standing
    unending [] mid events at placed u h over =
        let e : record { standing = mid; events = events } ≡ at = cc in
        let here = subst (λ (q : Position). IsOver program q.standing) (sym e) over in
        let is = are.over u.number u.log u.to u.found u.leads
        (over_alike alike program kept u.to.standing mid (places_are_kept.always program n u.log u.to u.leads) placed u.same here) in
        let both : true ≡ false = sym is ∙ u.none in cc
    unending (c ∷ rest) mid events at placed u h over =
        let free = free_by (refusal_of program mid c) _ at h in
        let back = kept.turned u.to.standing mid u.same in
        let does = kept.onward mid u.to.standing placed (places_are_kept.always program n u.log u.to u.leads) back c free in
        let led : after program n (u.log ++ does.other ∷ []) ≡ Some (position_after program u.to does.other) =
        after-push program n u.log does.other ∙ ap (one_more program does.other) u.leads
        ∙ ap (λ (o : Option Refusal). if is_none o then Some (position_after program u.to does.other) else None) does.free in
        let next = are.closed u.number u.log does.other (position_after program u.to does.other) u.found u.none led in
        let there = next_of program u.to.standing does.other in
        unending rest (next_of program mid c) (events ++ event_of program mid c ∷ []) at (places_are_kept.by_choice program mid c free placed)
        (record {
          number = next.number;
          log = next.log;
          found = next.found;
          none = next.none;
          to = next.to;
          leads = next.leads;
          same = kept.both next.to.standing there (next_of program mid c) next.same (kept.turned (next_of program mid c) there does.next);
        })
        (sym (made program mid events c rest free) ∙ h) over

    sound : (k : ℕ) (log : List Choice) (at : Position) → slice_get logs k ≡ Some log → after program n log ≡ Some at → marks k ≡ false
        → ¬ CanEnd program at.standing
    sound k log at found leads none e =
        unending e.choices at.standing [] e.to (places_are_kept.always program n log at leads)
        (record { number = k; log = log; found = found; none = none; to = at; leads = leads; same = kept.again at.standing }) e.leads e.over

  module _ (n : ℕ) (search : Search) (marks : ℕ → Bool) (is : IsSearchBy alike program n search) (all : length search.logs ≤ search.looked)
      (are : AreMarkedBy alike program n search.logs marks) where
    marked_by : (choices : List Choice) (at : Position) → after program n choices ≡ Some at → ¬ CanEnd program at.standing
        → (k : KnownBy alike program n search.logs at.standing (length choices)) → (b : Bool) → marks k.number ≡ b → b ≡ false
    marked_by choices at h never k true e =
        absurd (never (can_end_alike k.to.standing at.standing (places_are_kept.always program n k.log k.to k.leads)
        (places_are_kept.always program n choices at h) k.same (are.ends k.number k.log k.to k.found k.leads e)))
    marked_by choices at h never k false e = refl

    whole : (choices : List Choice) (at : Position) → after program n choices ≡ Some at → ¬ CanEnd program at.standing
        → (k : KnownBy alike program n search.logs at.standing (length choices)) × (marks k.number ≡ false)
    whole choices at h never =
        let k = known_by alike program kept n search is choices at h
        (λ next there. let within = slice_get_within search.logs search.looked next there in absurd (omega arith)) in
        (k, marked_by choices at h never k (marks k.number) refl)

module _ (alike : Standing → Standing → Type 0) (kept : (program : Labelled) → TakenForOne alike program) where
  pub the_endless_are_unmarked_by : TheEndlessAreUnmarkedBy alike
  the_endless_are_unmarked_by program n search marks is all are = record {
    sound = sound alike program (kept program) n search.logs marks are;
    whole = whole alike program (kept program) n search marks is all are;
  }

pub the_endless_are_unmarked : TheEndlessAreUnmarked
the_endless_are_unmarked = the_endless_are_unmarked_by SameButNames names_kept
