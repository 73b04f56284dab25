-- A search knows what is reached, and tells it rightly.
use Rattle.std.proofs.Common.{◌≡◌, ◌<◌, ◌≤◌, ◌+◌, inl, inr, ℕ, zero, suc, List, [], ◌∷◌, ◌++◌, length, Option, Some, None, is_none, slice_get, refl, sym}
use Rattle.std.proofs.Common.{ap, subst, ◌∙◌, if◌then◌else◌, arith}
use Rattle.std.proofs.lemmas.Bool.{cases_lt}
use Rattle.std.proofs.lemmas.Option.{slice_get_within}
use Rattle.cilk_machine_agree.specs.labelled.Labelled.{Labelled}
use Rattle.cilk_machine_agree.specs.model.Event.{Event}
use Rattle.cilk_machine_agree.specs.model.Choice.{Choice, Refusal}
use Rattle.cilk_machine_agree.specs.model.Run.{Standing, Position, refusal_of, next_of, event_of, after_from, after, position_after, one_more}
use Rattle.cilk_machine_agree.specs.runs.Hands.{EachInItsPlace}
use Rattle.cilk_machine_agree.proofs.runs_laws.Kept.{places_are_kept}
use Rattle.cilk_machine_agree.proofs.runs_laws.model_laws.Runs.{after-push}
use Rattle.cilk_machine_agree.specs.explore.Ending.{Ending}
use Rattle.cilk_machine_agree.specs.explore.Names.{SameButNames}
use Rattle.cilk_machine_agree.specs.explore.Search.{KnownBy, Search, IsSearchBy, Told, LeadsTo, Tells, First, Whole}
use Rattle.cilk_machine_agree.specs.explore.Laws.{TakenForOne, EachIsKnown, EachIsKnownBy, SearchesTellRightly, SearchesTellRightlyBy}
use Rattle.cilk_machine_agree.proofs.explore.Taken.{over_alike, end_alike}
use Rattle.cilk_machine_agree.proofs.explore.ButNames.{names_kept}
use Rattle.cilk_machine_agree.proofs.explore.Onward.{then_after, after-append, made, free_by}

-- an element in front of one that is there
earlier : {A : Type 0} (xs : List A) (j k : ℕ) (y : A) → j ≤ k → slice_get xs k ≡ Some y → (x : A) × (slice_get xs j ≡ Some x)
earlier [] j k y le h = cc
earlier (x ∷ xs) zero k y le h = (x, refl)
earlier (x ∷ xs) (suc j) zero y le h = absurd (omega arith)
earlier (x ∷ xs) (suc j) (suc k) y le h = earlier xs j k y (omega arith) h

-- one entry stands at a number
one_size : (told : List Told) (j k : ℕ) (x y : Told) → slice_get told j ≡ Some x → slice_get told k ≡ Some y → j ≡ k → length x.log ≡ length y.log
one_size told j k x y here there same =
    let both : Some x ≡ Some y = sym here ∙ ap (slice_get told) same ∙ there in
    let one : x ≡ y = cc in
    ap (λ (z : Told). length z.log) one

module _ (alike : Standing → Standing → Type 0) (program : Labelled) (kept : TakenForOne alike program) (n : ℕ) (search : Search)
    (is : IsSearchBy alike program n search) where
  abbrev logs : List (List Choice)
  logs = search.logs

  weaker : (at : Standing) (most more : ℕ) → most ≤ more → KnownBy alike program n logs at most → KnownBy alike program n logs at more
  weaker at most more le k =
      let short = k.short in
      record { number = k.number; log = k.log; found = k.found; short = omega arith; to = k.to; leads = k.leads; same = k.same }

  -- a log that is shorter than those that are still to be looked at was looked at
  looked_at : (most k : ℕ) (log : List Choice) → slice_get logs k ≡ Some log → length log < most
      → ((next : List Choice) → slice_get logs search.looked ≡ Some next → most ≤ length next) → k < search.looked
  looked_at most k log found short bound = elim (cases_lt k search.looked) [
    | inl lt ↦ lt
    | inr le ↦
        let next = earlier logs search.looked k log le found in
        let far = bound next.0 next.1 in
        let no_longer = is.in_order search.looked k next.0 log le next.1 found in
        absurd (omega arith)
  ]

  -- one choice behind what is known
  one_on : (mid : Standing) (depth : ℕ) (c : Choice) → EachInItsPlace mid → refusal_of program mid c ≡ None → (k : KnownBy alike program n logs mid depth)
      → k.number < search.looked → KnownBy alike program n logs (next_of program mid c) (depth + 1)
  one_on mid depth c placed free k below =
      let back = kept.turned k.to.standing mid k.same in
      let does = kept.onward mid k.to.standing placed (places_are_kept.always program n k.log k.to k.leads) back c free in
      let led : after program n (k.log ++ does.other ∷ []) ≡ Some (position_after program k.to does.other) =
      after-push program n k.log does.other ∙ ap (one_more program does.other) k.leads
      ∙ ap (λ (o : Option Refusal). if is_none o then Some (position_after program k.to does.other) else None) does.free in
      let next = is.closed k.number k.log does.other (position_after program k.to does.other) below k.found led in
      let short = k.short in
      let size = next.short in
      let there = next_of program k.to.standing does.other in
      record {
        number = next.number;
        log = next.log;
        found = next.found;
        short = omega arith;
        to = next.to;
        leads = next.leads;
        same = kept.both next.to.standing there (next_of program mid c) next.same (kept.turned (next_of program mid c) there does.next);
      }

  onward : (rest : List Choice) (mid : Standing) (events : List Event) (depth : ℕ) (at : Position) → EachInItsPlace mid
      → KnownBy alike program n logs mid depth → after_from program mid events rest ≡ Some at
      → ((next : List Choice) → slice_get logs search.looked ≡ Some next → depth + length rest ≤ length next)
      → KnownBy alike program n logs at.standing (depth + length rest)
  onward [] mid events depth at placed k h bound =
      let e : record { standing = mid; events = events } ≡ at = cc in
      subst (λ (q : Position). KnownBy alike program n logs q.standing (depth + 0)) e (weaker mid depth (depth + 0) (omega arith) k)
  onward (c ∷ rest) mid events depth at placed k h bound =
      let free = free_by (refusal_of program mid c) _ at h in
      let short = k.short in
      let below = looked_at (depth + length (c ∷ rest)) k.number k.log k.found (omega arith) bound in
      weaker at.standing (depth + 1 + length rest) (depth + length (c ∷ rest)) (omega arith)
      (onward rest (next_of program mid c) (events ++ event_of program mid c ∷ []) (depth + 1) at (places_are_kept.by_choice program mid c free placed)
      (one_on mid depth c placed free k below) (sym (made program mid events c rest free) ∙ h)
      (λ next there. let far = bound next there in omega arith))

  pub known_by : (choices : List Choice) (at : Position) → after program n choices ≡ Some at
      → ((next : List Choice) → slice_get logs search.looked ≡ Some next → length choices ≤ length next)
      → KnownBy alike program n logs at.standing (length choices)
  known_by choices at h bound =
      let start = is.leads 0 [] is.first in
      let first : KnownBy alike program n logs start.0.standing 0 = record {
        number = 0;
        log = [];
        found = is.first;
        short = omega arith;
        to = start.0;
        leads = start.1;
        same = kept.again start.0.standing;
      } in
      weaker at.standing (0 + length choices) (length choices) (omega arith)
      (onward choices start.0.standing start.0.events 0 at (places_are_kept.always program n [] start.0 start.1) first
      (ap (then_after program choices) (sym start.1) ∙ sym (after-append program n [] choices) ∙ h)
      (λ next there. let far = bound next there in omega arith))

  -- what is known of where choices lead to an ending
  known_end : (choices : List Choice) (ending : Ending) → (l : LeadsTo program n choices ending)
      → (k : KnownBy alike program n logs l.at.standing (length choices))
      → LeadsTo program n k.log ending
  known_end choices ending l k =
      let placed = places_are_kept.always program n k.log k.to k.leads in
      let laid = places_are_kept.always program n choices l.at l.leads in
      record {
        at = k.to;
        leads = k.leads;
        over = over_alike alike program kept k.to.standing l.at.standing placed laid k.same l.over;
        ends = end_alike alike program kept k.to.standing l.at.standing placed laid k.same ∙ l.ends;
      }

  module _ (told : List Told) (tells : Tells program n search told) where
    -- a shorter log with that ending would have been told
    no_longer : (j : ℕ) (entry : Told) → slice_get told j ≡ Some entry → (choices : List Choice) → LeadsTo program n choices entry.ending
        → length choices < length entry.log → ⊥
    no_longer j entry there choices l short =
        let here = tells.looked j entry there in
        let far : (next : List Choice) → slice_get logs search.looked ≡ Some next → length entry.log ≤ length next =
        λ next there. let lt = here.1 in is.in_order here.0 search.looked entry.log next (omega arith) here.2 there in
        let k = known_by choices l.at l.leads (λ next there. let le = far next there in omega arith) in
        let size = k.short in
        let below = looked_at (length entry.log) k.number k.log k.found (omega arith) far in
        let other = tells.each k.number k.log entry.ending below k.found (known_end choices entry.ending l k) in
        let same = tells.once other.number j other.entry entry other.there there other.ends in
        let size_one = one_size told other.number j other.entry entry other.there there same in
        let less = other.short in
        omega arith

    first : First program n told
    first j entry there choices l = elim (cases_lt (length choices) (length entry.log)) [
      | inl lt ↦ absurd (no_longer j entry there choices l lt)
      | inr le ↦ le
    ]

    whole : length logs ≤ search.looked → Whole program n told
    whole all choices ending l =
        let k = known_by choices l.at l.leads (λ next there. let within = slice_get_within logs search.looked next there in absurd (omega arith)) in
        let within = slice_get_within logs k.number k.log k.found in
        let one = tells.each k.number k.log ending (omega arith) k.found (known_end choices ending l k) in
        let size = k.short in
        let less = one.short in
        record { number = one.number; entry = one.entry; there = one.there; ends = one.ends; short = omega arith }

module _ (alike : Standing → Standing → Type 0) (kept : (program : Labelled) → TakenForOne alike program) where
  pub each_is_known_by : EachIsKnownBy alike
  each_is_known_by program n search is choices at h bound = known_by alike program (kept program) n search is choices at h bound

  pub searches_tell_rightly_by : SearchesTellRightlyBy alike
  searches_tell_rightly_by program n search told is tells = record {
    sound = λ j entry there. (tells.looked j entry there).3;
    first = first alike program (kept program) n search is told tells;
    whole = whole alike program (kept program) n search is told tells;
  }

pub known : EachIsKnown
known = each_is_known_by SameButNames names_kept

pub searches_tell_rightly : SearchesTellRightly
searches_tell_rightly = searches_tell_rightly_by SameButNames names_kept
