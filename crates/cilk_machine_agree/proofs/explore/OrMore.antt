-- A search of so many workers, one of whom is always idle, is one of more workers.
use Rattle.std.proofs.Common.{◌≡◌, ◌<◌, ◌≤◌, ◌-◌, ◌+◌, ℕ, Bool, true, false, nat_le, List, [], ◌∷◌, ◌++◌, length, Option, Some, None, is_none}
use Rattle.std.proofs.Common.{slice_get, refl, sym, ap, subst, ◌∙◌, if◌then◌else◌, arith, replicate}
use Rattle.std.proofs.lemmas.Bool.{and_from, and_parts, le-leb, leb-true}
use Rattle.std.proofs.lemmas.Option.{slice_get_within}
use Rattle.std.proofs.lemmas.List.{length-replicate, replicate-append-replicate}
use Rattle.cilk_machine_agree.specs.labelled.Labelled.{Labelled}
use Rattle.cilk_machine_agree.specs.model.Path.{Path}
use Rattle.cilk_machine_agree.specs.model.State.{opening_state}
use Rattle.cilk_machine_agree.specs.model.Event.{Event}
use Rattle.cilk_machine_agree.specs.model.Scheduler.{Worker, no_place, worker_at, with_hand}
use Rattle.cilk_machine_agree.specs.model.Choice.{Choice, Refusal}
use Rattle.cilk_machine_agree.specs.model.Run.{Standing, Position, is_worker, refusal_of, next_of, event_of, after_from, opening, is_crew, after_main}
use Rattle.cilk_machine_agree.specs.model.Run.{after, position_after, one_more}
use Rattle.cilk_machine_agree.proofs.runs_laws.Kept.{places_are_kept}
use Rattle.cilk_machine_agree.proofs.runs_laws.model_laws.Runs.{after-push}
use Rattle.cilk_machine_agree.specs.explore.Ending.{Ending, ending_at, IsOver}
use Rattle.cilk_machine_agree.specs.explore.Names.{renamed_worker, SameButNames}
use Rattle.cilk_machine_agree.specs.explore.Endless.{CanEnd, AreMarkedBy}
use Rattle.cilk_machine_agree.specs.explore.Search.{KnownBy, Search, IsSearchBy, Told, LeadsTo, Tells}
use Rattle.cilk_machine_agree.specs.explore.Laws.{TellsRightly}
use Rattle.cilk_machine_agree.specs.explore.OrMore.{HasIdle, EachHasIdle, MoreDoNoMore, MoreEndNoMore}
use Rattle.cilk_machine_agree.proofs.explore.Taken.{one_ending}
use Rattle.cilk_machine_agree.proofs.explore.Standings.{same_again, same_turned}
use Rattle.cilk_machine_agree.proofs.explore.Onward.{made, free_by, follows, then_after, after-append}
use Rattle.cilk_machine_agree.proofs.explore.Searches.{known_by, searches_tell_rightly_by}
use Rattle.cilk_machine_agree.proofs.explore.Unending.{the_endless_are_unmarked_by}
use Rattle.cilk_machine_agree.proofs.explore.ButNames.{names_kept, names_both, names_turned, same_names}
use Rattle.cilk_machine_agree.proofs.explore.Carried.{standing_of, hand_carried}
use Rattle.cilk_machine_agree.proofs.explore.Renaming.{is_worker_from, named_at}
use Rattle.cilk_machine_agree.proofs.explore.Idle.{with_idle, with_more, reads, writes, names_beside, more_free, more_next, one_of_them}

-- who is idle is so by the other name
pub idle_alike : (a b : Standing) → SameButNames a b → HasIdle a → HasIdle b
idle_alike a b same idle =
    let moves = same.places.moves in
    let named = named_at a.scheduler.places moves same.places.below idle.worker idle.is.there in
    record {
      worker = renamed_worker moves idle.worker;
      is = record {
        there = ap (λ (ps : List Worker). is_worker ps (renamed_worker moves idle.worker)) same.places.is ∙ named.0;
        idle = ap (λ (ps : List Worker). worker_at ps (renamed_worker moves idle.worker)) same.places.is ∙ named.1 ∙ idle.is.idle;
      };
    }

-- the idle ones are there from the start
opening_more : (program : Labelled) (main n k : ℕ) → 1 ≤ n → opening program main (n + k) ≡ with_idle k (opening program main n)
opening_more program main n k one =
    let size : length (replicate n (no_place {A = Path})) ≡ n = length-replicate n no_place in
    let places : with_hand (replicate (n + k) no_place) 1 (Some []) ≡ with_hand (replicate n no_place) 1 (Some []) ++ replicate k no_place =
    ap (λ (ps : List Worker). with_hand ps 1 (Some [])) (sym (replicate-append-replicate n k no_place))
    ∙ hand_carried n (with_more n k) (λ w. w) (reads n k) (writes n k) (replicate n no_place) 1 (Some []) size
    (is_worker_from (replicate n no_place) 0 (omega arith)) in
    ap (standing_of (opening_state program main) (λ q. false)) places

-- what led somewhere
record BegunBy (program : Labelled) (n : ℕ) (log : List Choice) (at : Position) (o : Option ℕ) : Type 0 where
  main : ℕ
  is : o ≡ Some main
  crew : is_crew n ≡ true
  leads : after_from program (opening program main n) [] log ≡ Some at

led_if : (program : Labelled) (n main : ℕ) (log : List Choice) (at : Position) (b : Bool) → is_crew n ≡ b
    → (if b then after_from program (opening program main n) [] log else None) ≡ Some at → BegunBy program n log at (Some main)
led_if program n main log at true crew h = record { main = main; is = refl; crew = crew; leads = h }
led_if program n main log at false crew h = cc

led_by : (program : Labelled) (n : ℕ) (log : List Choice) (at : Position) (o : Option ℕ) → after_main program n o log ≡ Some at → BegunBy program n log at o
led_by program n log at None h = cc
led_by program n log at (Some main) h = led_if program n main log at (is_crew n) refl h

-- where the same choices lead with more workers
record Leads (program : Labelled) (k : ℕ) (at : Position) (o : Option Position) : Type 0 where
  to : Position
  leads : o ≡ Some to
  same : to.standing ≡ with_idle k at.standing

from_more : (program : Labelled) (k : ℕ) (log : List Choice) (a : Standing) (es fs : List Event) (at : Position) → after_from program a es log ≡ Some at
    → Leads program k at (after_from program (with_idle k a) fs log)
from_more program k [] a es fs at h =
    let e : record { standing = a; events = es } ≡ at = cc in
    record { to = record { standing = with_idle k a; events = fs }; leads = refl; same = ap (λ (q : Position). with_idle k q.standing) e }
from_more program k (c ∷ log) a es fs at h =
    let free = free_by (refusal_of program a c) _ at h in
    let b = with_idle k a in
    let event = event_of program b c in
    let rest = from_more program k log (next_of program a c) (es ++ event_of program a c ∷ []) (fs ++ event ∷ []) at (sym (made program a es c log free) ∙ h) in
    record {
      to = rest.to;
      leads = made program b fs c log (more_free program k a c free)
          ∙ ap (λ x. after_from program x (fs ++ event ∷ []) log) (more_next program k a c free) ∙ rest.leads;
      same = rest.same;
    }

module _ (program : Labelled) (n k : ℕ) (few : n + k ≤ 64) where
  main_more : (log : List Choice) (at : Position) (o : Option ℕ) → BegunBy program n log at o → Leads program k at (after_main program (n + k) o log)
  main_more log at o led =
      let one = leb-true 1 n (and_parts _ _ led.crew).0 in
      let crew : is_crew (n + k) ≡ true = and_from (nat_le 1 (n + k)) (nat_le (n + k) 64) (le-leb 1 (n + k) (omega arith)) (le-leb (n + k) 64 few) in
      let more = from_more program k log (opening program led.main n) [] [] at led.leads in
      record {
        to = more.to;
        leads = ap (λ (x : Option ℕ). after_main program (n + k) x log) led.is
            ∙ ap (λ (x : Bool). if x then after_from program (opening program led.main (n + k)) [] log else None) crew
            ∙ ap (λ (x : Standing). after_from program x [] log) (opening_more program led.main n k one) ∙ more.leads;
        same = more.same;
      }

  leads_more : (log : List Choice) (at : Position) → after program n log ≡ Some at → Leads program k at (after program (n + k) log)
  leads_more log at h = main_more log at program.main (led_by program n log at program.main h)

  -- the last choice was possible
  last_by : (c : Choice) (before at : Position) → one_more program c (Some before) ≡ Some at
      → (refusal_of program before.standing c ≡ None) × (position_after program before c ≡ at)
  last_by c before at h =
      let free = free_by (refusal_of program before.standing c) (Some (position_after program before c)) at h in
      let both : Some (position_after program before c) ≡ Some at =
      sym (ap (λ (o : Option Refusal). if is_none o then Some (position_after program before c) else None) free) ∙ h in
      (free, cc)

  over_less : (a : Standing) → IsOver program (with_idle k a) → IsOver program a
  over_less a over c free = over c (more_free program k a c free)

  over_more : (a : Standing) → HasIdle a → IsOver program a → IsOver program (with_idle k a)
  over_more a idle over c free = let one = one_of_them program k a idle c free in over one.other one.free

  end_more : (a : Standing) → HasIdle a → ending_at program (with_idle k a) ≡ ending_at program a
  end_more a idle = one_ending program (with_idle k a) a refl refl (over_less a) (over_more a idle)

  -- what one of more does one of so many does as well
  record AsMany (log : List Choice) (led : Position) (at : Standing) : Type 0 where
    other : Choice
    leads : after program n (log ++ other ∷ []) ≡ Some (position_after program led other)
    same : SameButNames (with_idle k (next_of program led.standing other)) at

  as_many : (log : List Choice) (c : Choice) (led at : Position) → after program n log ≡ Some led → HasIdle led.standing
      → after program (n + k) (log ++ c ∷ []) ≡ Some at → AsMany log led at.standing
  as_many log c led at here idle h =
      let more = leads_more log led here in
      let last = last_by c more.to at (ap (one_more program c) (sym more.leads) ∙ sym (after-push program (n + k) log c) ∙ h) in
      let free : refusal_of program (with_idle k led.standing) c ≡ None = ap (λ (x : Standing). refusal_of program x c) (sym more.same) ∙ last.0 in
      let one = one_of_them program k led.standing idle c free in
      let to : next_of program (with_idle k led.standing) c ≡ at.standing =
      ap (λ (x : Standing). next_of program x c) (sym more.same) ∙ ap (λ (q : Position). q.standing) last.1 in
      let there = with_idle k (next_of program led.standing one.other) in
      record {
        other = one.other;
        leads = after-push program n log one.other ∙ ap (one_more program one.other) here
            ∙ ap (λ (o : Option Refusal). if is_none o then Some (position_after program led one.other) else None) one.free;
        same = subst (SameButNames there) to (names_turned (next_of program (with_idle k led.standing) c) there one.next);
      }

  names_more : (a : Standing) (to : Position) {o : Option Position} (more : Leads program k to o) → SameButNames to.standing a
      → SameButNames more.to.standing (with_idle k a)
  names_more a to more same =
      subst (λ x. SameButNames x (with_idle k a)) (sym more.same) (names_beside k to.standing a same)

  module _ (search : Search) (is : IsSearchBy SameButNames program n search) (has : EachHasIdle program n search) where
    closed_more : (j : ℕ) (log : List Choice) (c : Choice) (at : Position) → j < search.looked → slice_get search.logs j ≡ Some log
        → after program (n + k) (log ++ c ∷ []) ≡ Some at → KnownBy SameButNames program (n + k) search.logs at.standing (length log + 1)
    closed_more j log c at lt found h =
        let led = is.leads j log found in
        let one = as_many log c led.0 at led.1 (has j log led.0 lt found led.1) h in
        let known = is.closed j log one.other (position_after program led.0 one.other) lt found one.leads in
        let there = with_idle k (next_of program led.0.standing one.other) in
        let more = leads_more known.log known.to known.leads in
        record {
          number = known.number;
          log = known.log;
          found = known.found;
          short = known.short;
          to = more.to;
          leads = more.leads;
          same = names_both more.to.standing there at.standing (names_more (next_of program led.0.standing one.other) known.to more known.same) one.same;
        }

    search_more : IsSearchBy SameButNames program (n + k) search
    search_more = record {
      first = is.first;
      leads = λ j log found. let led = is.leads j log found in let more = leads_more log led.0 led.1 in (more.to, more.leads);
      in_order = is.in_order;
      closed = closed_more;
    }

    module _ (told : List Told) (tells : Tells program n search told) where
      ends_more : (j : ℕ) (log : List Choice) (ending : Ending) → j < search.looked → slice_get search.logs j ≡ Some log → LeadsTo program n log ending
          → LeadsTo program (n + k) log ending
      ends_more j log ending lt found l =
          let more = leads_more log l.at l.leads in
          let idle = has j log l.at lt found l.leads in
          record {
            at = more.to;
            leads = more.leads;
            over = subst (IsOver program) (sym more.same) (over_more l.at.standing idle l.over);
            ends = ap (ending_at program) more.same ∙ end_more l.at.standing idle ∙ l.ends;
          }

      ends_less : (j : ℕ) (log : List Choice) (ending : Ending) → j < search.looked → slice_get search.logs j ≡ Some log
          → LeadsTo program (n + k) log ending → LeadsTo program n log ending
      ends_less j log ending lt found l =
          let led = is.leads j log found in
          let more = leads_more log led.0 led.1 in
          let idle = has j log led.0 lt found led.1 in
          let both : Some l.at ≡ Some more.to = sym l.leads ∙ more.leads in
          let one : l.at ≡ more.to = cc in
          let same : l.at.standing ≡ with_idle k led.0.standing = ap (λ (q : Position). q.standing) one ∙ more.same in
          record {
            at = led.0;
            leads = led.1;
            over = over_less led.0.standing (subst (IsOver program) same l.over);
            ends = sym (end_more led.0.standing idle) ∙ sym (ap (ending_at program) same) ∙ l.ends;
          }

      tells_more : Tells program (n + k) search told
      tells_more = record {
        looked = λ j entry h.
            let here = tells.looked j entry h in
            (here.0, here.1, here.2, ends_more here.0 entry.log entry.ending here.1 here.2 here.3);
        each = λ j log ending lt found l. tells.each j log ending lt found (ends_less j log ending lt found l);
        once = tells.once;
      }

    module _ (marks : ℕ → Bool) (all : length search.logs ≤ search.looked) (are : AreMarkedBy SameButNames program n search.logs marks) where
      -- wherever choices lead one is idle
      idle_at : (choices : List Choice) (at : Position) → after program n choices ≡ Some at → HasIdle at.standing
      idle_at choices at h =
          let reached = known_by SameButNames program (names_kept program) n search is choices at h
          (λ next there. let within = slice_get_within search.logs search.looked next there in absurd (omega arith)) in
          let inside = slice_get_within search.logs reached.number reached.log reached.found in
          idle_alike reached.to.standing at.standing reached.same (has reached.number reached.log reached.to (omega arith) reached.found reached.leads)

      idle_behind : (log : List Choice) (at : Position) → after program n log ≡ Some at → (choices : List Choice) (to : Position)
          → after_from program at.standing [] choices ≡ Some to → HasIdle to.standing
      idle_behind log at led choices to leads =
          let placed = places_are_kept.always program n log at led in
          let f = follows program choices at.standing at.standing [] at.events to placed placed (same_again at.standing) leads in
          idle_alike f.to.standing to.standing (same_names f.to.standing to.standing (same_turned to.standing f.to.standing f.same))
          (idle_at (log ++ choices) f.to (after-append program n log choices ∙ ap (then_after program choices) led ∙ f.leads))

      can_end_more : (log : List Choice) (at : Position) → after program n log ≡ Some at → CanEnd program at.standing
          → CanEnd program (with_idle k at.standing)
      can_end_more log at led e =
          let more = from_more program k e.choices at.standing [] [] e.to e.leads in
          record {
            choices = e.choices;
            to = more.to;
            leads = more.leads;
            over = subst (IsOver program) (sym more.same) (over_more e.to.standing (idle_behind log at led e.choices e.to e.leads) e.over);
          }

      -- where a log of the search leads with more
      leads_to : (j : ℕ) (log : List Choice) (at : Position) → slice_get search.logs j ≡ Some log → after program (n + k) log ≡ Some at
          → (led : Position) × (after program n log ≡ Some led) × (at.standing ≡ with_idle k led.standing)
      leads_to j log at found h =
          let led = is.leads j log found in
          let more = leads_more log led.0 led.1 in
          let both : Some at ≡ Some more.to = sym h ∙ more.leads in
          let one : at ≡ more.to = cc in
          (led.0, led.1, ap (λ (q : Position). q.standing) one ∙ more.same)

      marked_more : AreMarkedBy SameButNames program (n + k) search.logs marks
      marked_more = record {
        ends = λ j log at found h marked.
            let to = leads_to j log at found h in
            subst (CanEnd program) (sym to.2) (can_end_more log to.0 to.1 (are.ends j log to.0 found to.1 marked));
        over = λ j log at found h over.
            let to = leads_to j log at found h in are.over j log to.0 found to.1 (over_less to.0.standing (subst (IsOver program) to.2 over));
        closed = λ j log c at found none h.
            let led = is.leads j log found in
            let one = as_many log c led.0 at led.1 (idle_at log led.0 led.1) h in
            let there = next_of program led.0.standing one.other in
            let un = are.closed j log one.other (position_after program led.0 one.other) found none one.leads in
            let more = leads_more un.log un.to un.leads in
            record {
              number = un.number;
              log = un.log;
              found = un.found;
              none = un.none;
              to = more.to;
              leads = more.leads;
              same = names_both more.to.standing (with_idle k there) at.standing (names_more there un.to more un.same) one.same;
            };
      }

-- a search of so many is one of each larger number
pub more_find_no_more : (program : Labelled) (n m : ℕ) (search : Search) → n ≤ m → m ≤ 64 → IsSearchBy SameButNames program n search
    → EachHasIdle program n search → IsSearchBy SameButNames program m search
more_find_no_more program n m search le few is has =
    let k = m - n in
    let e : n + k ≡ m = omega arith in
    subst (λ x. IsSearchBy SameButNames program x search) e (search_more program n k (omega arith) search is has)

-- and its marks are marks of that
pub more_mark_no_more : (program : Labelled) (n m : ℕ) (search : Search) (marks : ℕ → Bool) → n ≤ m → m ≤ 64 → IsSearchBy SameButNames program n search
    → length search.logs ≤ search.looked → EachHasIdle program n search → AreMarkedBy SameButNames program n search.logs marks
    → AreMarkedBy SameButNames program m search.logs marks
more_mark_no_more program n m search marks le few is all has are =
    let k = m - n in
    let e : n + k ≡ m = omega arith in
    subst (λ x. AreMarkedBy SameButNames program x search.logs marks) e (marked_more program n k (omega arith) search is has marks all are)

pub more_do_no_more : MoreDoNoMore
more_do_no_more program n m search told le few is has tells =
    let k = m - n in
    let e : n + k ≡ m = omega arith in
    subst (λ x. TellsRightly program x search told) e
    (searches_tell_rightly_by SameButNames names_kept program (n + k) search told (search_more program n k (omega arith) search is has)
    (tells_more program n k (omega arith) search is has told tells))

pub more_end_no_more : MoreEndNoMore
more_end_no_more program n m search marks le few is all has are =
    the_endless_are_unmarked_by SameButNames names_kept program m search marks (more_find_no_more program n m search le few is has) all
    (more_mark_no_more program n m search marks le few is all has are)
