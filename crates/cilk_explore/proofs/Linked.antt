-- Where all that was found was looked at, marks by links tell behind which logs the program can end.
use Rattle.std.proofs.Common.{◌≡◌, ◌≢◌, ◌≤◌, ℕ, Bool, true, false, List, [], ◌∷◌, ◌++◌, length, Option, Some}
use Rattle.std.proofs.Common.{None, is_none, refl, sym, ap, ◌∙◌}
use Rattle.std.proofs.Common.{subst, arith, slice_get, if◌then◌else◌}
use Rattle.std.proofs.lemmas.Option.{slice_get_within}
use Rattle.cilk_machine.specs.labelled.Labelled.{Labelled}
use Rattle.cilk_machine.specs.model.Choice.{Choice, Refusal}
use Rattle.cilk_machine.specs.model.Run.{Standing, Position, refusal_of, next_of, event_of, after, position_after, one_more}
use Rattle.cilk_machine.specs.runs.Hands.{EachInItsPlace}
use Rattle.cilk_machine.proofs.runs_laws.Kept.{places_are_kept}
use Rattle.cilk_machine.proofs.runs_laws.model_laws.Runs.{after-push}
use Rattle.cilk_machine.specs.explore.Ending.{IsOver}
use Rattle.cilk_machine.specs.explore.Names.{SameButNames}
use Rattle.cilk_machine.specs.explore.Endless.{CanEnd, Unmarked}
use Rattle.cilk_machine.proofs.explore_laws.ButNames.{names_kept}
use Rattle.cilk_machine.proofs.explore_laws.Onward.{made}
use Rattle.cilk_machine.proofs.explore_laws.Unending.{can_end_by, can_end_alike}
use Rattle.cilk_explore.specs.Marking.{Reaches, at_once, along, mark_of, AreMarks}
use Rattle.cilk_explore.specs.Linking.{AreLinks, AreLinked, MarksAreByLinks}
use Rattle.cilk_explore.proofs.Fronts.{some-there}
use Rattle.cilk_explore.proofs.Turns.{made-to}

pub can-end-alike : (program : Labelled) (at other : Standing) → EachInItsPlace at → EachInItsPlace other → SameButNames at other → CanEnd program at
    → CanEnd program other
can-end-alike program at other placed laid same e = can_end_alike SameButNames program (names_kept program) at other placed laid same e

-- where one choice leads to what can end, so can what it leads from
can-end-by : (program : Labelled) (at to : Standing) (c : Choice) → EachInItsPlace at → refusal_of program at c ≡ None → EachInItsPlace to
    → SameButNames to (next_of program at c) → CanEnd program to → CanEnd program at
can-end-by program at to c placed free laid same e =
    let ends = can_end_by SameButNames program (names_kept program) e.choices to (next_of program at c) [] ([] ++ event_of program at c ∷ []) e.to laid
    (places_are_kept.by_choice program at c free placed) same e.leads e.over in
    record { choices = c ∷ ends.0; to = ends.1; leads = made program at [] c ends.0 free ∙ ends.2; over = ends.3 }

module _ (program : Labelled) (n : ℕ) (logs : List (List Choice)) where
  -- behind a log without links no choice is possible
  none-over : (log : List Choice) (at : Position) → AreLinks program n logs [] log → after program n log ≡ Some at → IsOver program at.standing
  none-over log at are here c free =
      let led : after program n (log ++ c ∷ []) ≡ Some (position_after program at c) =
      after-push program n log c ∙ ap (one_more program c) here
      ∙ ap (λ (o : Option Refusal). if is_none o then Some (position_after program at c) else None) free in
      let has = are.all c (position_after program at c) led in
      let bad : None ≡ Some has.known.number = has.there in cc

  -- and behind one with links some is
  some-goes : (log : List Choice) (at : Position) (own : List ℕ) → AreLinks program n logs own log → after program n log ≡ Some at → own ≢ []
      → ¬ IsOver program at.standing
  some-goes log at [] are here some over = some refl
  some-goes log at (number ∷ own) are here some over =
      let link = are.each 0 number refl in
      let step = made-to program n log link.choice at link.at here link.leads in
      over link.choice step.0

  module _ (links : List (List ℕ)) (looked : ℕ) (linked : AreLinked program n logs links looked) where
    reaching : (k : ℕ) → Reaches links k → (log : List Choice) (at : Position) → slice_get logs k ≡ Some log → after program n log ≡ Some at
        → CanEnd program at.standing
    reaching k (at_once j none) log at found here = record {
      choices = [];
      to = record { standing = at.standing; events = [] };
      leads = refl;
      over = none-over log at (linked.own k log [] found none) here;
    }
    reaching k (along i place to own mine there more) log at found here =
        let link = (linked.own k log own found mine).each place to there in
        let step = made-to program n log link.choice at link.at here link.leads in
        let j = link.known in
        let at_to : slice_get logs to ≡ Some j.log = sym (ap (slice_get logs) link.is) ∙ j.found in
        let later = reaching to more j.log j.to at_to j.leads in
        let same : SameButNames j.to.standing (next_of program at.standing link.choice) =
        subst (λ (p : Position). SameButNames j.to.standing p.standing) (sym step.1) j.same in
        can-end-by program at.standing j.to.standing link.choice (places_are_kept.always program n log at here) step.0
        (places_are_kept.always program n j.log j.to j.leads) same later

    -- the links of a log that was looked at
    own-of : (k : ℕ) (log : List Choice) → length logs ≤ looked → slice_get logs k ≡ Some log → (own : List ℕ) × (slice_get links k ≡ Some own)
    own-of k log all found =
        let inside = slice_get_within logs k log found in
        let size = linked.size in
        some-there links k (omega arith)

    over-marked : (marks : List Bool) → AreMarks links marks → length logs ≤ looked → (k : ℕ) (log : List Choice) (at : Position)
        → slice_get logs k ≡ Some log → after program n log ≡ Some at → IsOver program at.standing → (b : Bool) → mark_of marks k ≡ b → b ≡ true
    over-marked marks are all k log at found here over true e = refl
    over-marked marks are all k log at found here over false e =
        let own = own-of k log all found in
        let stay = are.whole k (omega arith) e own.0 own.1 in
        absurd (some-goes log at own.0 (linked.own k log own.0 found own.1) here stay.some over)

    onward-unmarked : (marks : List Bool) → AreMarks links marks → length logs ≤ looked → (k : ℕ) (log : List Choice) (c : Choice) (at : Position)
        → slice_get logs k ≡ Some log → mark_of marks k ≡ false → after program n (log ++ c ∷ []) ≡ Some at
        → Unmarked program n logs (mark_of marks) at.standing
    onward-unmarked marks are all k log c at found none led =
        let own = own-of k log all found in
        let stay = are.whole k (omega arith) none own.0 own.1 in
        let has = (linked.own k log own.0 found own.1).all c at led in
        let to = has.known in
        record {
          number = to.number;
          log = to.log;
          found = to.found;
          none = stay.each has.place to.number has.there;
          to = to.to;
          leads = to.leads;
          same = to.same;
        }

pub marks-are-by-links : MarksAreByLinks
marks-are-by-links program n search links marks is all linked are = record {
  ends = λ k log at found here marked. reaching program n search.logs links search.looked linked k (are.sound k marked) log at found here;
  over = λ k log at found here over. over-marked program n search.logs links search.looked linked marks are all k log at found here over (mark_of marks k) refl;
  closed = λ k log c at found none led. onward-unmarked program n search.logs links search.looked linked marks are all k log c at found none led;
}
