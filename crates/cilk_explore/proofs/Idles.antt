-- Behind each log that was looked at some worker is idle.
use Rattle.std.proofs.Common.{◌≡◌, ◌<◌, ◌≤◌, ◌+◌, inl, inr, ℕ, List, [], ◌∷◌, ◌++◌, length, Option, Some, None, is_none, sym, ap, ◌∙◌, subst, arith}
use Rattle.std.proofs.Common.{if◌then◌else◌, slice_get}
use Rattle.std.proofs.lemmas.Bool.{cases_lt}
use Rattle.std.proofs.lemmas.Option.{slice_get_within}
use Rattle.cilk_machine.specs.labelled.Labelled.{Labelled}
use Rattle.cilk_machine.specs.model.Choice.{Choice, Refusal}
use Rattle.cilk_machine.specs.model.Run.{Position, next_of, after, position_after, one_more}
use Rattle.cilk_machine.specs.explore.Names.{SameButNames}
use Rattle.cilk_machine.specs.explore.OrMore.{HasIdle, EachHasIdle}
use Rattle.cilk_machine.proofs.runs_laws.model_laws.Runs.{after-push}
use Rattle.cilk_machine.proofs.explore_laws.ButNames.{names_both, names_turned}
use Rattle.cilk_machine.proofs.explore_laws.Idle.{idle_do_alike}
use Rattle.cilk_machine.proofs.explore_laws.OrMore.{idle_alike}
use Rattle.cilk_explore.specs.LogLooking.{search_of, Extends}
use Rattle.cilk_explore.specs.Laws.{IdleAtEach, IdleAreLinkedAlike}
use Rattle.cilk_explore.proofs.Fronts.{one-entry, some-there}
use Rattle.cilk_explore.proofs.Turns.{made-to}

module _ (program : Labelled) (n : ℕ) (logs now : List (List Choice)) (depth : ℕ) (ext : Extends program n depth logs now) where
  -- where some worker is idle behind a log one is so behind that which is there now
  idle-there : (k : ℕ) (log : List Choice) (at : Position) → k < length logs → slice_get now k ≡ Some log → after program n log ≡ Some at
      → ((old : List Choice) (to : Position) → slice_get logs k ≡ Some old → after program n old ≡ Some to → HasIdle to.standing) → HasIdle at.standing
  idle-there k log at lt h leads idle =
      let old = some-there logs k lt in
      let kept = ext.kept k old.0 old.1 in
      let own : kept.other ≡ log = one-entry (slice_get now k) kept.other log kept.there h in
      elim kept.is [
        | inl same ↦ idle old.0 at old.1 (ap (after program n) (sym same ∙ own) ∙ leads)
        | inr way ↦
            let there : way.found.to ≡ at =
            one-entry (after program n kept.other) way.found.to at way.found.leads (ap (after program n) own ∙ leads) in
            subst (λ (q : Position). HasIdle q.standing) there
            (idle_alike way.at.standing way.found.to.standing way.same (idle old.0 way.at old.1 way.leads))
      ]

  idle-halted : (looked : ℕ) → looked ≤ length logs → EachHasIdle program n (search_of logs looked) → EachHasIdle program n (search_of now looked)
  idle-halted looked le each k log at lt found leads =
      idle-there k log at (omega (arith, lt, le)) found leads (λ old to there led. each k old to lt there led)

  idle-on : (looked : ℕ) (log : List Choice) (at : Position) → slice_get logs looked ≡ Some log → after program n log ≡ Some at → HasIdle at.standing
      → EachHasIdle program n (search_of logs looked) → EachHasIdle program n (search_of now (looked + 1))
  idle-on looked log at here leads idle each k one to lt found led =
      let inside = slice_get_within logs looked log here in
      idle-there k one to (omega (arith, lt, inside)) found led
      (λ old from there came. elim (cases_lt k looked) [
        | inl less ↦ each k old from less there came
        | inr le ↦
            let same : k ≡ looked = omega (arith, lt, le) in
            let own : old ≡ log = one-entry (slice_get logs looked) old log (sym (ap (slice_get logs) same) ∙ there) here in
            let both : from ≡ at = one-entry (after program n old) from at came (ap (after program n) own ∙ leads) in
            subst (λ (q : Position). HasIdle q.standing) (sym both) idle
      ])

pub idle-at-each : (program : Labelled) (n : ℕ) (logs : List (List Choice)) → IdleAtEach program n logs
idle-at-each program n logs = record {
  begins = λ k log at lt found leads. absurd (omega (arith, lt));
  goes_on = λ now looked depth log at ext. idle-on program n logs now depth ext looked log at;
  halted = λ now looked depth ext. idle-halted program n logs now depth ext looked;
}

pub idle-linked : IdleAreLinkedAlike
idle-linked program n logs links log at worker other here mine its linked act to h =
    let choice : Choice = record { worker = other; act = act } in
    let made = made-to program n log choice at to here h in
    let does = idle_do_alike program at.standing worker choice mine its made.0 in
    let own : Choice = record { worker = worker; act = does.act } in
    let led : after program n (log ++ own ∷ []) ≡ Some (position_after program at own) =
    after-push program n log own ∙ ap (one_more program own) here
    ∙ ap (λ (o : Option Refusal). if is_none o then Some (position_after program at own) else None) does.free in
    let has = linked does.act (position_after program at own) led in
    let k = has.known in
    let theirs = next_of program at.standing choice in
    let same = names_both k.to.standing (next_of program at.standing own) theirs k.same (names_turned theirs (next_of program at.standing own) does.next) in
    record {
      known = record {
        number = k.number;
        log = k.log;
        found = k.found;
        short = k.short;
        to = k.to;
        leads = k.leads;
        same = subst (λ (q : Position). SameButNames k.to.standing q.standing) made.1 same;
      };
      place = has.place;
      there = has.there;
    }
