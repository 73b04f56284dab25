-- Links of logs stay links where more logs were found, and a log that was looked at has its own.
use Rattle.std.proofs.Common.{◌≡◌, ◌≤◌, ◌+◌, inl, inr, ℕ, List, [], ◌∷◌, ◌++◌, length, Some, sym, ap, ◌∙◌, subst, arith, slice_get}
use Rattle.std.proofs.Common.{length-append}
use Rattle.std.proofs.lemmas.Option.{slice_get_within}
use Rattle.cilk_machine.specs.labelled.Labelled.{Labelled}
use Rattle.cilk_machine.specs.model.Choice.{Choice}
use Rattle.cilk_machine.specs.model.Run.{Standing}
use Rattle.cilk_explore.specs.LogLooking.{Extends}
use Rattle.cilk_explore.specs.Linking.{IsLink, HasLink, IsLinked, AreLinks, AreLinked}
use Rattle.cilk_explore.proofs.Fronts.{get-front, get-cases, append-none, one-there, one-entry}
use Rattle.cilk_explore.proofs.Growing.{known-kept}

module _ (program : Labelled) (n depth : ℕ) (logs now : List (List Choice)) (ext : Extends program n depth logs now) where
  pub link-more : (log : List Choice) (number : ℕ) → IsLink program n logs log number → IsLink program n now log number
  link-more log number link =
      let kept = known-kept program n depth logs now link.at.standing (length log + 1) ext link.known in
      record { choice = link.choice; at = link.at; leads = link.leads; known = kept.0; is = kept.1 ∙ link.is }

  -- and further links change none
  pub has-more : (links more : List ℕ) (at : Standing) (most : ℕ) → HasLink program n logs links at most → HasLink program n now (links ++ more) at most
  has-more links more at most has =
      let kept = known-kept program n depth logs now at most ext has.known in
      record { known = kept.0; place = has.place; there = get-front links more has.place has.known.number has.there ∙ ap Some (sym kept.1) }

  pub linked-more : (links more linked : List ℕ) (log : List Choice) (choice : Choice) → linked ≡ links ++ more
      → IsLinked program n logs links log choice → IsLinked program n now linked log choice
  linked-more links more linked log choice is has at h =
      subst (λ (xs : List ℕ). HasLink program n now xs at.standing (length log + 1)) (sym is)
      (has-more links more at.standing (length log + 1) (has at h))

  links-more : (links : List ℕ) (log : List Choice) → AreLinks program n logs links log → AreLinks program n now links log
  links-more links log are = record {
    each = λ place number h. link-more log number (are.each place number h);
    all = λ choice. linked-more links [] links log choice (sym (append-none links)) (are.all choice);
  }

  -- the next log has its links too
  pub linked-on : (links : List (List ℕ)) (looked : ℕ) (log : List Choice) (own : List ℕ) → AreLinked program n logs links looked
      → slice_get logs looked ≡ Some log
      → ((k : ℕ) (one : List Choice) → k ≤ looked → slice_get now k ≡ Some one → slice_get logs k ≡ Some one) → AreLinks program n now own log
      → AreLinked program n now (links ++ own ∷ []) (looked + 1)
  linked-on links looked log own are here was mine =
      let size = are.size in
      let kept = ext.kept looked log here in
      let inside = slice_get_within now looked kept.other kept.there in
      let one_more : length (links ++ own ∷ []) ≡ length links + 1 = length-append links (own ∷ []) in
      record {
        size = omega arith;
        within = omega arith;
        own = λ k one of_it hk ho. elim (get-cases links (own ∷ []) k of_it ho) [
          | inl old ↦
              let low = slice_get_within links k of_it old in
              links-more of_it one (are.own k one of_it (was k one (omega (arith, low, size)) hk) old)
          | inr new ↦
              let last = one-there own of_it new.place new.there in
              let place = last.0 in
              let far = new.is in
              let same : k ≡ looked = omega arith in
              let its : one ≡ log = one-entry (slice_get logs looked) one log
              (ap (slice_get logs) (sym same) ∙ was k one (omega (arith, same)) hk) here in
              subst (λ (xs : List ℕ). AreLinks program n now xs one) last.1
              (subst (λ (l : List Choice). AreLinks program n now own l) (sym its) mine)
        ];
      }
