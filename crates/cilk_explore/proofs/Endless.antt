-- Marks of the logs behind which the program can end tell the first log behind which it never does, of each number of workers of which these are marks.
use Rattle.std.proofs.Common.{◌≡◌, ◌<◌, ◌≤◌, inl, inr, ℕ, Bool, true, false, List, length, Some, sym, ◌∙◌, subst, arith, slice_get}
use Rattle.std.proofs.lemmas.Bool.{cases_lt}
use Rattle.std.proofs.lemmas.Option.{slice_get_within}
use Rattle.cilk_machine.specs.labelled.Labelled.{Labelled}
use Rattle.cilk_machine.specs.model.Choice.{Choice}
use Rattle.cilk_explore.specs.explore.Search.{Search, IsSearch}
use Rattle.cilk_explore.specs.explore.Endless.{AreMarked, MarksTellRightly}
use Rattle.cilk_explore.specs.LogLooking.{search_of}
use Rattle.cilk_explore.specs.Marking.{mark_of, AreMarks}
use Rattle.cilk_explore.proofs.Linked.{marks-are-by-links, can-end-alike}
use Rattle.cilk_explore.proofs.explore_laws.Searches.{known}
use Rattle.cilk_explore.proofs.explore_laws.OrMore.{more_find_no_more, more_mark_no_more}
use Rattle.cilk_explore.proofs.explore_laws.Unending.{the_endless_are_unmarked}
use Rattle.cilk_explore.proofs.explore_laws.runs_laws.Kept.{places_are_kept}
use Rattle.cilk_explore.specs.declared.explorer.Explorer.{Explorer}
use Rattle.cilk_explore.specs.Exploring.{program_of, workers_of, IsThrough, IsOf, NeverEnds, EachCanEnd}

module _ (program : Labelled) (n : ℕ) (search : Search) (marks : List Bool) (is : IsSearch program n search) (all : length search.logs ≤ search.looked)
    (marked : AreMarked program n search.logs (mark_of marks)) where
  rightly : MarksTellRightly program n search (mark_of marks)
  rightly = the_endless_are_unmarked program n search (mark_of marks) is all marked

  first-unmarked : (k : ℕ) (log : List Choice) → slice_get search.logs k ≡ Some log → mark_of marks k ≡ false
      → ((j : ℕ) → j < k → mark_of marks j ≡ true) → NeverEnds program n log
  first-unmarked k log found none before =
      let to = is.leads k log found in
      record {
        at = to.0;
        leads = to.1;
        never = rightly.sound k log to.0 found to.1 none;
        first = λ choices at h never.
            let other = rightly.whole choices at h never in
            let same = other.0 in
            let far : k ≤ same.number = elim (cases_lt same.number k) [
              | inl lt ↦ let bad : true ≡ false = sym (before same.number lt) ∙ other.1 in cc
              | inr le ↦ le
            ] in
            let order = is.in_order k same.number log same.log far found same.found in
            let short = same.short in
            omega arith;
      }

  all-marked : length search.logs ≤ length marks → ((j : ℕ) → j < length marks → mark_of marks j ≡ true) → EachCanEnd program n
  all-marked long every choices at h =
      let k = known program n search is choices at h
      (λ next there. let within = slice_get_within search.logs search.looked next there in absurd (omega arith)) in
      let inside = slice_get_within search.logs k.number k.log k.found in
      can-end-alike program k.to.standing at.standing (places_are_kept.always program n k.log k.to k.leads) (places_are_kept.always program n choices at h)
      k.same (marked.ends k.number k.log k.to k.found k.leads (every k.number (omega arith)))

module _ (e : Explorer) (through : IsThrough e) (marks : List Bool) (are : AreMarks e.links.past marks) where
  -- a log without a mark is one that was found
  pub unmarked-within : (k : ℕ) → k < length marks → k < length e.store
  unmarked-within k lt =
      let size = are.size in
      let past = through.links.past.size in
      let within = through.links.past.within in
      omega arith

  abbrev searched : Search
  searched = search_of e.store through.looked

  own-marked : AreMarked (program_of e) (workers_of e) e.store (mark_of marks)
  own-marked =
      marks-are-by-links (program_of e) (workers_of e) searched e.links.past marks through.between.looking.search through.all through.links.past are

  module _ (n : ℕ) (of : IsOf e n) where
    is-search : IsSearch (program_of e) n searched
    is-search = elim of [
      | inl same ↦ subst (λ (m : ℕ). IsSearch (program_of e) m searched) (sym same) through.between.looking.search
      | inr more ↦
          more_find_no_more (program_of e) (workers_of e) n searched more.least more.most through.between.looking.search (through.between.idle more.idle)
    ]

    are-marked : AreMarked (program_of e) n e.store (mark_of marks)
    are-marked = elim of [
      | inl same ↦ subst (λ (m : ℕ). AreMarked (program_of e) m e.store (mark_of marks)) (sym same) own-marked
      | inr more ↦
          more_mark_no_more (program_of e) (workers_of e) n searched (mark_of marks) more.least more.most through.between.looking.search through.all
          (through.between.idle more.idle) own-marked
    ]

    pub never-ends : (k : ℕ) (log : List Choice) → slice_get e.store k ≡ Some log → mark_of marks k ≡ false → ((j : ℕ) → j < k → mark_of marks j ≡ true)
        → NeverEnds (program_of e) n log
    never-ends = first-unmarked (program_of e) n searched marks is-search through.all are-marked

    pub each-can-end : ((j : ℕ) → j < length marks → mark_of marks j ≡ true) → EachCanEnd (program_of e) n
    each-can-end =
        let size = are.size in
        let past = through.links.past.size in
        let all = through.all in
        let long : length e.store ≤ length marks = omega arith in
        all-marked (program_of e) n searched marks is-search through.all are-marked long
