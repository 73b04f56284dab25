-- By which log it is known where a search stands, and what is kept of that.
use Rattle.std.proofs.Common.{◌≡◌, ◌<◌, ◌≤◌, ◌+◌, ◌-◌, ℕ, List, [], ◌∷◌, ◌++◌, length, Some, refl, sym, ap, ◌∙◌, subst, arith}
use Rattle.std.proofs.Common.{set, take, slice_get, slice_index_or, length-append}
use Rattle.std.proofs.lemmas.List.{length-set}
use Rattle.std.proofs.Math.Seq.{take-append_seam}
use Rattle.std.proofs.lemmas.Option.{get_or_from_slice_get}
use Rattle.cilk_machine.specs.model.Choice.{Choice}
use Rattle.cilk_machine.specs.model.Run.{Position, after}
use Rattle.cilk_explore.specs.LogLooking.{IsOtherWay, Extends}
use Rattle.cilk_explore.proofs.Fronts.{get-front, get-last, one-entry, set-apart, set-there}
use Rattle.cilk_explore.proofs.Growing.{extends-one, extends-put}
use Rattle.cilk_explore.proofs.explore_laws.ButNames.{names_again}
use Rattle.cilk_explore.specs.declared.explorer.Explorer.{Explorer}
use Rattle.cilk_explore.specs.Walks.{Walk, position_of}
use Rattle.cilk_explore.specs.Looking.{LeadsToSame, IsLongerBy, StandsAtLog}
use Rattle.cilk_explore.specs.Exploring.{program_of, workers_of, AreFound, IsBehind, IsKnownBy, KeepsAs}

-- where some log leads to the same it is known by that
pub known-same : (e : Explorer) (number : ℕ) → AreFound (program_of e) (workers_of e) (length e.walker.log) e.store
    → LeadsToSame e.walker e.store number → (at : Position) → position_of e.walker ≡ Some at → IsKnownBy e number
known-same e number found same at here =
    let leads = found.leads number same.log same.found in
    record {
      at = at;
      here = here;
      known = record {
        number = number;
        log = same.log;
        found = same.found;
        short = found.size number same.log same.found;
        to = leads.0;
        leads = leads.1;
        same = same.same leads.0 at leads.1 here;
      };
      is = refl;
    }

-- and by its own log, once that is kept
known-last : (e : Explorer) (logs : List (List Choice)) → e.store ≡ logs ++ e.walker.log ∷ [] → (at : Position) → position_of e.walker ≡ Some at
    → IsKnownBy e (length logs)
known-last e logs is at here = record {
  at = at;
  here = here;
  known = record {
    number = length logs;
    log = e.walker.log;
    found = ap (λ (xs : List (List Choice)). slice_get xs (length logs)) is ∙ get-last logs e.walker.log;
    short = omega arith;
    to = at;
    leads = here;
    same = names_again at.standing;
  };
  is = refl;
}

-- what is kept as a log of its parent's and a choice is that of where it stands
module _ (e f : Explorer) (number : ℕ) (choice : Choice) (behind : IsBehind e number choice) (walker : f.walker ≡ e.walker)
    (store : f.store ≡ e.store ++ (slice_index_or e.store number [] ++ choice ∷ []) ∷ []) (at : Position) (here : position_of e.walker ≡ Some at) where
  pushed : f.store ≡ e.store ++ e.walker.log ∷ []
  pushed =
      store ∙ ap (λ (one : List Choice). e.store ++ (one ++ choice ∷ []) ∷ []) (get_or_from_slice_get e.store number behind.front [] behind.there)
      ∙ ap (λ (one : List Choice). e.store ++ one ∷ []) (sym behind.behind)

  pub known-one : (own : ℕ) → own ≡ length e.store → IsKnownBy f own
  known-one own same =
      let is : f.store ≡ e.store ++ f.walker.log ∷ [] = pushed ∙ ap (λ (walk : Walk). e.store ++ walk.log ∷ []) (sym walker) in
      subst (IsKnownBy f) (sym same) (known-last f e.store is at (ap position_of walker ∙ here))

  pub keeps-one : f.probe.walker.program ≡ e.probe.walker.program → f.probe.walker.workers ≡ e.probe.walker.workers
      → StandsAtLog e.store f.probe.number f.probe.walker → f.told ≡ e.told → f.limit ≡ e.limit → f.idle ≡ e.idle → length e.store < e.limit → KeepsAs e f
  keeps-one program workers stands told limit idle room =
      let size : length f.store ≡ length e.store + 1 = ap length pushed ∙ length-append e.store (e.walker.log ∷ []) in
      let most : length f.store ≤ e.limit = omega (arith, size, room) in
      record {
        walker = walker;
        program = program;
        workers = workers;
        stands = ap (λ (xs : List (List Choice)). slice_get xs f.probe.number) pushed
            ∙ get-front e.store (e.walker.log ∷ []) f.probe.number f.probe.walker.log stands;
        told = told;
        limit = limit;
        idle = idle;
        extends = subst (λ (xs : List (List Choice)). Extends (program_of e) (workers_of e) (length e.walker.log) e.store xs) (sym pushed)
            (extends-one (program_of e) (workers_of e) e.store e.walker.log at here);
        room = subst (λ (j : ℕ). length f.store ≤ j) (sym limit) most;
      }

-- another way that was found to the same is that to where it stands, and as long; the probe is behind the first, and goes back by one choice
module _ (e : Explorer) (number : ℕ) (choice : Choice) (behind : IsBehind e number choice) (same : LeadsToSame e.walker e.store e.probe.number)
    (long : length e.probe.walker.log ≡ length e.walker.log) (at : Position) (here : position_of e.walker ≡ Some at) where
  there : slice_get e.store e.probe.number ≡ Some e.probe.walker.log
  there = behind.paired.stands

  other-way : IsOtherWay (program_of e) (workers_of e) (length e.walker.log) e.probe.walker.log e.walker.log
  other-way =
      let log = e.probe.walker.log in
      let from = behind.found.leads e.probe.number log there in
      let own : same.log ≡ log = one-entry (slice_get e.store e.probe.number) same.log log same.found there in
      record {
        size = long;
        at = from.0;
        leads = from.1;
        found = record { size = refl; to = at; leads = here };
        same = same.same from.0 at (ap (after (program_of e) (workers_of e)) own ∙ from.1) here;
      }

  module _ (f : Explorer) (rest : f ≡ record e { store = f.store; probe = f.probe })
      (put : f.store ≡ set e.store e.probe.number (slice_index_or e.store number [] ++ choice ∷ []))
      (longer : IsLongerBy e.store e.probe.number f.probe.number)
      (back : f.probe.walker ≡ record e.probe.walker { log = take (length e.probe.walker.log - 1) e.probe.walker.log }) where
    store-is : f.store ≡ set e.store e.probe.number e.walker.log
    store-is =
        put ∙ ap (λ (one : List Choice). set e.store e.probe.number (one ++ choice ∷ []))
        (get_or_from_slice_get e.store number behind.front [] behind.there)
        ∙ ap (set e.store e.probe.number) (sym behind.behind)

    -- the probe is behind the log that it came by
    stands-still : StandsAtLog f.store f.probe.number f.probe.walker
    stands-still =
        let log = e.probe.walker.log in
        let own : log ≡ longer.front ++ longer.last ∷ [] =
        one-entry (slice_get e.store e.probe.number) log (longer.front ++ longer.last ∷ []) there longer.here in
        let whole : length log ≡ length longer.front + 1 = ap length own ∙ length-append longer.front (longer.last ∷ []) in
        let count : length log - 1 ≡ length longer.front = omega (arith, whole) in
        let left : take (length log - 1) log ≡ longer.front =
        ap (λ k. take k log) count ∙ ap (take (length longer.front)) own ∙ take-append_seam longer.front (longer.last ∷ []) in
        let below = longer.below in
        let kept : slice_get f.store f.probe.number ≡ Some longer.front =
        ap (λ (xs : List (List Choice)). slice_get xs f.probe.number) store-is
        ∙ set-apart e.store e.probe.number e.walker.log f.probe.number longer.front longer.there (omega (arith, below)) in
        kept ∙ ap Some (sym (ap (λ (walk : Walk). walk.log) back ∙ left))

    pub keeps-other : KeepsAs e f
    keeps-other =
        let size : length f.store ≡ length e.store = ap length store-is ∙ length-set e.store e.probe.number e.walker.log in
        let room = behind.room in
        let limit : f.limit ≡ e.limit = ap (λ (x : Explorer). x.limit) rest in
        let most : length f.store ≤ e.limit = omega (arith, size, room) in
        record {
          walker = ap (λ (x : Explorer). x.walker) rest;
          program = ap (λ (walk : Walk). walk.program) back;
          workers = ap (λ (walk : Walk). walk.workers) back;
          stands = stands-still;
          told = ap (λ (x : Explorer). x.told) rest;
          limit = limit;
          idle = ap (λ (x : Explorer). x.idle) rest;
          extends = subst (λ (xs : List (List Choice)). Extends (program_of e) (workers_of e) (length e.walker.log) e.store xs) (sym store-is)
              (extends-put (program_of e) (workers_of e) (length e.walker.log) e.store e.probe.number e.probe.walker.log e.walker.log there other-way);
          room = subst (λ (j : ℕ). length f.store ≤ j) (sym limit) most;
        }

    pub known-other : IsKnownBy f e.probe.number
    known-other =
        let walker : f.walker ≡ e.walker = ap (λ (x : Explorer). x.walker) rest in
        let own : slice_get f.store e.probe.number ≡ Some f.walker.log =
        ap (λ (xs : List (List Choice)). slice_get xs e.probe.number) store-is ∙ set-there e.store e.probe.number e.walker.log e.probe.walker.log there
        ∙ ap (λ (walk : Walk). Some walk.log) (sym walker) in
        record {
          at = at;
          here = ap position_of walker ∙ here;
          known = record {
            number = e.probe.number;
            log = f.walker.log;
            found = own;
            short = omega arith;
            to = at;
            leads = ap position_of walker ∙ here;
            same = names_again at.standing;
          };
          is = refl;
        }
