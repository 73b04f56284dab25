-- What the parts of a search become while it looks at a log.
use Rattle.std.proofs.Common.{◌≡◌, ◌≤◌, ◌+◌, inl, inr, ℕ, true, List, length, map, Some, refl, sym, ap, ◌∙◌, subst, arith, slice_get}
use Rattle.std.proofs.lemmas.Bool.{cases_lt}
use Rattle.std.proofs.lemmas.Option.{slice_get_within}
use Rattle.cilk_machine.specs.labelled.Labelled.{Labelled}
use Rattle.cilk_machine.specs.labelled.Bodies.{label}
use Rattle.cilk_machine.specs.model.Choice.{Choice}
use Rattle.cilk_machine.specs.model.Run.{Position, after}
use Rattle.cilk_explore.specs.explore.Search.{Told}
use Rattle.cilk_explore.specs.explore.OrMore.{EachHasIdle}
use Rattle.cilk_explore.specs.declared.explorer.Explorer.{Explorer}
use Rattle.cilk_explore.specs.Walks.{Walk}
use Rattle.cilk_explore.specs.Looking.{StandsAtLog}
use Rattle.cilk_explore.specs.Telling.{told_by}
use Rattle.cilk_explore.specs.LogLooking.{search_of, IsLooking, IsFound, Extends, AreClosed, TellsOf}
use Rattle.cilk_explore.specs.Exploring.{program_of, workers_of, IsPaired, IsBetween, AreFound, IsAt, KeepsBut, Grows, SaysIdle}
use Rattle.cilk_explore.proofs.Fronts.{one-entry, some-there}
use Rattle.cilk_explore.proofs.Growing.{extends-none, extends-then, looked-on, halted}
use Rattle.cilk_explore.proofs.Idles.{idle-at-each}

of-found : (program : Labelled) (n depth : ℕ) (log : List Choice) → IsFound program n depth log
    → (length log ≤ depth) × ((to : Position) × (after program n log ≡ Some to))
of-found program n depth log found = let size = found.size in (omega arith, (found.to, found.leads))

-- logs of which more of this length were found still lead somewhere
pub found-more : (program : Labelled) (n depth : ℕ) (logs now : List (List Choice)) → AreFound program n depth logs → Extends program n depth logs now
    → AreFound program n depth now
found-more program n depth logs now found ext =
    let each : (k : ℕ) (log : List Choice) → slice_get now k ≡ Some log → (length log ≤ depth) × ((to : Position) × (after program n log ≡ Some to)) =
    λ k log h. elim (cases_lt k (length logs)) [
      | inl lt ↦
          let old = some-there logs k lt in
          let kept = ext.kept k old.0 old.1 in
          let own : kept.other ≡ log = one-entry (slice_get now k) kept.other log kept.there h in
          elim kept.is [
            | inl same ↦
                let was : slice_get logs k ≡ Some log = old.1 ∙ ap Some (sym same ∙ own) in
                (found.size k log was, found.leads k log was)
            | inr way ↦ of-found program n depth log (subst (IsFound program n depth) own way.found)
          ]
      | inr ge ↦ of-found program n depth log (ext.new k log h ge)
    ] in
    record { size = λ k log h. (each k log h).0; leads = λ k log h. (each k log h).1 }

-- one after the other
pub grows-none : (depth : ℕ) (e : Explorer) → length e.store ≤ e.limit → StandsAtLog e.store e.probe.number e.probe.walker → KeepsBut depth e e
grows-none depth e room stands = record {
  walker = refl;
  program = refl;
  workers = refl;
  stands = stands;
  told = refl;
  limit = refl;
  idle = refl;
  extends = extends-none (program_of e) (workers_of e) depth e.store;
  room = room;
}

pub grows-then : (e f g : Explorer) → Grows e f → Grows f g → Grows e g
grows-then e f g x y =
    let other : Extends (program_of e) (workers_of e) (length e.walker.log + 1) f.store g.store =
    subst (λ (walk : Walk). Extends (label walk.program) walk.workers (length walk.log + 1) f.store g.store) x.walker y.extends in
    record {
      walker = y.walker ∙ x.walker;
      program = y.program ∙ x.program;
      workers = y.workers ∙ x.workers;
      stands = y.stands;
      told = y.told ∙ x.told;
      limit = y.limit ∙ x.limit;
      idle = y.idle ∙ x.idle;
      extends = extends-then (program_of e) (workers_of e) (length e.walker.log + 1) e.store f.store g.store x.extends other;
      room = y.room;
    }

pub paired-on : (depth : ℕ) (e f : Explorer) → IsPaired e → KeepsBut depth e f → IsPaired f
paired-on depth e f paired x = record {
  program = x.program ∙ paired.program ∙ ap (λ (walk : Walk). walk.program) (sym x.walker);
  workers = x.workers ∙ paired.workers ∙ ap (λ (walk : Walk). walk.workers) (sym x.walker);
  stands = x.stands;
}

-- it stands at that log still
pub stands-on : (e f : Explorer) (number : ℕ) → StandsAtLog e.store number e.walker → Grows e f → StandsAtLog f.store number f.walker
stands-on e f number there x =
    let kept = x.extends.kept number e.walker.log there in
    let same : kept.other ≡ e.walker.log = elim kept.is [ inl same ↦ same | inr way ↦ let size = way.size in absurd (omega arith) ] in
    kept.there ∙ ap Some (same ∙ ap (λ (walk : Walk). walk.log) (sym x.walker))

pub at-on : (e f : Explorer) (number : ℕ) → IsAt e number → Grows e f → IsAt f number
at-on e f number at x =
    let found = found-more (program_of e) (workers_of e) (length e.walker.log + 1) e.store f.store at.found x.extends in
    record {
      paired = paired-on (length e.walker.log + 1) e f at.paired x;
      there = stands-on e f number at.there x;
      found = subst (λ (walk : Walk). AreFound (label walk.program) walk.workers (length walk.log + 1) f.store) (sym x.walker) found;
      room = x.room;
    }

-- the log of this number is looked at, from e on: f stands there, g has told of it, and h has tried what is behind it
module _ (f g h : Explorer) (number : ℕ) (at : IsAt f number) (between : IsBetween f number)
    (tells : TellsOf (program_of f) (workers_of f) f.walker.log (map told_by f.told.items) (map told_by g.told.items)) (grows : Grows g h)
    (walker : g.walker ≡ f.walker) (store : g.store ≡ f.store) (idle : g.idle ≡ f.idle) where
  ext : Extends (program_of f) (workers_of f) (length f.walker.log + 1) f.store h.store
  ext = subst (λ (xs : List (List Choice)). Extends (program_of f) (workers_of f) (length f.walker.log + 1) xs h.store) store
      (subst (λ (walk : Walk). Extends (label walk.program) walk.workers (length walk.log + 1) g.store h.store) walker grows.extends)

  paired : IsPaired g → IsPaired h
  paired p = paired-on (length g.walker.log + 1) g h p grows

  same-walk : h.walker ≡ f.walker
  same-walk = grows.walker ∙ walker

  idle-before : h.idle ≡ true → f.idle ≡ true
  idle-before on = sym (grows.idle ∙ idle) ∙ on

  -- who is idle where it looks at that log is so behind one log more
  idle-on : SaysIdle f → h.idle ≡ true → EachHasIdle (program_of h) (workers_of h) (search_of h.store (number + 1))
  idle-on says on =
      let led = between.looking.search.leads number f.walker.log at.there in
      subst (λ (walk : Walk). EachHasIdle (label walk.program) walk.workers (search_of h.store (number + 1))) (sym same-walk)
      ((idle-at-each (program_of f) (workers_of f) f.store).goes_on h.store number (length f.walker.log + 1) f.walker.log led.0 ext at.there led.1
      (says (idle-before on) led.0 led.1) (between.idle (idle-before on)))

  -- and no log more
  idle-halted : h.idle ≡ true → EachHasIdle (program_of h) (workers_of h) (search_of h.store number)
  idle-halted on =
      let inside = slice_get_within f.store number f.walker.log at.there in
      subst (λ (walk : Walk). EachHasIdle (label walk.program) walk.workers (search_of h.store number)) (sym same-walk)
      ((idle-at-each (program_of f) (workers_of f) f.store).halted h.store number (length f.walker.log + 1) ext (omega arith)
      (between.idle (idle-before on)))

  pub between-on : IsPaired g → SaysIdle f → AreClosed (program_of g) (workers_of g) h.store g.walker.log → IsBetween h (number + 1)
  between-on p says closed =
      let shut : AreClosed (program_of f) (workers_of f) h.store f.walker.log =
      subst (λ (walk : Walk). AreClosed (label walk.program) walk.workers h.store walk.log) walker closed in
      let said : TellsOf (program_of f) (workers_of f) f.walker.log (map told_by f.told.items) (map told_by h.told.items) =
      subst (λ (t : List Told). TellsOf (program_of f) (workers_of f) f.walker.log (map told_by f.told.items) t)
      (ap (λ v. map told_by v.items) (sym grows.told)) tells in
      record {
        paired = paired p;
        looking = subst (λ (walk : Walk). IsLooking (label walk.program) walk.workers h.store (number + 1) (map told_by h.told.items)) (sym same-walk)
            (looked-on (program_of f) (workers_of f) f.store h.store number (map told_by f.told.items) (map told_by h.told.items) f.walker.log
            between.looking at.there ext shut said);
        room = grows.room;
        idle = idle-on says;
      }

  pub between-halted : IsPaired g → g.told ≡ f.told → IsBetween h number
  between-halted p told = record {
    paired = paired p;
    looking = subst (λ (walk : Walk). IsLooking (label walk.program) walk.workers h.store number (map told_by h.told.items)) (sym same-walk)
        (subst (λ (t : List Told). IsLooking (program_of f) (workers_of f) h.store number t) (ap (λ v. map told_by v.items) (sym (grows.told ∙ told)))
        (halted (program_of f) (workers_of f) f.store h.store number (map told_by f.told.items) f.walker.log between.looking at.there ext));
    room = grows.room;
    idle = idle-halted;
  }
