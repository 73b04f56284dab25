-- What the links of the log become that a search looks at.
use Rattle.std.proofs.Common.{◌≡◌, ◌+◌, inl, inr, ℕ, List, [], ◌∷◌, ◌++◌, length, map, Some, sym, ap, ◌∙◌, subst, arith}
use Rattle.std.proofs.Common.{slice_get}
use Rattle.std.proofs.Common.{length-append, append_assoc}
use Rattle.cilk_machine.specs.labelled.Labelled.{Labelled}
use Rattle.cilk_machine.specs.labelled.Bodies.{label}
use Rattle.cilk_machine.specs.model.Choice.{Choice}
use Rattle.cilk_machine.specs.model.Run.{Position, after}
use Rattle.cilk_explore.specs.explore.Search.{Known}
use Rattle.cilk_explore.specs.LogLooking.{Extends, AreClosed, TellsOf}
use Rattle.cilk_explore.specs.Linking.{IsLink, HasLink, IsLinked, AreLinks, AreLinked}
use Rattle.cilk_explore.proofs.Fronts.{get-cases, get-last, append-none, one-there, one-entry}
use Rattle.cilk_explore.proofs.Growing.{was-before}
use Rattle.cilk_explore.proofs.LinksKept.{link-more, linked-more, linked-on}
use Rattle.cilk_explore.specs.declared.explorer.Explorer.{Explorer}
use Rattle.cilk_explore.specs.Links.{Linkage}
use Rattle.cilk_explore.specs.Walks.{Walk, position_of}
use Rattle.cilk_explore.specs.Telling.{told_by}
use Rattle.cilk_explore.specs.Exploring.{program_of, workers_of, IsPaired, IsBetween, HasLinks, IsAt, IsKnownBy, KeepsAs, Grows, Gathers, SaysIdle}
use Rattle.cilk_explore.proofs.Paces.{between-on}

pub gathers-none : (e f : Explorer) → f.links ≡ e.links → Gathers e f
gathers-none e f same = record {
  past = ap (λ (l : Linkage). l.past) same;
  more = [];
  is = ap (λ (l : Linkage). l.here) same ∙ sym (append-none e.links.here);
  each = λ place number h. cc;
}

-- one after the other
pub gathers-then : (e f g : Explorer) → Grows e f → Grows f g → Gathers e f → Gathers f g → Gathers e g
gathers-then e f g x y a b =
    let ext : Extends (program_of e) (workers_of e) (length e.walker.log + 1) f.store g.store =
    subst (λ (walk : Walk). Extends (label walk.program) walk.workers (length walk.log + 1) f.store g.store) x.walker y.extends in
    record {
      past = b.past ∙ a.past;
      more = a.more ++ b.more;
      is = b.is ∙ ap (λ (xs : List ℕ). xs ++ b.more) a.is ∙ append_assoc e.links.here a.more b.more;
      each = λ place number h. elim (get-cases a.more b.more place number h) [
        | inl old ↦ link-more (program_of e) (workers_of e) (length e.walker.log + 1) f.store g.store ext e.walker.log number (a.each place number old)
        | inr new ↦
            subst (λ (walk : Walk). IsLink (label walk.program) walk.workers g.store walk.log number) x.walker (b.each new.place number new.there)
      ];
    }

-- what was linked before is linked behind
pub still-linked : (e f g : Explorer) (choice : Choice) → Grows e f → Grows f g → Gathers f g
    → IsLinked (program_of e) (workers_of e) f.store f.links.here e.walker.log choice
    → IsLinked (program_of e) (workers_of e) g.store g.links.here e.walker.log choice
still-linked e f g choice x y b linked =
    linked-more (program_of e) (workers_of e) (length e.walker.log + 1) f.store g.store
    (subst (λ (walk : Walk). Extends (label walk.program) walk.workers (length walk.log + 1) f.store g.store) x.walker y.extends) f.links.here b.more
    g.links.here e.walker.log choice b.is linked

-- what is linked for one is linked for the one that it came from
pub linked-for : (e f g : Explorer) (choice : Choice) → Grows e f → IsLinked (program_of f) (workers_of f) g.store g.links.here f.walker.log choice
    → IsLinked (program_of e) (workers_of e) g.store g.links.here e.walker.log choice
linked-for e f g choice x linked =
    subst (λ (walk : Walk). IsLinked (label walk.program) walk.workers g.store g.links.here walk.log choice) x.walker linked

-- where a choice leads, which is known by the log of this number
record Reached (program : Labelled) (n : ℕ) (logs : List (List Choice)) (log : List Choice) (choice : Choice) (number : ℕ) : Type 0 where
  at : Position
  leads : after program n (log ++ choice ∷ []) ≡ Some at
  known : Known program n logs at.standing (length log + 1)
  is : known.number ≡ number

-- a choice was made, and it is known where it led: a link to there is put down
module _ (e m k : Explorer) (choice : Choice) (made : m.walker ≡ record e.walker { log = e.walker.log ++ choice ∷ [] }) (kept : KeepsAs m k) (number : ℕ)
    (by : IsKnownBy k number) where
  there : k.walker ≡ record e.walker { log = e.walker.log ++ choice ∷ [] }
  there = kept.walker ∙ made

  reached : Reached (program_of e) (workers_of e) k.store e.walker.log choice number
  reached =
      let long : length k.walker.log ≡ length e.walker.log + 1 = ap (λ (walk : Walk). length walk.log) there ∙ length-append e.walker.log (choice ∷ []) in
      let j = by.known in
      let short = j.short in
      record {
        at = by.at;
        leads = sym (ap position_of there) ∙ by.here;
        known = record {
          number = j.number;
          log = j.log;
          found = j.found;
          short = omega arith;
          to = j.to;
          leads = sym (ap (λ (walk : Walk). after (label walk.program) walk.workers j.log) there) ∙ j.leads;
          same = j.same;
        };
        is = by.is;
      }

  module _ (f : Explorer) (store : f.store ≡ k.store) (before : m.links ≡ e.links) (same : k.links ≡ m.links)
      (more : f.links ≡ record k.links { here = k.links.here ++ number ∷ [] }) where
    here-is : f.links.here ≡ e.links.here ++ number ∷ []
    here-is = ap (λ (l : Linkage). l.here) more ∙ ap (λ (l : Linkage). l.here ++ number ∷ []) (same ∙ before)

    pub gathers-one : Gathers e f
    gathers-one = record {
      past = ap (λ (l : Linkage). l.past) more ∙ ap (λ (l : Linkage). l.past) (same ∙ before);
      more = number ∷ [];
      is = here-is;
      each = λ place other h.
          let one = one-there number other place h in
          let link : IsLink (program_of e) (workers_of e) k.store e.walker.log number =
          record { choice = choice; at = reached.at; leads = reached.leads; known = reached.known; is = reached.is } in
          subst (λ (j : ℕ). IsLink (program_of e) (workers_of e) f.store e.walker.log j) one.1
          (subst (λ (xs : List (List Choice)). IsLink (program_of e) (workers_of e) xs e.walker.log number) (sym store) link);
    }

    pub linked-one : IsLinked (program_of e) (workers_of e) f.store f.links.here e.walker.log choice
    linked-one at leads =
        let same_place : reached.at ≡ at =
        one-entry (after (program_of e) (workers_of e) (e.walker.log ++ choice ∷ [])) reached.at at reached.leads leads in
        let has : HasLink (program_of e) (workers_of e) k.store f.links.here reached.at.standing (length e.walker.log + 1) = record {
          known = reached.known;
          place = length e.links.here;
          there = ap (λ (xs : List ℕ). slice_get xs (length e.links.here)) here-is ∙ get-last e.links.here number ∙ ap Some (sym reached.is);
        } in
        subst (λ (p : Position). HasLink (program_of e) (workers_of e) f.store f.links.here p.standing (length e.walker.log + 1)) same_place
        (subst (λ (xs : List (List Choice)). HasLink (program_of e) (workers_of e) xs f.links.here reached.at.standing (length e.walker.log + 1)) (sym store)
        has)

-- as between-on, and all links of the log were put down: i is h, with these links as those of one log more
module _ (f g h i : Explorer) (number : ℕ) (at : IsAt f number) (between : IsBetween f number) (links : HasLinks f number)
    (tells : TellsOf (program_of f) (workers_of f) f.walker.log (map told_by f.told.items) (map told_by g.told.items)) (grows : Grows g h)
    (gathers : Gathers g h) (walker : g.walker ≡ f.walker) (store : g.store ≡ f.store) (same : g.links ≡ f.links) (idle : g.idle ≡ f.idle)
    (says : SaysIdle f) (paired : IsPaired g)
    (linked : (choice : Choice) → IsLinked (program_of g) (workers_of g) h.store h.links.here g.walker.log choice)
    (rest : i ≡ record h { links = i.links }) (closed : i.links ≡ record { past = h.links.past ++ h.links.here ∷ []; here = [] }) where
  shut : AreClosed (program_of g) (workers_of g) h.store g.walker.log
  shut choice there leads = let has = linked choice there leads in has.known

  pub between-closed : IsBetween i (number + 1)
  between-closed =
      let done = between-on f g h number at between tells grows walker store idle paired says shut in
      subst (λ (x : Explorer). IsBetween x (number + 1)) (sym rest)
      (record {
        paired = record { program = done.paired.program; workers = done.paired.workers; stands = done.paired.stands };
        looking = done.looking;
        room = done.room;
        idle = done.idle;
      })

  here-more : h.links.here ≡ gathers.more
  here-more = gathers.is ∙ ap (λ (xs : List ℕ). xs ++ gathers.more) (ap (λ (l : Linkage). l.here) same ∙ links.none)

  mine : AreLinks (program_of f) (workers_of f) h.store h.links.here f.walker.log
  mine = subst (λ (walk : Walk). AreLinks (label walk.program) walk.workers h.store h.links.here walk.log) walker (record {
    each = λ place other there. gathers.each place other (sym (ap (λ (xs : List ℕ). slice_get xs place) here-more) ∙ there);
    all = linked;
  })

  ext : Extends (program_of f) (workers_of f) (length f.walker.log + 1) f.store h.store
  ext = subst (λ (xs : List (List Choice)). Extends (program_of f) (workers_of f) (length f.walker.log + 1) xs h.store) store
      (subst (λ (walk : Walk). Extends (label walk.program) walk.workers (length walk.log + 1) g.store h.store) walker grows.extends)

  pub links-closed : HasLinks i (number + 1)
  links-closed =
      let past_is : h.links.past ≡ f.links.past = gathers.past ∙ ap (λ (l : Linkage). l.past) same in
      let was = was-before (program_of f) (workers_of f) f.store h.store number (map told_by f.told.items) f.walker.log between.looking at.there ext in
      let old = linked-on (program_of f) (workers_of f) (length f.walker.log + 1) f.store h.store ext f.links.past number f.walker.log h.links.here
      links.past at.there was mine in
      let new : AreLinked (program_of f) (workers_of f) h.store (h.links.past ++ h.links.here ∷ []) (number + 1) =
      subst (λ (xs : List (List ℕ)). AreLinked (program_of f) (workers_of f) h.store (xs ++ h.links.here ∷ []) (number + 1)) (sym past_is) old in
      let walked : AreLinked (program_of h) (workers_of h) h.store (h.links.past ++ h.links.here ∷ []) (number + 1) =
      subst (λ (walk : Walk). AreLinked (label walk.program) walk.workers h.store (h.links.past ++ h.links.here ∷ []) (number + 1))
      (sym (grows.walker ∙ walker)) new in
      subst (λ (x : Explorer). HasLinks x (number + 1)) (sym rest)
      (record {
        past = subst (λ (l : Linkage). AreLinked (program_of h) (workers_of h) h.store l.past (number + 1)) (sym closed) walked;
        none = ap (λ (l : Linkage). l.here) closed;
      })
