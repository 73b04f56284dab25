use Rattle.std.proofs.Common.{◌≡◌, ◌≤◌, ◌+◌, ℕ, Ok, Some, ap, ◌∙◌, arith, length}
use Rattle.cilk_machine.specs.model.Run.{Position}
use Rattle.cilk_explore.specs.explore.OrMore.{IsIdle}
use Rattle.cilk_explore.specs.Linking.{HasLink, AreLinkedBy}
use Rattle.cilk_explore.proofs.Idles.{idle-linked}
use Rattle.cilk_explore.proofs.Turns.{all-made}
use Rattle.cilk_explore.specs.Walks.{position_of}
use Rattle.cilk_explore.specs.Exploring.{program_of, workers_of}
use Rattle.cilk_explore.proofs.Paces.{grows-then, at-on}
use Rattle.cilk_explore.proofs.Gathers.{gathers-then, still-linked, linked-for}
use Rattle.cilk_explore.proofs.Wholes.{on-some, up-to}
use Rattle.cilk_explore.proofs.looking.try_all.Goals as goal

pub try_by-requires-clause-at : goal.try_by-requires-clause-at
try_by-requires-clause-at c = at-on c.args.explorer.now c.loop-k.explorer c.args.number c.requires.at c.loop-k.invariant.grows

pub returns-in-Ok-false-clause-grows : goal.returns-in-Ok-false-clause-grows
returns-in-Ok-false-clause-grows c =
    grows-then c.args.explorer.now c.loop-k.explorer c.try_by.new.explorer c.loop-k.invariant.grows c.in-Ok-false.ensures.grows

pub returns-in-Ok-false-clause-gathers : goal.returns-in-Ok-false-clause-gathers
returns-in-Ok-false-clause-gathers c =
    gathers-then c.args.explorer.now c.loop-k.explorer c.try_by.new.explorer c.loop-k.invariant.grows c.in-Ok-false.ensures.grows
    c.loop-k.invariant.gathers c.in-Ok-false.ensures.gathers

pub loop-k-preserved-then-does_as_first : goal.loop-k-preserved-then-does_as_first
loop-k-preserved-then-does_as_first c =
    let e = c.args.explorer.now in
    let f = c.loop-k.explorer in
    let old = c.loop-k.invariant in
    let one = c.does_as_first.ensures.behind c.if-does_as_first.true in
    let led = c.requires.at.found.leads c.args.number e.walker.log c.requires.at.there in
    let low = on-some (λ (w : ℕ). 1 ≤ w) c.first_idle-first.result one.0 one.1 c.first_idle-first.ensures.from_one in
    let mine = on-some (λ (w : ℕ). (at : Position) → position_of e.walker ≡ Some at → IsIdle at.standing w) c.first_idle-first.result one.0 one.1
    c.first_idle-first.ensures.idle led.0 led.1 in
    let its = c.does_as_first.ensures.idle c.if-does_as_first.true led.0 (ap position_of old.grows.walker ∙ led.1) in
    let less = one.2 in
    record {
      grows = old.grows;
      gathers = old.gathers;
      linked = up-to (λ (w : ℕ). AreLinkedBy (program_of e) (workers_of e) f.store f.links.here e.walker.log w) c.loop-k.k old.linked
          (idle-linked (program_of e) (workers_of e) f.store f.links.here e.walker.log led.0 one.0 (c.loop-k.k + 1) led.1 mine its
          (old.linked one.0 low (omega (arith, less))));
    }

pub loop-k-preserved : goal.loop-k-preserved
loop-k-preserved c =
    let e = c.args.explorer.now in
    let f = c.loop-k.explorer in
    let g = c.try_by.new.explorer in
    let made = c.in-Ok-true.ensures.grows in
    let more = c.in-Ok-true.ensures.gathers in
    record {
      grows = grows-then e f g c.loop-k.invariant.grows made;
      gathers = gathers-then e f g c.loop-k.invariant.grows made c.loop-k.invariant.gathers more;
      linked = up-to (λ (w : ℕ). AreLinkedBy (program_of e) (workers_of e) g.store g.links.here e.walker.log w) c.loop-k.k
          (λ w low high act. still-linked e f g (record { worker = w; act = act }) c.loop-k.invariant.grows made more
          (c.loop-k.invariant.linked w low high act))
          (λ act. linked-for e f g (record { worker = c.loop-k.k + 1; act = act }) c.loop-k.invariant.grows
          (c.in-Ok-true.ensures.linked (ap Ok c.in-Ok-true.field-0-test) act));
    }

pub returns-clause-linked : goal.returns-clause-linked
returns-clause-linked c = λ h.
    let e = c.args.explorer.now in
    let f = c.loop-k.explorer in
    all-made (program_of e) (workers_of e) e.walker.log
    (λ (at : Position). HasLink (program_of e) (workers_of e) f.store f.links.here at.standing (length e.walker.log + 1))
    (λ w low high. c.loop-k.invariant.linked w low (omega (arith, high, c.requires.crew)))
