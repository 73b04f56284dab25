use Rattle.std.proofs.Common.{◌+◌, ℕ, Ok, ap}
use Rattle.cilk_machine.specs.model.Choice.{steal, Choice}
use Rattle.cilk_explore.specs.Linking.{IsLinked}
use Rattle.cilk_explore.specs.Exploring.{program_of, workers_of}
use Rattle.cilk_explore.proofs.Paces.{grows-then, at-on}
use Rattle.cilk_explore.proofs.Gathers.{gathers-then, still-linked, linked-for}
use Rattle.cilk_explore.proofs.Wholes.{up-to}
use Rattle.cilk_explore.proofs.looking.try_steals.Goals as goal

pub try_choice-requires : goal.try_choice-requires
try_choice-requires c = at-on c.args.explorer.now c.loop-k.explorer c.args.number c.requires.at c.loop-k.invariant.grows

pub returns-in-Ok-false-clause-grows : goal.returns-in-Ok-false-clause-grows
returns-in-Ok-false-clause-grows c =
    grows-then c.args.explorer.now c.loop-k.explorer c.try_choice.new.explorer c.loop-k.invariant.grows c.in-Ok-false.ensures.grows

pub returns-in-Ok-false-clause-gathers : goal.returns-in-Ok-false-clause-gathers
returns-in-Ok-false-clause-gathers c =
    gathers-then c.args.explorer.now c.loop-k.explorer c.try_choice.new.explorer c.loop-k.invariant.grows c.in-Ok-false.ensures.grows
    c.loop-k.invariant.gathers c.in-Ok-false.ensures.gathers

pub loop-k-preserved : goal.loop-k-preserved
loop-k-preserved c =
    let e = c.args.explorer.now in
    let f = c.loop-k.explorer in
    let g = c.try_choice.new.explorer in
    let made = c.in-Ok-true.ensures.grows in
    let more = c.in-Ok-true.ensures.gathers in
    let theft = λ (v : ℕ). let choice : Choice = record { worker = c.args.worker; act = steal v } in choice in
    record {
      grows = grows-then e f g c.loop-k.invariant.grows made;
      gathers = gathers-then e f g c.loop-k.invariant.grows made c.loop-k.invariant.gathers more;
      linked = up-to (λ (v : ℕ). IsLinked (program_of e) (workers_of e) g.store g.links.here e.walker.log (theft v)) c.loop-k.k
          (λ v low high. still-linked e f g (theft v) c.loop-k.invariant.grows made more (c.loop-k.invariant.linked v low high))
          (linked-for e f g (theft (c.loop-k.k + 1)) c.loop-k.invariant.grows (c.in-Ok-true.ensures.linked (ap Ok c.in-Ok-true.field-0-test)));
    }
