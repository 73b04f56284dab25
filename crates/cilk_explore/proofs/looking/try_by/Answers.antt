use Rattle.std.proofs.Common.{◌+◌, true, Ok, ap, arith, length}
use Rattle.cilk_machine.specs.model.Choice.{step, pop, steal, Choice}
use Rattle.cilk_machine.specs.model.Run.{Position}
use Rattle.cilk_explore.specs.Linking.{HasLink}
use Rattle.cilk_explore.proofs.Turns.{acts-made}
use Rattle.cilk_explore.specs.Walks.{Walk}
use Rattle.cilk_explore.specs.Exploring.{program_of, workers_of, Grows, Gathers}
use Rattle.cilk_explore.proofs.Paces.{grows-then, at-on}
use Rattle.cilk_explore.proofs.Gathers.{gathers-then, still-linked, linked-for}
use Rattle.cilk_explore.proofs.Wholes.{on-ok, on-both, on-is}
use Rattle.cilk_explore.proofs.looking.try_by.Goals as goal

pub try_choice-requires-in-Ok-true : goal.try_choice-requires-in-Ok-true
try_choice-requires-in-Ok-true c = at-on c.args.explorer.now c.try_choice.new.explorer c.args.number c.requires.at c.in-Ok-true.ensures.grows

pub try_steals-requires-clause-at : goal.try_steals-requires-clause-at
try_steals-requires-clause-at c =
    at-on c.try_choice.new.explorer c.try_choice-in-Ok-true.new.explorer c.args.number
    (at-on c.args.explorer.now c.try_choice.new.explorer c.args.number c.requires.at c.in-Ok-true.ensures.grows) c.in-Ok-true-try_choice.ensures.grows

pub returns-in-Ok-true-try_choice-clause-grows : goal.returns-in-Ok-true-try_choice-clause-grows
returns-in-Ok-true-try_choice-clause-grows c =
    let e = c.args.explorer.now in
    let f = c.try_choice.new.explorer in
    let g = c.try_choice-in-Ok-true.new.explorer in
    on-ok c.try_steals.result (grows-then e g c.try_steals.new.explorer (grows-then e f g c.in-Ok-true.ensures.grows c.in-Ok-true-try_choice.ensures.grows))
    c.try_steals.ensures.grows

pub returns-in-Ok-true-try_choice-clause-gathers : goal.returns-in-Ok-true-try_choice-clause-gathers
returns-in-Ok-true-try_choice-clause-gathers c =
    let e = c.args.explorer.now in
    let f = c.try_choice.new.explorer in
    let g = c.try_choice-in-Ok-true.new.explorer in
    let h = c.try_steals.new.explorer in
    let first = c.in-Ok-true.ensures.grows in
    let second = c.in-Ok-true-try_choice.ensures.grows in
    let both = gathers-then e f g first second c.in-Ok-true.ensures.gathers c.in-Ok-true-try_choice.ensures.gathers in
    let joined : Grows g h → Gathers g h → Gathers e h = λ third more. gathers-then e g h (grows-then e f g first second) third both more in
    on-both c.try_steals.result joined c.try_steals.ensures.grows c.try_steals.ensures.gathers

pub returns-in-Ok-true-try_choice-clause-linked : goal.returns-in-Ok-true-try_choice-clause-linked
returns-in-Ok-true-try_choice-clause-linked c = λ ok.
    let e = c.args.explorer.now in
    let f = c.try_choice.new.explorer in
    let g = c.try_choice-in-Ok-true.new.explorer in
    let h = c.try_steals.new.explorer in
    let w = c.args.worker in
    let steps : Choice = record { worker = w; act = step } in
    let pops : Choice = record { worker = w; act = pop } in
    let first = c.in-Ok-true.ensures.grows in
    let second = c.in-Ok-true-try_choice.ensures.grows in
    let both = grows-then e f g first second in
    let third = on-is c.try_steals.result true ok c.try_steals.ensures.grows in
    let later = on-is c.try_steals.result true ok c.try_steals.ensures.gathers in
    let more = gathers-then f g h second third c.in-Ok-true-try_choice.ensures.gathers later in
    let crew = ap (λ (walk : Walk). walk.workers) both.walker in
    acts-made (program_of e) (workers_of e) e.walker.log
    (λ (at : Position). HasLink (program_of e) (workers_of e) h.store h.links.here at.standing (length e.walker.log + 1)) w
    (still-linked e f h steps first (grows-then f g h second third) more (c.in-Ok-true.ensures.linked (ap Ok c.in-Ok-true.field-0-test)))
    (still-linked e g h pops both third later
    (linked-for e f g pops first (c.in-Ok-true-try_choice.ensures.linked (ap Ok c.in-Ok-true-try_choice.field-0-test))))
    (λ v low high. linked-for e g h (record { worker = w; act = steal v }) both (c.try_steals.ensures.linked ok v low (omega (arith, high, crew))))

pub returns-in-Ok-false-try_choice-clause-grows : goal.returns-in-Ok-false-try_choice-clause-grows
returns-in-Ok-false-try_choice-clause-grows c =
    grows-then c.args.explorer.now c.try_choice.new.explorer c.try_choice-in-Ok-true.new.explorer c.in-Ok-true.ensures.grows
    c.in-Ok-false-try_choice.ensures.grows

pub returns-in-Ok-false-try_choice-clause-gathers : goal.returns-in-Ok-false-try_choice-clause-gathers
returns-in-Ok-false-try_choice-clause-gathers c =
    gathers-then c.args.explorer.now c.try_choice.new.explorer c.try_choice-in-Ok-true.new.explorer c.in-Ok-true.ensures.grows
    c.in-Ok-false-try_choice.ensures.grows c.in-Ok-true.ensures.gathers c.in-Ok-false-try_choice.ensures.gathers
