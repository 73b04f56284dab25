use Rattle.std.proofs.Common.{◌+◌, true, length, Ok, sym, ap, refl, subst}
use Rattle.cilk_machine.specs.model.Choice.{Choice}
use Rattle.cilk_machine.specs.model.Run.{Position}
use Rattle.cilk_explore.specs.Linking.{HasLink, IsLinked}
use Rattle.cilk_explore.proofs.Turns.{over-made}
use Rattle.cilk_explore.specs.declared.explorer.Explorer.{Explorer}
use Rattle.cilk_explore.specs.Exploring.{program_of, workers_of, IsPaired}
use Rattle.cilk_explore.specs.Looking.{StandsAtLog}
use Rattle.cilk_explore.proofs.Paces.{grows-none, stands-on, between-halted}
use Rattle.cilk_explore.proofs.Gathers.{gathers-none, between-closed, links-closed}
use Rattle.cilk_explore.proofs.Wholes.{on-is}
use Rattle.cilk_explore.proofs.looking.look_at.Goals as goal

pub returns-in-Ok-true-clause-looked : goal.returns-in-Ok-true-clause-looked
returns-in-Ok-true-clause-looked c = λ ok.
    let f = c.go_there.new.explorer in
    let g : Explorer = record f { told = c.tell.new.told } in
    let at = c.in-Ok.ensures.at in
    let paired : IsPaired g = record { program = at.paired.program; workers = at.paired.workers; stands = at.paired.stands } in
    let linked : (choice : Choice) → IsLinked (program_of g) (workers_of g) g.store g.links.here g.walker.log choice =
    over-made (program_of g) (workers_of g) g.walker.log
    (λ (p : Position). HasLink (program_of g) (workers_of g) g.store g.links.here p.standing (length g.walker.log + 1))
    (c.in-Ok-true.ensures.over (ap Ok c.in-Ok-true.field-0-test)) in
    between-closed f g g c.close.new.explorer c.args.number at c.in-Ok.ensures.between c.in-Ok.ensures.links c.in-Ok-true.ensures.tells
    (grows-none (length g.walker.log + 1) g at.room at.paired.stands) (gathers-none g g refl) refl refl refl refl c.in-Ok.ensures.idle paired linked
    (on-is c.close.result true ok c.close.ensures.rest) (on-is c.close.result true ok c.close.ensures.links)

pub returns-in-Ok-true-clause-links : goal.returns-in-Ok-true-clause-links
returns-in-Ok-true-clause-links c = λ ok.
    let f = c.go_there.new.explorer in
    let g : Explorer = record f { told = c.tell.new.told } in
    let at = c.in-Ok.ensures.at in
    let paired : IsPaired g = record { program = at.paired.program; workers = at.paired.workers; stands = at.paired.stands } in
    let linked : (choice : Choice) → IsLinked (program_of g) (workers_of g) g.store g.links.here g.walker.log choice =
    over-made (program_of g) (workers_of g) g.walker.log
    (λ (p : Position). HasLink (program_of g) (workers_of g) g.store g.links.here p.standing (length g.walker.log + 1))
    (c.in-Ok-true.ensures.over (ap Ok c.in-Ok-true.field-0-test)) in
    links-closed f g g c.close.new.explorer c.args.number at c.in-Ok.ensures.between c.in-Ok.ensures.links c.in-Ok-true.ensures.tells
    (grows-none (length g.walker.log + 1) g at.room at.paired.stands) (gathers-none g g refl) refl refl refl refl c.in-Ok.ensures.idle paired linked
    (on-is c.close.result true ok c.close.ensures.rest) (on-is c.close.result true ok c.close.ensures.links)

pub returns-in-Ok-true-try_all-clause-looked : goal.returns-in-Ok-true-try_all-clause-looked
returns-in-Ok-true-try_all-clause-looked c = λ ok.
    let f = c.go_there.new.explorer in
    let g : Explorer = record f { told = c.tell.new.told } in
    let at = c.in-Ok.ensures.at in
    let paired : IsPaired g = record { program = at.paired.program; workers = at.paired.workers; stands = at.paired.stands } in
    let shut = c.close-in-Ok-true-try_all in
    between-closed f g c.try_all.new.explorer shut.new.explorer c.args.number at c.in-Ok.ensures.between c.in-Ok.ensures.links
    c.in-Ok-false.ensures.tells c.in-Ok-true-try_all.ensures.grows c.in-Ok-true-try_all.ensures.gathers refl refl refl refl c.in-Ok.ensures.idle paired
    (c.in-Ok-true-try_all.ensures.linked (ap Ok c.in-Ok-true-try_all.field-0-test)) (on-is shut.result true ok shut.ensures.rest)
    (on-is shut.result true ok shut.ensures.links)

pub returns-in-Ok-true-try_all-clause-links : goal.returns-in-Ok-true-try_all-clause-links
returns-in-Ok-true-try_all-clause-links c = λ ok.
    let f = c.go_there.new.explorer in
    let g : Explorer = record f { told = c.tell.new.told } in
    let at = c.in-Ok.ensures.at in
    let paired : IsPaired g = record { program = at.paired.program; workers = at.paired.workers; stands = at.paired.stands } in
    let shut = c.close-in-Ok-true-try_all in
    links-closed f g c.try_all.new.explorer shut.new.explorer c.args.number at c.in-Ok.ensures.between c.in-Ok.ensures.links
    c.in-Ok-false.ensures.tells c.in-Ok-true-try_all.ensures.grows c.in-Ok-true-try_all.ensures.gathers refl refl refl refl c.in-Ok.ensures.idle paired
    (c.in-Ok-true-try_all.ensures.linked (ap Ok c.in-Ok-true-try_all.field-0-test)) (on-is shut.result true ok shut.ensures.rest)
    (on-is shut.result true ok shut.ensures.links)

pub returns-in-Ok-false-try_all-clause-stopped : goal.returns-in-Ok-false-try_all-clause-stopped
returns-in-Ok-false-try_all-clause-stopped c = λ ok.
    let f = c.go_there.new.explorer in
    let g : Explorer = record f { told = c.tell.new.told } in
    let at = c.in-Ok.ensures.at in
    let paired : IsPaired g = record { program = at.paired.program; workers = at.paired.workers; stands = at.paired.stands } in
    between-halted f g c.try_all.new.explorer c.args.number at c.in-Ok.ensures.between c.in-Ok-false.ensures.tells
    c.in-Ok-false-try_all.ensures.grows refl refl refl paired (c.in-Ok-false.ensures.none (ap Ok c.in-Ok-false.field-0-test))

pub returns-in-Ok-true-try_all-clause-stands : goal.returns-in-Ok-true-try_all-clause-stands
returns-in-Ok-true-try_all-clause-stands c = λ ok.
    let f = c.go_there.new.explorer in
    let g : Explorer = record f { told = c.tell.new.told } in
    let shut = c.close-in-Ok-true-try_all in
    let rest = on-is shut.result true ok shut.ensures.rest in
    let grows = c.in-Ok-true-try_all.ensures.grows in
    let at = c.in-Ok.ensures.at in
    let there = stands-on g c.try_all.new.explorer c.args.number at.there grows in
    subst (λ (x : Explorer). StandsAtLog x.store c.args.number x.walker) (sym rest) there
