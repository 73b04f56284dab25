use Rattle.std.proofs.Common.{◌<◌, refl, arith, length}
use Rattle.cilk_machine.specs.sched.Words.{choice_of}
use Rattle.cilk_explore.specs.declared.explorer.Explorer.{Explorer}
use Rattle.cilk_explore.proofs.Knows.{known-one, keeps-one}
use Rattle.cilk_explore.proofs.looking.keep.Goals as goal

pub returns-in-Ok-push-clause-keeps : goal.returns-in-Ok-push-clause-keeps
returns-in-Ok-push-clause-keeps c =
    let e = c.args.explorer.now in
    let f : Explorer = record e { probe = c.known.new.probe; tail = c.known.new.tail; store = c.push.new.self } in
    let leads = c.log-log.ensures.leads in
    let own = c.len-own.ensures in
    let room : length e.store < e.limit = omega arith in
    keeps-one e f c.args.number (choice_of c.args.choice) c.requires refl c.in-Ok-push.ensures.more leads.0 leads.1
    c.known.ensures.program c.known.ensures.workers
    c.in-Ok-None.ensures.stands refl refl refl room

pub returns-in-Ok-push-clause-known : goal.returns-in-Ok-push-clause-known
returns-in-Ok-push-clause-known c =
    let e = c.args.explorer.now in
    let f : Explorer = record e { probe = c.known.new.probe; tail = c.known.new.tail; store = c.push.new.self } in
    let leads = c.log-log.ensures.leads in
    known-one e f c.args.number (choice_of c.args.choice) c.requires refl c.in-Ok-push.ensures.more leads.0 leads.1 c.len-own.result c.len-own.ensures
