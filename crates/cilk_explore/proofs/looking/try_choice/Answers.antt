use Rattle.std.proofs.Common.{true, Ok, refl, ap, ◌∙◌}
use Rattle.cilk_machine.specs.sched.Words.{choice_of}
use Rattle.cilk_explore.specs.declared.explorer.Explorer.{Explorer}
use Rattle.cilk_explore.specs.Exploring.{IsKnownBy}
use Rattle.cilk_explore.proofs.Gathers.{gathers-none, gathers-one, linked-one}
use Rattle.cilk_explore.proofs.Wholes.{on-bool, on-is, on-some}
use Rattle.cilk_explore.proofs.looking.try_choice.Goals as goal

pub returns-in-Ok-back-clause-gathers : goal.returns-in-Ok-back-clause-gathers
returns-in-Ok-back-clause-gathers c =
    let e = c.args.explorer.now in
    let m : Explorer = record e { walker = c.make.new.self } in
    let k = c.keep.new.explorer in
    let f = c.link.new.explorer in
    let made = c.in-Ok-true.ensures.made (ap Ok c.in-Ok-true.field-0-test) in
    on-bool c.link.result
    (λ ok.
    let more = c.link.ensures.more ok in
    gathers-one e m k (choice_of c.args.choice) made c.in-Ok.ensures.keeps more.0 (on-some (IsKnownBy k) c.in-Ok.kept more.0 more.1 c.in-Ok.ensures.known) f
    (ap (λ (x : Explorer). x.store) (on-is c.link.result true ok c.link.ensures.rest)) refl c.in-Ok.ensures.links more.2)
    (λ ok. let none = c.link.ensures.none ok in gathers-none e f (none.1 ∙ c.in-Ok.ensures.links))

pub returns-in-Ok-back-clause-linked : goal.returns-in-Ok-back-clause-linked
returns-in-Ok-back-clause-linked c = λ ok.
    let e = c.args.explorer.now in
    let m : Explorer = record e { walker = c.make.new.self } in
    let k = c.keep.new.explorer in
    let f = c.link.new.explorer in
    let made = c.in-Ok-true.ensures.made (ap Ok c.in-Ok-true.field-0-test) in
    let more = c.link.ensures.more ok in
    linked-one e m k (choice_of c.args.choice) made c.in-Ok.ensures.keeps more.0 (on-some (IsKnownBy k) c.in-Ok.kept more.0 more.1 c.in-Ok.ensures.known) f
    (ap (λ (x : Explorer). x.store) (on-is c.link.result true ok c.link.ensures.rest)) refl c.in-Ok.ensures.links more.2
