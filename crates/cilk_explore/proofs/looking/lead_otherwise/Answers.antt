use Rattle.std.proofs.Common.{◌≡◌, List, length, refl, sym, ◌∙◌, subst}
use Rattle.std.proofs.lemmas.Option.{slice_get_within}
use Rattle.cilk_machine.specs.model.Choice.{Choice}
use Rattle.cilk_machine.specs.sched.Words.{choice_of}
use Rattle.cilk_explore.specs.declared.explorer.Explorer.{Explorer}
use Rattle.cilk_explore.specs.Exploring.{IsKnownBy, KeepsAs}
use Rattle.cilk_explore.proofs.Knows.{known-same, keeps-other, known-other}
use Rattle.cilk_explore.proofs.Paces.{grows-none}
use Rattle.cilk_explore.proofs.looking.lead_otherwise.Goals as goal

pub returns-then-len-choices-clause-known : goal.returns-then-len-choices-clause-known
returns-then-len-choices-clause-known c =
    let e = c.args.explorer.now in
    let leads = c.log-log.ensures.leads in
    known-same e e.probe.number c.requires.behind.found c.requires.same leads.0 leads.1

pub put_behind-requires : goal.put_behind-requires
put_behind-requires c =
    let e = c.args.explorer.now in
    slice_get_within e.store e.probe.number e.probe.walker.log c.requires.behind.paired.stands

pub returns-in-None-clause-keeps : goal.returns-in-None-clause-keeps
returns-in-None-clause-keeps c =
    let e = c.args.explorer.now in
    let behind = c.requires.behind in
    subst (λ (xs : List (List Choice)). KeepsAs e (record e { store = xs })) (sym (c.in-None.ensures.same refl))
    (grows-none (length e.walker.log) e behind.room behind.paired.stands)

pub returns-in-None-clause-known : goal.returns-in-None-clause-known
returns-in-None-clause-known c =
    let e = c.args.explorer.now in
    let leads = c.log-log.ensures.leads in
    subst (λ (xs : List (List Choice)). IsKnownBy (record e { store = xs }) e.probe.number) (sym (c.in-None.ensures.same refl))
    (known-same e e.probe.number c.requires.behind.found c.requires.same leads.0 leads.1)

pub returns-in-Ok-clause-keeps : goal.returns-in-Ok-clause-keeps
returns-in-Ok-clause-keeps c =
    let e = c.args.explorer.now in
    let f : Explorer = record e { probe = record { walker = c.back.new.self; number = c.in-Some.parent }; store = c.put_behind.new.self } in
    let leads = c.log-log.ensures.leads in
    let long : length e.probe.walker.log ≡ length e.walker.log = sym c.len.ensures ∙ c.if-len-choices.false ∙ c.len-choices.ensures in
    keeps-other e c.args.number (choice_of c.args.choice) c.requires.behind c.requires.same long leads.0 leads.1 f refl
    (c.in-Some.ensures.put (λ none. cc)) c.in-Some.ensures.old c.in-Ok.ensures.back

pub returns-in-Ok-clause-known : goal.returns-in-Ok-clause-known
returns-in-Ok-clause-known c =
    let e = c.args.explorer.now in
    let f : Explorer = record e { probe = record { walker = c.back.new.self; number = c.in-Some.parent }; store = c.put_behind.new.self } in
    let leads = c.log-log.ensures.leads in
    let long : length e.probe.walker.log ≡ length e.walker.log = sym c.len.ensures ∙ c.if-len-choices.false ∙ c.len-choices.ensures in
    known-other e c.args.number (choice_of c.args.choice) c.requires.behind c.requires.same long leads.0 leads.1 f refl
    (c.in-Some.ensures.put (λ none. cc)) c.in-Some.ensures.old c.in-Ok.ensures.back
