use Rattle.std.proofs.Common.{◌≡◌, Some, List, ap, ◌∙◌, sym}
use Rattle.cilk_machine_undo.specs.syntax.Tree.{Program}
use Rattle.cilk_sched.specs.model.Choice.{Choice}
use Rattle.cilk_sched.specs.model.Event.{Event}
use Rattle.cilk_sched.specs.model.Run.{Standing, Position}
use Rattle.cilk_sched.specs.model.Views.{shown}
use Rattle.cilk_machine_undo.specs.frame.Asked.{what_of}
use Rattle.cilk_view.specs.Shows.{ShowsAt}
use Rattle.cilk_machine.specs.Stands.{Led}
use Rattle.cilk_machine.proofs.Shown.{shows-at, shows, if_ok-weaker}
use Rattle.cilk_machine.proofs.machine.Machine.view_told.Goals as goal

pub tell-requires : goal.tell-requires
tell-requires c =
    shows c.args.self.now c.shown-parts.result c.shown-parts.ensures.program c.shown-parts.ensures.parts c.shown-parts.ensures.workers
    c.choices-choices.ensures.led

pub returns-clause-text : goal.returns-clause-text
returns-clause-text c =
    let m = c.args.self.now in
    let s = c.shown-parts.result in
    let what = what_of c.args.what.now in
    if_ok-weaker c.tell.result (λ told. (at : Position) → ShowsAt s at → shown s.loaded.now at what ≡ Some told)
    (λ told. (choices : List Choice) (events : List Event) (at : Standing) → Led m choices events at
    → shown m.program (record { standing = at; events = events }) what ≡ Some told)
    (λ told is choices events at h.
    let position : Position = record { standing = at; events = events } in
    ap (λ (p : Program). shown p position what) (sym c.shown-parts.ensures.program)
    ∙ is position (shows-at m s c.shown-parts.ensures.program c.shown-parts.ensures.parts choices events at h))
    c.tell.ensures.text

pub returns-clause-fault : goal.returns-clause-fault
returns-clause-fault c = λ none choices events at h.
    let m = c.args.self.now in
    let s = c.shown-parts.result in
    let position : Position = record { standing = at; events = events } in
    ap (λ (p : Program). shown p position (what_of c.args.what.now)) (sym c.shown-parts.ensures.program)
    ∙ c.tell.ensures.fault none position (shows-at m s c.shown-parts.ensures.program c.shown-parts.ensures.parts choices events at h)

pub returns-clause-none : goal.returns-clause-none
returns-clause-none c = λ choices events at h gone.
    let m = c.args.self.now in
    let s = c.shown-parts.result in
    let position : Position = record { standing = at; events = events } in
    c.tell.ensures.none position (shows-at m s c.shown-parts.ensures.program c.shown-parts.ensures.parts choices events at h)
    (ap (λ (p : Program). shown p position (what_of c.args.what.now)) c.shown-parts.ensures.program ∙ gone)
