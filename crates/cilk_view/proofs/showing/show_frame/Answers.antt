use Rattle.std.proofs.Common.{◌≡◌, sym, ap, ◌∙◌, Some}
use Rattle.std.specs.Prelude.{option_map, string_bytes}
use Rattle.cilk_load.specs.labelled.Bodies.{label}
use Rattle.cilk_machine_agree.specs.model.Path.{Path}
use Rattle.cilk_machine_agree.specs.model.Run.{Position}
use Rattle.cilk_machine_agree.specs.model.State.{instance_at}
use Rattle.cilk_machine_agree.specs.model.Frames.{frame_text}
use Rattle.cilk_view.specs.Shows.{machine_of, ShowsAt}
use Rattle.cilk_view.specs.Frames.{frame_by}
use Rattle.cilk_view.proofs.Finds.{no_instance, instance_there, frame_stands, frame_there}
use Rattle.cilk_view.proofs.Bodies.{frame_is}
use Rattle.cilk_view.proofs.Told.{told_is, not_both}
use Rattle.cilk_view.proofs.showing.show_frame.Goals as goal

pub returns-in-None-clause-fault : goal.returns-in-None-clause-fault
returns-in-None-clause-fault c = λ _ at s.
    let p = c.args.parts.now.loaded.now in
    ap (option_map (frame_text (label p)))
    (no_instance p (machine_of c.args.parts.now s.outcome) s.who at.standing s.agrees c.args.path.now
    (λ id live is. let one = c.in-None.ensures.all id live (is ∙ sym c.as_slice.ensures) in cc))

pub returns-in-None-frame_live-clause-fault : goal.returns-in-None-frame_live-clause-fault
returns-in-None-frame_live-clause-fault c = λ _ at s.
    absurd
    (frame_there c.args.parts.now.loaded.now (machine_of c.args.parts.now s.outcome) s.who at.standing s.agrees c.in-Some.id
    c.in-Some.ensures.found.0 s.placed
    (sym c.in-None-frame_live.ensures))

pub returns-in-Some-frame_live-clause-text : goal.returns-in-Some-frame_live-clause-text
returns-in-Some-frame_live-clause-text c =
    let p = c.args.parts.now.loaded.now in
    let parts = c.args.parts.now in
    told_is c.frame_text.result c.told.result (λ text. string_bytes text ≡ frame_by p c.in-Some-frame_live.frame.now)
    (λ text. (at : Position) → ShowsAt parts at → option_map (frame_text (label p))
    (instance_at at.standing.state.instances c.args.path.now) ≡ Some (string_bytes text))
    c.told.ensures.text c.frame_text.ensures
    (λ text is at s.
    let m = machine_of parts s.outcome in
    ap (λ (q : Path). option_map (frame_text (label p)) (instance_at at.standing.state.instances q)) (sym (c.in-Some.ensures.found.1 ∙ c.as_slice.ensures))
    ∙ ap (option_map (frame_text (label p))) (instance_there p m s.who at.standing s.agrees c.in-Some.id c.in-Some.ensures.found.0)
    ∙ ap Some
    (sym (frame_is p c.program-program.ensures.well_formed c.in-Some-frame_live.frame.now (s.who c.in-Some.id)
    (frame_stands p m s.who at.standing s.agrees c.in-Some.id c.in-Some-frame_live.frame.now c.in-Some.ensures.found.0 (sym c.in-Some-frame_live.ensures)))
    ∙ sym is))

pub returns-in-Some-frame_live-clause-none : goal.returns-in-Some-frame_live-clause-none
returns-in-Some-frame_live-clause-none c = λ at s gone.
    let p = c.args.parts.now.loaded.now in
    let text = frame_text (label p) in
    absurd (not_both (option_map text (instance_at at.standing.state.instances c.args.path.now)) (text (s.who c.in-Some.id))
    (ap (λ (q : Path). option_map text (instance_at at.standing.state.instances q)) (sym (c.in-Some.ensures.found.1 ∙ c.as_slice.ensures))
    ∙ ap (option_map text) (instance_there p (machine_of c.args.parts.now s.outcome) s.who at.standing s.agrees c.in-Some.id c.in-Some.ensures.found.0))
    gone)
