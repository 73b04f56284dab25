use Rattle.std.proofs.Common.{sym, ap, ◌∙◌}
use Rattle.cilk_load.specs.labelled.Bodies.{label}
use Rattle.cilk_machine_agree.specs.model.Workers.{where_text}
use Rattle.cilk_view.specs.Shows.{machine_of}
use Rattle.cilk_view.proofs.Told.{from_empty}
use Rattle.cilk_view.proofs.Links.{where_lines_are}
use Rattle.cilk_view.proofs.texts.where_text.Goals as goal

pub returns : goal.returns
returns c = λ at s.
    from_empty _ _ _ c.in_ok-put_where_lines.ensures c.new-out.ensures.bytes
    ∙ where_lines_are c.args.shown.now.loaded.now (machine_of c.args.shown.now s.outcome) s.who at.standing s.agrees 1 c.args.shown.now.hands.now s.agrees.held
    ∙ ap (where_text (label c.args.shown.now.loaded.now) at.standing.state.instances 1) (sym s.agrees.places)
