use Rattle.std.proofs.Common.{sym, ap, ◌∙◌}
use Rattle.cilk_machine_agree.specs.model.Workers.{deques_text}
use Rattle.cilk_view.proofs.Told.{from_empty}
use Rattle.cilk_view.proofs.Links.{deques_are}
use Rattle.cilk_view.proofs.texts.deques_text.Goals as goal

pub returns : goal.returns
returns c = λ at s.
    from_empty _ _ _ c.in_ok-put_deques.ensures c.new-out.ensures.bytes
    ∙ deques_are c.args.shown.now.tree.now.nodes 1 c.args.shown.now.hands.now
    ∙ ap (deques_text 1) (sym s.agrees.places)
