use Rattle.std.proofs.Common.{ap, sym, ◌∙◌}
use Rattle.cilk_view.specs.Ups.{link_at}
use Rattle.cilk_view.proofs.Kins.{kin_next}
use Rattle.cilk_view.proofs.kin.kin_made.Goals as goal

pub loop-number-preserved : goal.loop-number-preserved
loop-number-preserved c = λ ns same.
    kin_next ns c.loop-number.number c.loop-number.kin.items c.add_kin.new.kin.items c.args.links.now _ (c.loop-number.invariant ns same) same
    (ap (link_at c.args.links.now) (sym c.new.ensures) ∙ sym c.link_at.ensures) c.in_ok-add_kin.ensures
