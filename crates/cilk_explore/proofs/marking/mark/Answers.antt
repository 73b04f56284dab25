use Rattle.std.proofs.Common.{◌≡◌, true, false, sym, ◌∙◌}
use Rattle.cilk_explore.proofs.Marks.{unmarked-set, sound-set, stays-at}
use Rattle.cilk_explore.proofs.marking.mark.Goals as goal

pub returns-then-has_mark-clause-stays : goal.returns-then-has_mark-clause-stays
returns-then-has_mark-clause-stays c = λ e none. let bad : true ≡ false = sym c.if-has_mark.true ∙ c.has_mark.ensures ∙ none in cc

pub returns-then-may_be_marked-clause-sound : goal.returns-then-may_be_marked-clause-sound
returns-then-may_be_marked-clause-sound c =
    sound-set c.args.links.now.past c.args.marks.now c.args.number c.of.result.now c.requires.sound c.of.ensures
    (c.may_be_marked.ensures.may c.if-may_be_marked.true)

pub returns-then-may_be_marked-clause-fewer : goal.returns-then-may_be_marked-clause-fewer
returns-then-may_be_marked-clause-fewer c = λ e.
    unmarked-set c.args.marks.now c.args.number (sym c.has_mark.ensures ∙ c.if-has_mark.false) c.requires.there

pub returns-clause-stays : goal.returns-clause-stays
returns-clause-stays c = λ e.
    stays-at c.args.links.now.past c.args.marks.now c.args.number c.of.result.now c.of.ensures (c.may_be_marked.ensures.stays c.if-may_be_marked.false)
