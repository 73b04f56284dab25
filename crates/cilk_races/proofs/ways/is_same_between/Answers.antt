use Rattle.std.proofs.Common.{sym, ◌∙◌}
use Rattle.std.proofs.lemmas.Bool.{ne_eqb}
use Rattle.cilk_races.proofs.Upwards.{apart-deep}
use Rattle.cilk_races.specs.Ways.{row_at}
use Rattle.cilk_races.proofs.ways.is_same_between.Goals as goal

pub returns-else-depth-row_at : goal.returns-else-depth-row_at
returns-else-depth-row_at c =
    let first = c.row_at-depth.ensures in
    let second = c.row_at.ensures in
    ne_eqb c.row_at-depth.result.depth c.row_at.result.depth c.if-depth-row_at.false
    ∙ sym (apart-deep c.args.rows.now c.args.others.now (row_at c.args.rows.now c.args.one).depth (row_at c.args.others.now c.args.other).depth
    c.args.one c.args.other
    (λ same. c.if-depth-row_at.false ((λ j. (first j).depth) ∙ same ∙ (λ j. (sym second j).depth))))
