use Rattle.std.proofs.Common.{ap, ◌∙◌}
use Rattle.cilk_races.specs.Ways.{lines_of}
use Rattle.cilk_races.proofs.Asked.{number-none, number-view}
use Rattle.cilk_races.proofs.rows.Rows.number.Goals as goal

pub returns-then-at-depth : goal.returns-then-at-depth
returns-then-at-depth c =
    number-view c.as_slice-kept.result.now c.args.self.now
    (ap lines_of c.as_slice-kept.ensures.value ∙ c.self.view_is) c.args.place c.row_at-depth.result c.row_at-depth.ensures
    c.args.at c.above.result c.row_at.result c.above.ensures c.row_at.ensures c.if-at-depth.true

pub returns-else-at-depth : goal.returns-else-at-depth
returns-else-at-depth c =
    number-none c.as_slice-kept.result.now c.args.self.now
    (ap lines_of c.as_slice-kept.ensures.value ∙ c.self.view_is) c.args.place c.row_at-depth.result c.row_at-depth.ensures
    c.args.at c.if-at-depth.false
