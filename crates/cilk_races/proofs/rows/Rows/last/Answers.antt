use Rattle.std.proofs.Common.{ap, ◌∙◌}
use Rattle.cilk_races.specs.Ways.{lines_of}
use Rattle.cilk_races.proofs.Asked.{last-root, last-view}
use Rattle.cilk_races.proofs.rows.Rows.last.Goals as goal

pub returns-then-row-eq0 : goal.returns-then-row-eq0
returns-then-row-eq0 c =
    last-root c.as_slice.result.now c.args.self.now
    (ap lines_of c.as_slice.ensures.value ∙ c.self.view_is) c.args.place c.row_at-row.result c.row_at-row.ensures
    c.if-row-eq0.true

pub returns-else-row-eq0 : goal.returns-else-row-eq0
returns-else-row-eq0 c =
    last-view c.as_slice.result.now c.args.self.now
    (ap lines_of c.as_slice.ensures.value ∙ c.self.view_is) c.args.place c.row_at-row.result c.row_at-row.ensures
    c.if-row-eq0.false
