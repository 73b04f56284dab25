use Rattle.std.proofs.Common.{ap, ◌∙◌}
use Rattle.cilk_races.specs.Ways.{lines_of}
use Rattle.cilk_races.proofs.Asked.{syncs-view}
use Rattle.cilk_races.proofs.rows.Rows.syncs.Goals as goal

pub returns : goal.returns
returns c =
    syncs-view c.as_slice.result.now c.args.self.now
    (ap lines_of c.as_slice.ensures.value ∙ c.self.view_is) c.args.place c.row_at.result c.row_at.ensures
