use Rattle.std.proofs.Common.{ap, sym, subst, ◌∙◌}
use Rattle.cilk_races.specs.Ways.{AreKin, lines_of}
use Rattle.cilk_races.proofs.Asked.{hash-view}
use Rattle.cilk_races.proofs.rows.Rows.hash.Goals as goal

pub returns : goal.returns
returns c =
    hash-view c.as_slice.result.now c.args.self.now
    (ap lines_of c.as_slice.ensures.value ∙ c.self.view_is) c.args.place c.row_at.result c.row_at.ensures
    (subst AreKin (sym c.as_slice.ensures.value) c.self.invariant)
