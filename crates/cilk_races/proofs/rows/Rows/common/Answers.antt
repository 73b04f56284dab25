use Rattle.std.proofs.Common.{ap, sym, ◌∙◌}
use Rattle.cilk_races.specs.Related.{common}
use Rattle.cilk_races.specs.Ways.{lines_of}
use Rattle.cilk_races.proofs.Asked.{path-view}
use Rattle.cilk_races.proofs.rows.Rows.common.Goals as goal

pub returns : goal.returns
returns c =
    let path = path-view c.as_slice.result.now c.args.self.now (ap lines_of c.as_slice.ensures.value ∙ c.self.view_is) in
    c.common.ensures ∙ (λ j. common (sym (path c.args.one) j) (sym (path c.args.other) j))
