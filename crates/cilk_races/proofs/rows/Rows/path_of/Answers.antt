use Rattle.std.proofs.Common.{◌≡◌, ap, sym, ◌∙◌}
use Rattle.cilk_races.proofs.Gauges.{if-ok}
use Rattle.cilk_races.specs.Kept.{path_in}
use Rattle.cilk_races.specs.Ways.{lines_of}
use Rattle.cilk_races.proofs.Asked.{path-view}
use Rattle.cilk_races.proofs.rows.Rows.path_of.Goals as goal

pub returns : goal.returns
returns c =
    let path = path-view c.as_slice.result.now c.args.self.now (ap lines_of c.as_slice.ensures.value ∙ c.self.view_is) c.args.place in
    if-ok _ (λ numbers. numbers.items ≡ path_in c.args.self.now c.args.place) (λ numbers told. told ∙ sym path) c.path_of.result c.path_of.ensures
