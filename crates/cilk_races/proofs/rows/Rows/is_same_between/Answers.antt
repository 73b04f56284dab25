use Rattle.std.proofs.Common.{ap, sym, ◌∙◌}
use Rattle.cilk_log_replay.specs.machine.model.Path.{same_path}
use Rattle.cilk_races.specs.Ways.{lines_of}
use Rattle.cilk_races.proofs.Asked.{path-view}
use Rattle.cilk_races.proofs.rows.Rows.is_same_between.Goals as goal

pub returns : goal.returns
returns c =
    let path = path-view c.as_slice.result.now c.args.self.now (ap lines_of c.as_slice.ensures.value ∙ c.self.view_is) c.args.one in
    let other = path-view c.as_slice-2.result.now c.args.others.now (ap lines_of c.as_slice-2.ensures.value ∙ c.others.view_is) c.args.other in
    c.is_same_between.ensures ∙ (λ j. same_path (sym path j) (sym other j))
