use Rattle.std.proofs.Common.{ap, ◌∙◌, ◌-◌, min}
use Rattle.cilk_races.proofs.Upwards.{common-lifted}
use Rattle.cilk_races.specs.Related.{common}
use Rattle.cilk_races.specs.Ways.{above, path_up}
use Rattle.cilk_races.proofs.ways.common.Goals as goal

pub returns : goal.returns
returns c =
    let rows = c.args.rows.now in
    let first = c.row_at-first.ensures in
    let second = c.row_at-second.ensures in
    c.common_way.ensures
    ∙ (λ j. common (path_up rows (c.min-depth.ensures j) (c.above.ensures j)) (path_up rows (c.min-depth.ensures j) (c.above-2.ensures j)))
    ∙ ap (λ d. common (path_up rows (min c.row_at-first.result.depth c.row_at-second.result.depth) (above rows (c.row_at-first.result.depth - d) c.args.one))
    (path_up rows (min c.row_at-first.result.depth c.row_at-second.result.depth) (above rows (c.row_at-second.result.depth - d) c.args.other)))
    c.min-depth.ensures
    ∙ common-lifted rows c.row_at-first.result.depth c.row_at-second.result.depth c.args.one c.args.other
    ∙ (λ j. common (path_up rows (first j).depth c.args.one) (path_up rows (second j).depth c.args.other))
