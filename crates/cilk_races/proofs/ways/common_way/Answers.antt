use Rattle.std.proofs.Common.{ap, sym, ◌∙◌, ◌-◌, ◌==◌, if◌then◌else◌}
use Rattle.cilk_races.proofs.Upwards.{path-size, shared-first, shared-step, shared_by}
use Rattle.cilk_races.specs.Ways.{path_up}
use Rattle.cilk_races.proofs.ways.common_way.Goals as goal

pub loop-left-init : goal.loop-left-init
loop-left-init c =
    shared-first (path_up c.args.rows.now c.args.depth c.args.one) (path_up c.args.rows.now c.args.depth c.args.other) c.args.depth
    (path-size c.args.rows.now c.args.depth c.args.one)

pub loop-left-preserved : goal.loop-left-preserved
loop-left-preserved c =
    let rows = c.args.rows.now in
    let row = c.row_at-row.ensures in
    let beside = c.row_at-beside.ensures in
    ap (shared_by (path_up rows (c.loop-left.left - 1) c.row_at-row.result.parent) (path_up rows (c.loop-left.left - 1) c.row_at-beside.result.parent))
    c.shared_above-shared.ensures
    ∙ (λ j. shared_by (path_up rows (c.loop-left.left - 1) (row j).parent) (path_up rows (c.loop-left.left - 1) (beside j).parent)
    (if (row j).ordinal == (beside j).ordinal then c.loop-left.shared else c.loop-left.left - 1))
    ∙ sym (shared-step rows c.loop-left.left c.loop-left.first c.loop-left.second c.loop-left.shared c.loop-left-test.true) ∙ c.loop-left.invariant
