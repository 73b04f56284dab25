use Rattle.std.proofs.Common.{sym, ◌∙◌, ◌-◌}
use Rattle.cilk_log_replay.specs.machine.model.Path.{same_path}
use Rattle.cilk_races.proofs.Upwards.{same-off, same-on}
use Rattle.cilk_races.specs.Ways.{path_up}
use Rattle.cilk_races.proofs.ways.is_same_way.Goals as goal

pub returns-then-row-beside : goal.returns-then-row-beside
returns-then-row-beside c =
    let row = c.row_at-row.ensures in
    let beside = c.row_at-beside.ensures in
    sym (same-off c.args.rows.now c.args.rows.now c.loop-left.left c.loop-left.first c.loop-left.second c.loop-left-test.true
    (λ same. c.if-row-beside.true ((λ j. (row j).ordinal) ∙ same ∙ (λ j. (sym beside j).ordinal))))
    ∙ c.loop-left.invariant

pub loop-left-preserved : goal.loop-left-preserved
loop-left-preserved c =
    let row = c.row_at-row.ensures in
    let beside = c.row_at-beside.ensures in
    (λ j. same_path (path_up c.args.rows.now (c.loop-left.left - 1) (row j).parent) (path_up c.args.rows.now (c.loop-left.left - 1) (beside j).parent))
    ∙ sym (same-on c.args.rows.now c.args.rows.now c.loop-left.left c.loop-left.first c.loop-left.second c.loop-left-test.true
    ((λ j. (sym row j).ordinal) ∙ c.if-row-beside.false ∙ (λ j. (beside j).ordinal)))
    ∙ c.loop-left.invariant
