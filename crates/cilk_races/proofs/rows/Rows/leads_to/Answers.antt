use Rattle.std.proofs.Common.{◌+◌, ap, arith, ◌∙◌}
use Rattle.std.proofs.lemmas.Bool.{ne_eqb}
use Rattle.cilk_races.specs.Ways.{lines_of}
use Rattle.cilk_races.proofs.Asked.{leads-deep, leads-else, leads-view}
use Rattle.cilk_races.proofs.rows.Rows.leads_to.Goals as goal

pub overflow_add-at : goal.overflow_add-at
overflow_add-at c =
    let low =
    leads-deep c.as_slice-kept.result.now c.args.self.now
    (ap lines_of c.as_slice-kept.ensures.value ∙ c.self.view_is) c.args.place c.args.child c.args.at
    c.row_at-depth.result c.row_at-long.result c.row_at-depth.ensures c.row_at-long.ensures c.requires
    in
    let fits = c.row_at-depth.type_inv in
    omega (arith, low, fits)

pub overflow_sub-depth : goal.overflow_sub-depth
overflow_sub-depth c =
    let low =
    leads-deep c.as_slice-kept.result.now c.args.self.now
    (ap lines_of c.as_slice-kept.ensures.value ∙ c.self.view_is) c.args.place c.args.child c.args.at
    c.row_at-depth.result c.row_at-long.result c.row_at-depth.ensures c.row_at-long.ensures c.requires
    in
    let level = c.if-long-at.true in
    omega (arith, low, level)

pub returns-then-long-at : goal.returns-then-long-at
returns-then-long-at c =
    leads-view c.as_slice-kept.result.now c.args.self.now
    (ap lines_of c.as_slice-kept.ensures.value ∙ c.self.view_is) c.args.place c.args.child c.args.at
    c.row_at-depth.result c.row_at-long.result c.row_at-depth.ensures c.row_at-long.ensures c.requires c.above.result c.above.ensures c.if-long-at.true
    c.is_same_way.result c.is_same_way.ensures

pub returns-else-long-at : goal.returns-else-long-at
returns-else-long-at c =
    leads-else c.as_slice-kept.result.now c.args.self.now
    (ap lines_of c.as_slice-kept.ensures.value ∙ c.self.view_is) c.args.place c.args.child c.args.at
    c.row_at-depth.result c.row_at-long.result c.row_at-depth.ensures c.row_at-long.ensures c.requires c.if-long-at.false _
    (ne_eqb c.row_at-long.result.depth (c.args.at + 1) c.if-long-at.false)
