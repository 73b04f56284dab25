use Rattle.std.proofs.Common.{◌≡◌, ap, ◌∙◌, arith}
use Rattle.std.proofs.lemmas.List.{get_or_default}
use Rattle.cilk_races.specs.Ways.{no_row, row_at}
use Rattle.cilk_races.proofs.Kin.{else-same, passed-view}
use Rattle.cilk_races.specs.Noted.{line_at, next, passed}
use Rattle.cilk_races.specs.declared.row.Row.{Row}
use Rattle.std.specs.Prelude.{◌<◌, length, slice_set}
use Rattle.cilk_races.proofs.rows.Rows.pass.Goals as goal

pub returns-then-place-len : goal.returns-then-place-len
returns-then-place-len c =
    let low : c.args.place < length c.self.inside.kept.items =
    let size = c.len.ensures in let inside = c.if-place-len.true in omega (arith, size, inside)
    in
    let row : c.index-row.result.now ≡ row_at c.self.inside.kept.items c.args.place =
    c.index-row.ensures ∙ get_or_default c.self.inside.kept.items c.args.place c.index-row.result.now no_row low
    in
    passed-view c.self.inside.kept.items c.args.self.now c.self.view_is c.self.invariant c.args.place low _
    ((λ j. record c.index-row.result.now { syncs = c.saturating_add-syncs.ensures j }) ∙ ap (λ (r : Row). record r { syncs = next r.syncs }) row)

pub returns-else-place-len : goal.returns-else-place-len
returns-else-place-len c =
    else-same c.self.inside.kept.items c.args.self.now (slice_set c.args.self.now c.args.place (passed (line_at c.args.self.now c.args.place))) c.args.place
    c.self.view_is (let size = c.len.ensures in let past = c.if-place-len.false in omega (arith, size, past))
