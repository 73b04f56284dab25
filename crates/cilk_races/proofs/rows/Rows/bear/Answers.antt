use Rattle.std.proofs.Common.{◌≡◌, ◌∙◌, arith}
use Rattle.std.specs.Prelude.{◌<◌, [], ◌∷◌, ◌++◌, length, slice_set}
use Rattle.std.proofs.lemmas.List.{get_or_default}
use Rattle.cilk_races.proofs.Kin.{else-same, made-kin, made-view}
use Rattle.cilk_races.specs.Noted.{bore, child_of, line_at}
use Rattle.cilk_races.specs.Ways.{no_row, row_at}
use Rattle.cilk_races.proofs.rows.Rows.bear.Goals as goal

pub invariant_of-self-then-place-len : goal.invariant_of-self-then-place-len
invariant_of-self-then-place-len c =
    let old = c.self.inside.kept.items in
    let low : c.args.place < length old = let size = c.len.ensures in let inside = c.if-place-len.true in omega (arith, size, inside) in
    let row : c.index-row.result.now ≡ row_at old c.args.place = c.index-row.ensures ∙ get_or_default old c.args.place c.index-row.result.now no_row low in
    made-kin old c.args.self.now c.self.view_is c.self.invariant c.args.place low c.index-row.result.now row c.saturating_add-children.result c.mixed.result
    c.saturating_add-children.ensures c.mixed.ensures c.push.new.self.items c.in_ok-push.ensures.items

pub returns-in_ok-push : goal.returns-in_ok-push
returns-in_ok-push c =
    let old = c.self.inside.kept.items in
    let low : c.args.place < length old = let size = c.len.ensures in let inside = c.if-place-len.true in omega (arith, size, inside) in
    let row : c.index-row.result.now ≡ row_at old c.args.place = c.index-row.ensures ∙ get_or_default old c.args.place c.index-row.result.now no_row low in
    made-view old c.args.self.now c.self.view_is c.self.invariant c.args.place low c.index-row.result.now row c.saturating_add-children.result c.mixed.result
    c.saturating_add-children.ensures c.mixed.ensures c.push.new.self.items c.in_ok-push.ensures.items

pub returns-else-place-len : goal.returns-else-place-len
returns-else-place-len c =
    let lines = c.args.self.now in
    else-same c.self.inside.kept.items lines (slice_set lines c.args.place (bore (line_at lines c.args.place)) ++ child_of (line_at lines c.args.place) ∷ [])
    c.args.place c.self.view_is (let size = c.len.ensures in let past = c.if-place-len.false in omega (arith, size, past))
