use Rattle.std.proofs.Common.{◌++◌, ◌∷◌, [], ◌-◌, ap, sym, ◌∙◌, reverse, List, ℕ}
use Rattle.std.proofs.lemmas.List.{append_assoc, reverse-append}
use Rattle.cilk_races.proofs.Upwards.{path-step}
use Rattle.cilk_races.specs.Ways.{path_up}
use Rattle.cilk_races.proofs.ways.path_of.Goals as goal

pub loop-left-preserved : goal.loop-left-preserved
loop-left-preserved c =
    let rows = c.args.rows.now in
    let row = c.row_at-row.ensures in
    let front = path_up rows (c.loop-left.left - 1) c.row_at-row.result.parent in
    ap (λ (r : List ℕ). front ++ reverse r) c.in_ok-push.ensures.items
    ∙ ap (λ (r : List ℕ). front ++ r) (reverse-append c.loop-left.numbers.items (c.row_at-row.result.ordinal ∷ []))
    ∙ sym (append_assoc front (c.row_at-row.result.ordinal ∷ []) (reverse c.loop-left.numbers.items))
    ∙ (λ j. (path_up rows (c.loop-left.left - 1) (row j).parent ++ (row j).ordinal ∷ []) ++ reverse c.loop-left.numbers.items)
    ∙ ap (λ (p : List ℕ). p ++ reverse c.loop-left.numbers.items) (sym (path-step rows c.loop-left.left c.loop-left.at c.loop-left-test.true))
    ∙ c.loop-left.invariant
