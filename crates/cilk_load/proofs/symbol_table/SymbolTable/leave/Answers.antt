use Rattle.std.proofs.Common.{◌≤◌, length, ap, ◌∙◌, arith}
use Rattle.cilk_load.proofs.Shown.{length_outer, left_is}
use Rattle.cilk_load.proofs.symbol_table.SymbolTable.leave.Goals as goal

pub returns : goal.returns
returns c =
    let mark = c.self.inside.innermost in
    let es = c.self.inside.entries.items in
    let e = c.self.view_is ∙ c.in_ok-forget_all.ensures in
    let within : c.args.outer ≤ mark =
    omega (arith, c.requires, ap (λ s. length s.outer) e, length_outer mark es c.self.invariant.within)
    in
    left_is mark c.args.outer es c.args.self.now.outer c.self.invariant.within within e
