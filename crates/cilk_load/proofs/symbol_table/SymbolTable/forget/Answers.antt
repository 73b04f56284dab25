use Rattle.std.proofs.Common.{◌≡◌, ◌+◌, suc, drop, sym, ap, ◌∙◌, arith}
use Rattle.cilk_load.specs.Scope.{Scope}
use Rattle.cilk_load.proofs.Shown.{drop-next}
use Rattle.cilk_load.proofs.symbol_table.SymbolTable.forget.Goals as goal

pub loop-preserved : goal.loop-preserved
loop-preserved c =
    let one : suc c.loop.counter ≡ c.loop.counter + 1 = omega arith in (
      ap (λ (s : Scope). s.innermost) c.in_ok-forget_one.ensures
          ∙ ap (drop 1) c.loop.invariant.0
          ∙ sym (drop-next c.loop.counter c.args.self.now.innermost)
          ∙ ap (λ k. drop k c.args.self.now.innermost) one,
      ap (λ (s : Scope). s.outer) c.in_ok-forget_one.ensures ∙ c.loop.invariant.1,
      omega arith,
    )
