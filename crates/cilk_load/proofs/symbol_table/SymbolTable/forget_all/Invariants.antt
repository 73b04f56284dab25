use Rattle.std.proofs.Common.{◌≡◌, ◌+◌, ◌≤◌, length}
use Rattle.cilk_load.proofs.symbol_table.SymbolTable.forget_all.Given as goal

abbrev pub invariant-loop : goal.invariant-loop
invariant-loop l =
    (length l.self.innermost + l.counter ≡ l.end) × (l.self.outer ≡ l.fn.self.outer) × (l.counter ≤ l.end)
