use Rattle.std.proofs.Common.{◌≡◌, ◌≤◌, drop}
use Rattle.cilk_load.proofs.symbol_table.SymbolTable.forget.Given as goal

abbrev pub invariant-loop : goal.invariant-loop
invariant-loop l =
    (l.self.innermost ≡ drop l.counter l.fn.self.innermost) × (l.self.outer ≡ l.fn.self.outer) × (l.counter ≤ l.count)
