use Rattle.std.proofs.Common.{◌≤◌, length, drop, sym, ap, ◌∙◌, subst, List, ℕ}
use Rattle.cilk_debug_console.proofs.Known.{skipped}
use Rattle.cilk_debug_console.proofs.chunk.Chunk.skip.Goals as goal

pub returns : goal.returns
returns c =
    skipped c.self.inside.bytes.items c.self.inside.start c.self.inside.end c.args.count c.self.invariant.0
    (subst (λ (v : List ℕ). c.args.count ≤ length v) (sym c.self.view_is) c.requires) c.self.invariant.1
    ∙ ap (drop c.args.count) c.self.view_is
