use Rattle.std.proofs.Common.{◌≡◌, ℕ, length, subst, arith}
use Rattle.cilk_spawn.proofs.Copies.{CopiedTo, copied_nodes}
use Rattle.cilk_spawn.proofs.tree.imaging.copies.Goals as goal

pub returns-clause-nodes : goal.returns-clause-nodes
returns-clause-nodes c =
    let rs = c.args.records.now in
    let made = c.loop-record.made.items in
    let all : c.loop-record.record-index ≡ length rs = omega arith in
    copied_nodes rs made (subst (λ (n : ℕ). CopiedTo n rs made) all c.loop-record.invariant)
