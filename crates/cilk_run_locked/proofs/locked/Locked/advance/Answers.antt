use Rattle.std.proofs.Common.{sym, subst, ap, ◌∙◌, ◌++◌, ◌∷◌, []}
use Rattle.cilk_machine.specs.spawn.Nodes.{path_at}
use Rattle.cilk_machine.specs.plans.PartWords.{event_by}
use Rattle.cilk_run_locked.specs.Histories.{IsLedBy}
use Rattle.cilk_run_locked.proofs.LedOn.{led-on}
use Rattle.cilk_run_locked.proofs.locked.Locked.advance.Goals as goal

pub invariant_of-self-2 : goal.invariant_of-self-2
invariant_of-self-2 c =
    let m = c.self.inside.machine in
    let n = c.advance.new.self in
    let items = c.push_reserved.ensures.items ∙ ap (λ xs. xs ++ c.args.choice ∷ []) c.reserve.ensures.items in
    subst (λ xs. IsLedBy n xs) (sym items)
    (led-on c.self.inside.history.items m n c.args.choice (event_by (path_at m.machine.nodes) (path_at n.machine.nodes) c.in_ok-did.did)
    c.in_ok-did.ensures.made c.self.invariant)
