use Rattle.std.proofs.Common.{sym, subst, ap, ◌∙◌, ◌++◌, ◌∷◌, []}
use Rattle.cilk_machine.specs.spawn.Nodes.{path_at}
use Rattle.cilk_machine.specs.plans.PartWords.{event_by}
use Rattle.cilk_log.specs.choices.declared.act.Act.TheVariants.{Step}
use Rattle.cilk_log.specs.choices.declared.choice.Choice.{Choice}
use Rattle.cilk_run_locked.specs.Histories.{IsLedBy}
use Rattle.cilk_run_locked.proofs.LedOn.{led-on}
use Rattle.cilk_run_locked.proofs.locked.Locked.settle_taken_down.Goals as goal

pub invariant_of-self-2 : goal.invariant_of-self-2
invariant_of-self-2 c =
    let choice : Choice = record { worker = c.args.worker; act = Step } in
    let m = c.self.inside.machine in
    let n = c.settle_taken_down.new.self in
    let items = c.push_reserved.ensures.items ∙ ap (λ xs. xs ++ choice ∷ []) c.reserve.ensures.items in
    subst (λ xs. IsLedBy n xs) (sym items)
    (led-on c.self.inside.history.items m n choice (event_by (path_at m.machine.nodes) (path_at n.machine.nodes) c.in_ok-did.did) c.in_ok-did.ensures.made
    c.self.invariant)
