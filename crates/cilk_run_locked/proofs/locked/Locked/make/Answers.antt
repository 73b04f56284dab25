use Rattle.std.proofs.Common.{sym, subst, ap, ◌∙◌, ◌++◌, ◌∷◌, []}
use Rattle.cilk_log.specs.choices.Words.{event_of}
use Rattle.cilk_run_locked.specs.Histories.{IsLedBy}
use Rattle.cilk_run_locked.proofs.LedOn.{led-on}
use Rattle.cilk_run_locked.proofs.locked.Locked.make.Goals as goal

pub invariant_of-self-2 : goal.invariant_of-self-2
invariant_of-self-2 c =
    let items = c.push_reserved.ensures.items ∙ ap (λ xs. xs ++ c.args.choice ∷ []) c.reserve.ensures.items in
    subst (λ xs. IsLedBy c.make.new.self xs) (sym items)
    (led-on c.self.inside.history.items c.self.inside.machine c.make.new.self c.args.choice (event_of c.in_ok-event.event)
    c.in_ok-event.ensures.made c.self.invariant)
