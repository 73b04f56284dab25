use Rattle.std.proofs.Common.{◌<◌, length, sym, subst}
use Rattle.cilk_load.proofs.Shown.{popped, present}
use Rattle.cilk_load.proofs.symbol_table.SymbolTable.forget_one.Goals as goal

pub invariant_of-self : goal.invariant_of-self
invariant_of-self c =
    let own = subst (λ s. 0 < length s.innermost) (sym c.self.view_is) c.requires in
    popped c.self.inside.nearest c.self.inside.entries.items c.pop.new.self.items c.self.inside.innermost c.in-Some.entry c.self.invariant
    c.in-Some.ensures.items c.remove.new.self c.as_str-text.result.now _ c.as_str-text.ensures c.in-None.is own c.remove.ensures.updates

pub invariant_of-self-in_ok-insert-in-Some-hidden :
    goal.invariant_of-self-in_ok-insert-in-Some-hidden
invariant_of-self-in_ok-insert-in-Some-hidden c =
    let own = subst (λ s. 0 < length s.innermost) (sym c.self.view_is) c.requires in
    popped c.self.inside.nearest c.self.inside.entries.items c.pop.new.self.items c.self.inside.innermost c.in-Some.entry c.self.invariant
    c.in-Some.ensures.items c.insert.new.self c.as_str-text.result.now _ c.as_str-text.ensures c.in-Some-hidden.is own
    c.in_ok-insert-in-Some-hidden.ensures.updates

pub invariant_of-self-in_err-insert-in-Some-hidden :
    goal.invariant_of-self-in_err-insert-in-Some-hidden
invariant_of-self-in_err-insert-in-Some-hidden c =
    let none = c.in_err-insert-in-Some-hidden.ensures.absent in
    absurd (present c.self.inside.nearest c.self.inside.entries.items c.pop.new.self.items c.self.inside.innermost c.in-Some.entry c.self.invariant
    c.in-Some.ensures.items (rw c.as_str-text.ensures at none))
