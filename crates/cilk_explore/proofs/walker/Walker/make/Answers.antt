use Rattle.std.proofs.Common.{◌++◌, ◌∷◌, [], map, sym, ap, ◌∙◌, subst}
use Rattle.cilk_machine.specs.labelled.Bodies.{label}
use Rattle.cilk_machine.specs.model.Run.{after}
use Rattle.cilk_machine.specs.sched.Words.{choice_of}
use Rattle.cilk_machine.specs.Made.{IsRefused}
use Rattle.cilk_explore.specs.Walks.{Walk}
use Rattle.cilk_explore.proofs.Strides.{walk-next, not-possible, reason-is}
use Rattle.cilk_explore.proofs.walker.Walker.make.Goals as goal

pub invariant_of-self-in-Ok-advance : goal.invariant_of-self-in-Ok-advance
invariant_of-self-in-Ok-advance c =
    walk-next c.self.inside.machine c.advance.new.self c.self.inside.log.items c.push_reserved.new.self.items c.args.choice _ c.self.invariant
    c.in-Ok-advance.ensures.made (c.push_reserved.ensures.items ∙ ap (λ xs. xs ++ c.args.choice ∷ []) c.reserve.ensures.items)

pub returns-else-is_memory-clause-impossible : goal.returns-else-is_memory-clause-impossible
returns-else-is_memory-clause-impossible c = λ e.
    let known = reason-is c.in-Err-advance.why (c.is_memory.ensures c.if-is_memory.false) in
    ap (λ (walk : Walk). after (label walk.program) walk.workers (walk.log ++ choice_of c.args.choice ∷ [])) (sym c.self.view_is)
    ∙ not-possible c.self.inside.machine (map choice_of c.self.inside.log.items) c.self.invariant (choice_of c.args.choice) known.0
    (subst (IsRefused c.self.inside.machine (choice_of c.args.choice)) known.1 c.in-Err-advance.ensures.refused)
