use Rattle.std.proofs.Common.{◌∙◌}
use Rattle.cilk_load.proofs.VarLaws.{slot-there, slot-past}
use Rattle.cilk_load.proofs.numbering.bound_var.Goals as goal

pub returns-in-Some : goal.returns-in-Some
returns-in-Some c =
    λ i. record { slot = slot-there c.args.vars.now c.args.n c.in-Some.var.now c.in-Some.ensures.lookup.1 c.in-Some.ensures.lookup.0 i; number = c.args.n }

pub returns-in-None : goal.returns-in-None
returns-in-None c =
    λ i. record { slot = (c.nowhere-slot.ensures ∙ slot-past c.args.vars.now c.args.n c.in-None.ensures.lookup.0) i; number = c.args.n }
