use Rattle.std.proofs.Common.{sym, ◌∙◌}
use Rattle.cilk_machine_undo.proofs.ending.unsend.Goals as goal

pub unsend-requires-clause-child : goal.unsend-requires-clause-child
unsend-requires-clause-child c = (c.requires.unsends c.if-sent.true c.in-Some.parent (sym c.parent.ensures ∙ c.in-Some.is)).child
