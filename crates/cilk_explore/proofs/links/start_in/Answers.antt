use Rattle.std.proofs.Common.{sym, ap, ◌∙◌, arith}
use Rattle.cilk_explore.specs.Links.{start_of}
use Rattle.cilk_explore.proofs.LinkLists.{start-first, start-read}
use Rattle.cilk_explore.proofs.links.start_in.Goals as goal

pub returns-then-number-eq0-clause-is : goal.returns-then-number-eq0-clause-is
returns-then-number-eq0-clause-is c = sym (ap (start_of 0 c.args.ends.now) c.if-number-eq0.true ∙ start-first c.args.ends.now)

pub returns-clause-is : goal.returns-clause-is
returns-clause-is c = start-read c.args.ends.now c.args.number (omega arith) c.requires
