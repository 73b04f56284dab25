use Rattle.std.proofs.Common.{◌∙◌}
use Rattle.cilk_parse.proofs.NameClasses.{is_class}
use Rattle.cilk_parse.proofs.token.is_class.Goals as goal

pub returns : goal.returns
returns c = c.eq.ensures ∙ rw c.name_class.ensures (is_class c.args.wanted _)
