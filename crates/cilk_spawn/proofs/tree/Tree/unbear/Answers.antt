use Rattle.std.proofs.Common.{◌∙◌, sym, ap, subst}
use Rattle.cilk_spawn.specs.declared.fate.Fate.TheVariants.{Returned}
use Rattle.cilk_spawn.specs.Nodes.{IsTree}
use Rattle.cilk_spawn.specs.Dropped.{unborn}
use Rattle.cilk_spawn.proofs.Unborn.{unborn_ended}
use Rattle.cilk_spawn.proofs.tree.Tree.unbear.Goals as goal

pub drop_last-requires-clause-tree : goal.drop_last-requires-clause-tree
drop_last-requires-clause-tree c =
    subst IsTree (sym (ap (unborn c.args.parent) c.end.ensures ∙ unborn_ended c.args.self.now.nodes c.args.id c.args.parent Returned c.requires.newest
    c.requires.above))
    c.requires.tree

pub returns : goal.returns
returns c =
    c.drop_last.ensures ∙ ap (unborn c.args.parent) c.end.ensures
    ∙ unborn_ended c.args.self.now.nodes c.args.id c.args.parent Returned c.requires.newest c.requires.above
