use Rattle.cilk_spawn.proofs.Undone.{kept_unmarked}
use Rattle.cilk_spawn.proofs.tree.Tree.unmark.Goals as goal

pub invariant_of-self : goal.invariant_of-self
invariant_of-self c =
    kept_unmarked _ _ _ _ c.self.invariant c.self.view_is c.unmark.ensures.beside c.args.ids.now c.requires.there c.requires.tree c.unmark.ensures.nodes
