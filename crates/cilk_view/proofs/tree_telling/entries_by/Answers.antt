use Rattle.std.proofs.Common.{subst, sym}
use Rattle.cilk_view.specs.Kin.{KinSorted}
use Rattle.cilk_view.proofs.tree_telling.entries_by.Goals as goal

pub tree_entries-requires-clause-kin : goal.tree_entries-requires-clause-kin
tree_entries-requires-clause-kin c =
    subst (KinSorted c.args.shown.now.tree.now.nodes) (sym c.as_slice.ensures.value) (c.in_ok-kin.ensures c.args.shown.now.tree.now.nodes c.requires.links)
