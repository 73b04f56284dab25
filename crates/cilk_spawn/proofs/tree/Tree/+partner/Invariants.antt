use Rattle.cilk_spawn.proofs.tree.Tree.+partner.Given as goal

abbrev pub decreases-partner : goal.decreases-partner
decreases-partner l = l.id
