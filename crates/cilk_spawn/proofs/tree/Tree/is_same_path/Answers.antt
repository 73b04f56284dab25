use Rattle.cilk_spawn.proofs.Compared.{roots_are_partners}
use Rattle.cilk_spawn.proofs.tree.Tree.is_same_path.Goals as goal

pub is_same_path_by-requires : goal.is_same_path_by-requires
is_same_path_by-requires c =
    roots_are_partners c.self.inside.records.items c.other.inside.records.items c.self.inside.living.items c.other.inside.living.items c.args.self.now
    c.args.other.now c.self.view_is c.other.view_is c.self.invariant c.other.invariant
    c.new.result c.new-2.result c.new.ensures c.new-2.ensures
