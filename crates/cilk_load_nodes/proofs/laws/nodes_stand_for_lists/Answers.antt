use Rattle.cilk_load_nodes.proofs.Heads.{heads-tell, no-head-tells, numbers-within, nodes-stand, successors-stand, entries-stand}
use Rattle.cilk_load_nodes.proofs.laws.nodes_stand_for_lists.Goals as goal

pub returns : goal.returns
returns c =
    record {
      heads = heads-tell;
      no_head = no-head-tells;
      within = numbers-within;
      nodes = nodes-stand;
      successors = successors-stand;
      entries =
          entries-stand;
    }
