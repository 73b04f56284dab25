use Rattle.std.proofs.Common.{◌∙◌}
use Rattle.cilk_spawn.proofs.Living.{remade-nodes, remade-kept}
use Rattle.cilk_spawn.proofs.Written.{nodes_are}
use Rattle.cilk_spawn.proofs.tree.Tree.remade.Goals as goal

pub invariant_of-result : goal.invariant_of-result
invariant_of-result c =
    remade-kept c.args.choice c.later.inside.records.items c.as_slice-2.result.now c.living.inside.records.items c.as_slice-4.result.now
    c.in_ok-records.records.items c.put_living.new.made.items c.living.inside.ids.items c.as_slice-3.result.now c.living.inside.count c.args.living.now
    c.args.later.now.nodes c.living.view_is (nodes_are _ c.later.inside.living.items c.args.later.now c.later.view_is) c.living.invariant
    c.as_slice-2.ensures.value c.as_slice-4.ensures.value c.as_slice-3.ensures.value c.in_ok-records.ensures c.in_ok-put_living.ensures
    c.in_ok-ids.ids.items (c.in_ok-ids.ensures.items ∙ c.as_slice.ensures.value) c.requires

pub returns : goal.returns
returns c =
    remade-nodes c.args.choice c.later.inside.records.items c.as_slice-2.result.now c.living.inside.records.items c.as_slice-4.result.now
    c.in_ok-records.records.items c.put_living.new.made.items c.living.inside.ids.items c.as_slice-3.result.now c.living.inside.count c.args.living.now
    c.args.later.now.nodes c.living.view_is (nodes_are _ c.later.inside.living.items c.args.later.now c.later.view_is) c.living.invariant
    c.as_slice-2.ensures.value c.as_slice-4.ensures.value c.as_slice-3.ensures.value c.in_ok-records.ensures c.in_ok-put_living.ensures
