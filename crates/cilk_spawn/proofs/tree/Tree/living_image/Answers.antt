use Rattle.std.proofs.Common.{◌∙◌, refl}
use Rattle.cilk_spawn.proofs.Living.{living-made, living-is}
use Rattle.cilk_spawn.proofs.Written.{nodes_are}
use Rattle.cilk_spawn.proofs.tree.Tree.living_image.Goals as goal

pub invariant_of-result : goal.invariant_of-result
invariant_of-result c =
    living-made c.self.inside.records.items c.as_slice-2.result.now c.in_ok-records.records.items c.self.inside.living.items c.as_slice-3.result.now
    c.in_ok-ids.ids.items c.self.invariant c.as_slice-2.ensures.value c.as_slice-3.ensures.value (c.in_ok-ids.ensures.items ∙ c.as_slice.ensures.value)
    c.in_ok-records.ensures

pub returns : goal.returns
returns c =
    living-is c.self.inside.records.items c.as_slice-2.result.now c.in_ok-records.records.items c.self.inside.living.items c.as_slice-3.result.now
    c.in_ok-ids.ids.items c.self.invariant c.as_slice-2.ensures.value c.as_slice-3.ensures.value (c.in_ok-ids.ensures.items ∙ c.as_slice.ensures.value)
    c.in_ok-records.ensures _ c.args.self.now.nodes
    (nodes_are _ c.self.inside.living.items c.args.self.now c.self.view_is) (c.len.ensures ∙ c.self.inside.records.ok.0) refl refl
