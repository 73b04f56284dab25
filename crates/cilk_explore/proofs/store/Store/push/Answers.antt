use Rattle.std.proofs.Common.{◌<◌, ◌++◌, ◌∷◌, [], List, length, ap, ◌∙◌, arith, slice_index_or}
use Rattle.cilk_machine.specs.model.Choice.{Choice}
use Rattle.cilk_machine.specs.sched.Words.{choice_of}
use Rattle.cilk_explore.specs.declared.node.Node.{Node}
use Rattle.cilk_explore.specs.Logs.{logs_of}
use Rattle.cilk_explore.proofs.Logs.{logs-length, logs-push, grown-more, parents-more}
use Rattle.cilk_explore.proofs.store.Store.push.Goals as goal

pub overflow_cast-above : goal.overflow_cast-above
overflow_cast-above c =
    let size = ap length c.self.view_is in
    omega (arith, size, logs-length c.self.inside.nodes.items, c.requires, c.self.inside.nodes.ok.0)

pub invariant_of-self-2 : goal.invariant_of-self-2
invariant_of-self-2 c =
    let size = ap length c.self.view_is in
    let less : c.args.parent < length c.self.inside.nodes.items = omega (arith, size, logs-length c.self.inside.nodes.items, c.requires) in
    let node : Node = record { parent = c.args.parent; before = c.unwrap_or-before.result; choice = c.args.choice; mixed = c.args.tag.mixed } in
    let is = c.push_reserved.ensures.items ∙ ap (λ (xs : List Node). xs ++ node ∷ []) c.reserve.ensures.items in (
      grown-more c.self.inside.nodes.items c.push_reserved.new.self.items node c.self.invariant.0 less is,
      parents-more c.self.inside.last_parent c.max-self-inside.result c.self.inside.nodes.items c.push_reserved.new.self.items node c.self.invariant.1
          c.max-self-inside.ensures is,
    )

pub returns-clause-more : goal.returns-clause-more
returns-clause-more c =
    let node : Node = record { parent = c.args.parent; before = c.unwrap_or-before.result; choice = c.args.choice; mixed = c.args.tag.mixed } in
    ap logs_of (c.push_reserved.ensures.items ∙ ap (λ (xs : List Node). xs ++ node ∷ []) c.reserve.ensures.items)
    ∙ logs-push c.self.inside.nodes.items node c.self.invariant.0.some
    ∙ ap (λ (logs : List (List Choice)). logs ++ (slice_index_or logs c.args.parent [] ++ choice_of c.args.choice ∷ []) ∷ []) c.self.view_is
