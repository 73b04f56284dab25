use Rattle.std.proofs.Common.{◌<◌, ◌++◌, ◌∷◌, [], List, length, refl, ap, ◌∙◌, subst, arith, set, slice_index_or}
use Rattle.std.proofs.lemmas.Option.{slice_get_read}
use Rattle.cilk_machine.specs.model.Choice.{Choice}
use Rattle.cilk_machine.specs.sched.Words.{choice_of}
use Rattle.cilk_explore.specs.declared.node.Node.{Node}
use Rattle.cilk_explore.specs.Looking.{IsLongerBy}
use Rattle.cilk_explore.proofs.Logs.{logs-length, logs-put, grown-put, parents-put, longer-by}
use Rattle.cilk_explore.proofs.store.Store.put_behind.Goals as goal

pub index-old-requires : goal.index-old-requires
index-old-requires c =
    let size = ap length c.self.view_is in
    omega (arith, size, logs-length c.self.inside.nodes.items, c.requires, c.self.inside.nodes.ok.0)

pub index_mut-requires : goal.index_mut-requires
index_mut-requires c =
    let size = ap length c.self.view_is in
    omega (arith, size, logs-length c.self.inside.nodes.items, c.requires, c.self.inside.nodes.ok.0)

pub invariant_of-self : goal.invariant_of-self
invariant_of-self c =
    let nodes = c.self.inside.nodes.items in
    let node : Node = record { parent = c.args.parent; before = c.index-old.result.now.before; choice = c.args.choice; mixed = c.index-old.result.now.mixed } in
    let less = c.if-number-parent.false in (
      grown-put nodes c.args.number node c.self.invariant.0 (omega (arith, less)),
      parents-put c.self.inside.last_parent c.max-self-inside.result nodes c.args.number node c.self.invariant.1 c.max-self-inside.ensures,
    )

pub returns-clause-put : goal.returns-clause-put
returns-clause-put c = λ e.
    let nodes = c.self.inside.nodes.items in
    let size = ap length c.self.view_is in
    let node : Node = record { parent = c.args.parent; before = c.index-old.result.now.before; choice = c.args.choice; mixed = c.index-old.result.now.mixed } in
    let far = c.if-number-self.false in
    let less = c.if-number-parent.false in
    let within : c.args.number < length nodes = omega (arith, size, logs-length nodes, c.requires) in
    logs-put nodes c.args.number c.self.inside.last_parent node c.self.invariant.1 (omega (arith, far)) within (omega (arith, less))
    ∙ ap (λ (logs : List (List Choice)). set logs c.args.number (slice_index_or logs c.args.parent [] ++ choice_of c.args.choice ∷ [])) c.self.view_is

pub returns-clause-old : goal.returns-clause-old
returns-clause-old c =
    let nodes = c.self.inside.nodes.items in
    let size = ap length c.self.view_is in
    let less = c.if-number-parent.false in
    let within : c.args.number < length nodes = omega (arith, size, logs-length nodes, c.requires) in
    let node = slice_get_read nodes (length nodes) c.args.number _ refl within c.index-old.ensures in
    subst (λ (logs : List (List Choice)). IsLongerBy logs c.args.number c.index-old.result.now.parent) c.self.view_is
    (longer-by nodes c.args.number _ c.self.invariant.0 node (omega (arith, less)))
