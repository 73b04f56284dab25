use Rattle.std.proofs.Common.{List, Some, sym, ap, ◌∙◌}
use Rattle.cilk_frame.specs.model.Hands.{above_bottom}
use Rattle.cilk_spawn.specs.Nodes.{Node, node_at, with_waiting}
use Rattle.cilk_spawn.specs.Records.{nodes_of}
use Rattle.cilk_spawn.specs.Undone.{given_back}
use Rattle.cilk_spawn.proofs.Undone.{alike_then, kept_unsent}
use Rattle.cilk_spawn.proofs.tree.Tree.unsend.Goals as goal

pub invariant_of-self : goal.invariant_of-self
invariant_of-self c =
    let ns = nodes_of c.self.inside.records.items in
    let p = c.args.parent in
    kept_unsent _ _ _ _ c.self.invariant c.self.view_is c.take_newest.ensures.beside p c.args.child c.requires.parent c.requires.child c.requires.tree
    (c.take_newest.ensures.nodes
    ∙ ap (given_back (with_waiting ns p (above_bottom (node_at ns p).waiting)) c.args.child) (sym c.in-None.is ∙ c.take_newest.ensures.result))

pub invariant_of-self-in-Some : goal.invariant_of-self-in-Some
invariant_of-self-in-Some c =
    let ns = nodes_of c.self.inside.records.items in
    let p = c.args.parent in
    let k = c.args.child in
    kept_unsent _ _ _ _ c.self.invariant c.self.view_is (alike_then _ _ _ c.take_newest.ensures.beside c.give_receiver.ensures.beside) p k
    c.requires.parent c.requires.child c.requires.tree
    (c.give_receiver.ensures.nodes
    ∙ ap (λ (ms : List Node). given_back ms k (Some c.in-Some.delivery)) c.take_newest.ensures.nodes
    ∙ ap (given_back (with_waiting ns p (above_bottom (node_at ns p).waiting)) k) (sym c.in-Some.is ∙ c.take_newest.ensures.result))
