use Rattle.std.proofs.Common.{ap, ◌∙◌, [], ◌++◌}
use Rattle.std.specs.Prelude.{codes}
use Rattle.cilk_machine_agree.specs.model.Path.{path_text}
use Rattle.cilk_machine_agree.specs.spawn.Nodes.{path_at}
use Rattle.cilk_view.specs.WhereLines.{queued_text}
use Rattle.cilk_view.proofs.Entries.{none_gained, gained_is}
use Rattle.cilk_view.proofs.Tellings.{alone_is}
use Rattle.cilk_view.proofs.deques_telling.add_queued.Goals as goal

pub returns-in-None : goal.returns-in-None
returns-in-None c =
    gained_is c.args.links.now c.args.entries.now.items c.args.entries.now.items [] _ (none_gained c.args.links.now c.args.entries.now.items)
    (ap (queued_text c.args.shown.now.tree.now.nodes) c.in-None.ensures)

pub returns-in-Some : goal.returns-in-Some
returns-in-Some c =
    let ns = c.args.shown.now.tree.now.nodes in
    alone_is c.args.links.now c.add_spaced.result c.args.entries.now.items c.add_spaced.new.entries.items (codes " " ++ path_text (path_at ns c.id.result)) _
    (ap (λ k. codes " " ++ path_text (path_at ns k)) c.id.ensures ∙ ap (queued_text ns) c.in-Some.ensures) c.add_spaced.ensures
