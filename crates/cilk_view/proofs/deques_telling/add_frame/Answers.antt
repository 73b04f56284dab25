use Rattle.std.proofs.Common.{append-nil, ap, ◌∙◌, ◌++◌}
use Rattle.cilk_machine_agree.specs.model.Path.{path_text}
use Rattle.cilk_machine_agree.specs.spawn.Nodes.{path_at}
use Rattle.cilk_view.proofs.Tellings.{link_within, named_is}
use Rattle.cilk_view.proofs.deques_telling.add_frame.Goals as goal

pub add_name-requires : goal.add_name-requires
add_name-requires c = link_within c.args.shown.now.tree.now.nodes c.args.links.now c.args.id c.requires.links c.requires.there

pub returns : goal.returns
returns c =
    let text = path_text (path_at c.args.shown.now.tree.now.nodes c.args.id) in
    named_is c.args.shown.now.tree.now.nodes c.args.links.now c.add_name.result c.args.entries.now.items c.add_name.new.entries.items c.args.id _ _
    c.requires.links
    (ap (λ t. text ++ t) c.new.ensures.bytes ∙ append-nil text) c.add_name.ensures
