use Rattle.std.proofs.Common.{◌++◌, ap}
use Rattle.cilk_machine_agree.specs.model.Path.{path_text}
use Rattle.cilk_machine_agree.specs.spawn.Nodes.{path_at}
use Rattle.cilk_view.proofs.Tellings.{link_within, named_is, state_put}
use Rattle.cilk_view.proofs.tree_telling.add_line.Goals as goal

pub add_name-requires : goal.add_name-requires
add_name-requires c = link_within c.args.shown.now.tree.now.nodes c.args.links.now c.args.id c.requires.links c.requires.there

pub returns : goal.returns
returns c =
    let ns = c.args.shown.now.tree.now.nodes in
    named_is ns c.args.links.now c.add_name.result c.args.entries.now.items c.add_name.new.entries.items c.args.id _ _ c.requires.links
    (ap (λ t. path_text (path_at ns c.args.id) ++ t)
    (state_put _ _ _ _ c.in_ok-text.ensures.ok c.in_ok-put_state.ensures c.in_ok-put.ensures)) c.add_name.ensures
