use Rattle.std.proofs.Common.{refl}
use Rattle.std.specs.Prelude.{codes}
use Rattle.cilk_machine_agree.specs.model.Path.{path_text}
use Rattle.cilk_machine_agree.specs.spawn.Nodes.{path_at}
use Rattle.cilk_view.proofs.Tellings.{tells_then}
use Rattle.cilk_view.proofs.deques_telling.add_spaced.Goals as goal

pub returns : goal.returns
returns c =
    tells_then c.args.links.now c.add_frame.result c.args.entries.now.items c.add_words.new.entries.items c.add_frame.new.entries.items (codes " ")
    (path_text (path_at c.args.shown.now.tree.now.nodes c.args.id)) _ refl (c.in_ok-add_words.ensures c.args.links.now) c.add_frame.ensures
