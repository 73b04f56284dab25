use Rattle.std.proofs.Common.{ap, ◌∙◌}
use Rattle.std.specs.Prelude.{codes, option_map}
use Rattle.cilk_machine_agree.specs.Agrees.{name_in}
use Rattle.cilk_machine_agree.specs.model.Path.{path_text}
use Rattle.cilk_machine_agree.specs.model.Workers.{hand_text}
use Rattle.cilk_machine_agree.specs.spawn.Nodes.{path_at}
use Rattle.cilk_view.proofs.Tellings.{alone_is}
use Rattle.cilk_view.proofs.deques_telling.add_hand.Goals as goal

pub returns-in-None : goal.returns-in-None
returns-in-None c =
    alone_is c.args.links.now c.add_words.result c.args.entries.now.items c.add_words.new.entries.items (codes "-") _
    (ap (λ o. hand_text (option_map (name_in c.args.shown.now.tree.now.nodes) o)) c.in-None.ensures) (c.add_words.ensures c.args.links.now)

pub returns-in-Some : goal.returns-in-Some
returns-in-Some c =
    let ns = c.args.shown.now.tree.now.nodes in
    alone_is c.args.links.now c.add_frame.result c.args.entries.now.items c.add_frame.new.entries.items (path_text (path_at ns c.id.result)) _
    (ap (λ k. path_text (path_at ns k)) c.id.ensures ∙ ap (λ o. hand_text (option_map (name_in ns) o)) c.in-Some.ensures) c.add_frame.ensures
