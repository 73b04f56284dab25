use Rattle.cilk_machine_agree.specs.model.Hands.{worker_at}
use Rattle.cilk_view.proofs.Tellings.{line_gained}
use Rattle.cilk_view.proofs.deques_telling.add_place.Goals as goal

pub returns : goal.returns
returns c =
    let ns = c.args.shown.now.tree.now.nodes in
    line_gained c.args.links.now c.end_line.result ns c.args.worker (worker_at c.args.shown.now.hands.now c.args.worker) c.args.entries.now.items
    c.add_text.new.entries.items c.add_hand.new.entries.items c.add_words.new.entries.items c.add_deque.new.entries.items c.end_line.new.entries.items _
    c.in_ok-head.ensures
    (c.in_ok-add_text.ensures c.args.links.now) c.in_ok-add_hand.ensures (c.in_ok-add_words.ensures c.args.links.now) c.in_ok-add_deque.ensures
    (c.end_line.ensures c.args.links.now)
