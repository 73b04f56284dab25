use Rattle.cilk_load.specs.labelled.Bodies.{label}
use Rattle.cilk_view.proofs.Firsts.{one_more, none_more}
use Rattle.cilk_view.proofs.listing.add_action.Goals as goal

pub returns-in-None : goal.returns-in-None
returns-in-None c = λ m is has. none_more (label c.args.loaded.now) c.args.n m c.args.firsts.now is c.in-None.ensures.value has

pub returns-in_ok-insert-in-Some : goal.returns-in_ok-insert-in-Some
returns-in_ok-insert-in-Some c = λ m is has.
    one_more (label c.args.loaded.now) c.args.n m c.args.firsts.now c.insert.new.self c.in-Some.line is c.in-Some.ensures.value has
    c.in_ok-insert-in-Some.ensures.updates
