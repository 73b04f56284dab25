use Rattle.cilk_machine_plan.specs.frame.Frames.{stood}
use Rattle.cilk_machine_undo.specs.Words.{machine_in}
use Rattle.cilk_machine_undo.proofs.HandsTaken.{none-came, parent-came}
use Rattle.cilk_machine_undo.proofs.moving.spawned_back.Goals as goal

pub returns-in-None : goal.returns-in-None
returns-in-None c =
    let m = machine_in c.args.parts.now in
    let s = c.args.stood in
    let hands = none-came m.places s.worker c.requires.worker c.take.new.self c.pop_bottom.new.self c.pop_bottom.result c.take.ensures.rest
    c.pop_bottom.ensures.value c.pop_bottom.ensures.rest (stood s.node s.boundary) c.in-None.is in
    λ j. record { outside = m.outside; nodes = c.unbear.ensures j; places = hands j }

pub returns-in-Some-pop_bottom : goal.returns-in-Some-pop_bottom
returns-in-Some-pop_bottom c =
    let m = machine_in c.args.parts.now in
    let s = c.args.stood in
    let hands = parent-came m.places s.worker c.requires.worker c.take.new.self c.pop_bottom.new.self c.pop_bottom.result c.take.ensures.rest
    c.pop_bottom.ensures.value c.pop_bottom.ensures.rest (stood s.node s.boundary) c.in-Some-pop_bottom.parent c.stand.new.self c.give.new.self
    c.in-Some-pop_bottom.is c.stand.ensures c.give.ensures in
    λ j. record { outside = m.outside; nodes = c.unbear.ensures j; places = hands j }
