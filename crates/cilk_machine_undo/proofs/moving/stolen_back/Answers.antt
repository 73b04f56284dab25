use Rattle.std.proofs.Common.{sym, ◌∙◌}
use Rattle.cilk_machine_undo.specs.Words.{machine_in}
use Rattle.cilk_machine_undo.proofs.HandsTaken.{given-again, pushed-up}
use Rattle.cilk_machine_undo.proofs.moving.stolen_back.Goals as goal

pub returns-in-Ok-clause-ok : goal.returns-in-Ok-clause-ok
returns-in-Ok-clause-ok c =
    let m = machine_in c.args.parts.now in
    let hands = pushed-up m.places c.args.worker c.requires.pops.worker c.args.victim c.in-Some.frame c.take.new.self c.push_top.new.self
    c.requires.victim c.requires.other (sym c.take.ensures.value ∙ c.in-Some.is) c.take.ensures.rest c.in-Ok.ensures.ok in
    λ j. record { outside = m.outside; nodes = m.nodes; places = hands j }

pub returns-in-Err-clause-same : goal.returns-in-Err-clause-same
returns-in-Err-clause-same c =
    let m = machine_in c.args.parts.now in
    let hands = given-again m.places c.args.worker c.requires.pops.worker c.in-Some.frame c.in-Err.frame c.take.new.self c.push_top.new.self c.give.new.self
    (sym c.take.ensures.value ∙ c.in-Some.is) c.take.ensures.rest c.in-Err.ensures.err c.in-Err.ensures.back c.give.ensures in
    λ j. record { outside = m.outside; nodes = m.nodes; places = hands j }
