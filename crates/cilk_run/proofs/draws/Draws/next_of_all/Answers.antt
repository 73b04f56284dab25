use Rattle.cilk_run.proofs.Turns.{drawn-as}
use Rattle.cilk_run.proofs.draws.Draws.next_of_all.Goals as goal

pub returns-in-Ok-clause-drawn : goal.returns-in-Ok-clause-drawn
returns-in-Ok-clause-drawn c =
    drawn-as c.in-Ok.drawn c.args.machine.now
    (record { workers = c.self.inside.workers; last = c.self.inside.last; state = c.self.inside.generator }) c.args.self.now
    c.drawn_choice.new.generator c.in-Ok.ensures c.self.view_is
