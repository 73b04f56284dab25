use Rattle.cilk_program.proofs.draw.draw_named.Goals as goal

pub returns-clause-done : goal.returns-clause-done
returns-clause-done g c = c.draw_text.ensures.done _ c.open-log.ensures

pub returns-clause-told : goal.returns-clause-told
returns-clause-told g c = c.draw_text.ensures.told _ c.open-log.ensures

pub returns-clause-begun : goal.returns-clause-begun
returns-clause-begun g c = c.draw_text.ensures.begun _ c.open-log.ensures
