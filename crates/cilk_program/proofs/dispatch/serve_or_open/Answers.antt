use Rattle.cilk_program_runs.proofs.Said.{no_trap}
use Rattle.cilk_program.proofs.dispatch.serve_or_open.Goals as goal

pub returns-in-Serve-clause-done : goal.returns-in-Serve-clause-done
returns-in-Serve-clause-done g c = rw c.in-Serve.is c.dap_text.ensures.only

pub returns-in-Serve-clause-told : goal.returns-in-Serve-clause-told
returns-in-Serve-clause-told g c = rw c.in-Serve.is c.dap_text.ensures.told

pub returns-in-Serve-clause-begun : goal.returns-in-Serve-clause-begun
returns-in-Serve-clause-begun g c = rw c.in-Serve.is (λ none. tt)

pub returns-in-Serve-clause-explained : goal.returns-in-Serve-clause-explained
returns-in-Serve-clause-explained g c = λ told. no_trap c.args.request.now.explain c.dap_text.result c.dap_text.ensures.only told

pub returns-in-Serve-clause-unanswered : goal.returns-in-Serve-clause-unanswered
returns-in-Serve-clause-unanswered g c = λ refused. absurd (c.dap_text.ensures.refused refused)
