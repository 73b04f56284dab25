use Rattle.std.proofs.Common.{Some, None, ◌∙◌}
use Rattle.cilk_log_replay.specs.machine.nodes.model.Change.{leaves, is_sync}
use Rattle.cilk_races.specs.Acts.{goes_through, is_call}
use Rattle.cilk_races.specs.Nodes.{node_calls, node_goes_through, node_leaves, node_waits}
use Rattle.cilk_races.proofs.Natures.{told_by, same_calls, same_leaves, same_through, same_waits}
use Rattle.cilk_races.proofs.nature.nature_of.Goals as goal

pub returns-in-None-clause-calls : goal.returns-in-None-clause-calls
returns-in-None-clause-calls c = told_by node_calls is_call same_calls c.args.loaded.now c.args.n None c.in-None.ensures.value

pub returns-in-None-clause-leaves : goal.returns-in-None-clause-leaves
returns-in-None-clause-leaves c = told_by node_leaves leaves same_leaves c.args.loaded.now c.args.n None c.in-None.ensures.value

pub returns-in-None-clause-waits : goal.returns-in-None-clause-waits
returns-in-None-clause-waits c = told_by node_waits is_sync same_waits c.args.loaded.now c.args.n None c.in-None.ensures.value

pub returns-in-None-clause-goes_through : goal.returns-in-None-clause-goes_through
returns-in-None-clause-goes_through c = told_by node_goes_through goes_through same_through c.args.loaded.now c.args.n None c.in-None.ensures.value

pub returns-in-Some-clause-calls : goal.returns-in-Some-clause-calls
returns-in-Some-clause-calls c =
    c.nature_by.ensures.calls ∙ told_by node_calls is_call same_calls c.args.loaded.now c.args.n (Some c.in-Some.node.now) c.in-Some.ensures.value

pub returns-in-Some-clause-leaves : goal.returns-in-Some-clause-leaves
returns-in-Some-clause-leaves c =
    c.nature_by.ensures.leaves ∙ told_by node_leaves leaves same_leaves c.args.loaded.now c.args.n (Some c.in-Some.node.now) c.in-Some.ensures.value

pub returns-in-Some-clause-waits : goal.returns-in-Some-clause-waits
returns-in-Some-clause-waits c =
    c.nature_by.ensures.waits ∙ told_by node_waits is_sync same_waits c.args.loaded.now c.args.n (Some c.in-Some.node.now) c.in-Some.ensures.value

pub returns-in-Some-clause-goes_through : goal.returns-in-Some-clause-goes_through
returns-in-Some-clause-goes_through c =
    c.nature_by.ensures.goes_through
    ∙ told_by node_goes_through goes_through same_through c.args.loaded.now c.args.n (Some c.in-Some.node.now) c.in-Some.ensures.value
