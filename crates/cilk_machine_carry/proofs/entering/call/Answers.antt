use Rattle.std.proofs.Common.{◌&&◌, nat_lt, ◌∙◌}
use Rattle.cilk_machine_plan.specs.frame.Frames.{depth}
use Rattle.cilk_machine_carry.proofs.Undone.{undone}
use Rattle.cilk_machine_carry.proofs.entering.call.Goals as goal

pub returns-in-Err-clause-back : goal.returns-in-Err-clause-back
returns-in-Err-clause-back c =
    let f = c.args.frame in
    undone f c.in-Err.frame c.resumed.result c.args.to c.node-n.result c.depth.result c.at_boundary-boundary.result (f.boundary && nat_lt 1 (depth f))
    (c.in-Err.ensures.back ∙ c.go_on.ensures) c.depth.ensures.value c.node-n.ensures c.at_boundary-boundary.ensures c.resumed.ensures
