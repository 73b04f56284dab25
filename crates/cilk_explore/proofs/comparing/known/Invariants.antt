use Rattle.std.proofs.Common.{◌≡◌, ◌<◌, suc, length}
use Rattle.std.specs.Prelude.{IfSome, option_map, unwrap_or}
use Rattle.cilk_explore.specs.Looking.{StandsAtLog}
use Rattle.cilk_explore.proofs.comparing.known.Given as goal

abbrev pub invariant-loop-at : goal.invariant-loop-at
invariant-loop-at l = record {
  within : IfSome l.at (λ k. k < length l.store);
  program : l.probe.walker.program ≡ l.initial.probe.walker.program;
  workers : l.probe.walker.workers ≡ l.initial.probe.walker.workers;
  stands : StandsAtLog l.store l.probe.number l.probe.walker;
}

abbrev pub decreases-loop-at : goal.decreases-loop-at
decreases-loop-at l = unwrap_or (option_map suc l.at) 0
