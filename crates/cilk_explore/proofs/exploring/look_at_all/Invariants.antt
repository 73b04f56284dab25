use Rattle.std.proofs.Common.{◌-◌}
use Rattle.cilk_explore.specs.Looking.{StandsAtLog}
use Rattle.cilk_explore.specs.Exploring.{IsBetween, HasLinks, GoesOn}
use Rattle.cilk_explore.proofs.exploring.look_at_all.Given as goal

abbrev pub invariant-loop-looked : goal.invariant-loop-looked
invariant-loop-looked l = record {
  between : IsBetween l.explorer l.looked;
  links : HasLinks l.explorer l.looked;
  stands : StandsAtLog l.explorer.store (l.looked - 1) l.explorer.walker;
  goes : GoesOn l.initial.explorer l.explorer;
}
