use Rattle.cilk_eval.proofs.effects_laws.Same.{act-fits, effect-same, effect-reaches}
use Rattle.cilk_eval.proofs.effect_laws.effects_are_seen.Goals as goal

pub returns-clause-same : goal.returns-clause-same
returns-clause-same c program b n cells store act seen known = effect-same program b cells store seen n act known

pub returns-clause-fits : goal.returns-clause-fits
returns-clause-fits c program b cells store act seen known = act-fits program b cells store seen act known

pub returns-clause-cells : goal.returns-clause-cells
returns-clause-cells c program b n cells store act e seen known is = effect-reaches program b cells store seen n act e known is
