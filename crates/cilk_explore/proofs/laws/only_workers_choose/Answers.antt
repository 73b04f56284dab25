use Rattle.cilk_explore.proofs.Turns.{closed-all, closed-acts}
use Rattle.cilk_explore.proofs.laws.only_workers_choose.Goals as goal

pub returns : goal.returns
returns c = λ program n logs log. record { all = closed-all program n log logs; acts = closed-acts program n log logs }
