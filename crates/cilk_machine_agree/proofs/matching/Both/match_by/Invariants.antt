use Rattle.cilk_machine_agree.proofs.Matches.{Matched}
use Rattle.cilk_machine_agree.proofs.matching.Both.match_by.Given as goal

abbrev pub invariant-loop-k : goal.invariant-loop-k
invariant-loop-k l = Matched l.self.tree.now.nodes l.self.other.now.nodes l.self.hands.now l.self.others.now l.order l.k
