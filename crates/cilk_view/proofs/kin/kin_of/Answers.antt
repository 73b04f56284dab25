use Rattle.cilk_view.proofs.Kins.{kin_sorted}
use Rattle.cilk_view.proofs.kin.kin_of.Goals as goal

pub returns : goal.returns
returns c = λ ns same.
    kin_sorted ns c.in_ok-kin.kin.items c.sort.new.self.items (c.in_ok-kin.ensures ns same) c.sort.ensures.permutation c.in_ok-sort.ensures.sorted
