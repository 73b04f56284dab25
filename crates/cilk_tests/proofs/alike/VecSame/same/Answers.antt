use Rattle.std.proofs.Common.{◌≡◌, arith}
use Rattle.cilk_tests.proofs.Images.{map-alike_at}
use Rattle.cilk_tests.proofs.alike.VecSame.same.Goals as goal

pub returns-then-not-same : goal.returns-then-not-same
returns-then-not-same g c = (
  λ h. cc,
  λ alike. let here : g.T.Same.meaning c.item-item.result ≡ g.T.Same.meaning c.index.result.now =
      map-alike_at g.T.Same.meaning c.args.self.now.items c.args.other.now.items c.loop-i.i _ _ (omega arith) (omega arith) (grind (arith))
      c.index.ensures alike in c.if-not-same.ensures.1 here,
)
