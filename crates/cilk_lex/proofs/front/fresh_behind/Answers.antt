use Rattle.std.proofs.Common.{sym, ◌∙◌}
use Rattle.cilk_lex.proofs.Loops.{fresh_on, fresh_done}
use Rattle.cilk_lex.proofs.front.fresh_behind.Goals as goal

pub loop-byte-preserved : goal.loop-byte-preserved
loop-byte-preserved c =
    rw c.fresh_after-behind.ensures
    (c.loop-byte.invariant ∙ fresh_on c.args.front.now c.loop-byte.byte-index c.loop-byte-test.true c.loop-byte.behind)

pub returns : goal.returns
returns c = sym (c.loop-byte.invariant ∙ fresh_done c.args.front.now c.loop-byte.byte-index c.loop-byte.behind c.loop-byte-test.false)
