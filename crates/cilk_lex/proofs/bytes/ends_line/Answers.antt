use Rattle.std.proofs.Common.{sym, ◌∙◌}
use Rattle.cilk_lex.proofs.Loops.{line_hit, line_miss, line_on, line_done}
use Rattle.cilk_lex.proofs.bytes.ends_line.Goals as goal

pub returns-then-byte-eq10 : goal.returns-then-byte-eq10
returns-then-byte-eq10 c = sym (c.loop-byte.invariant ∙ line_hit c.args.text.now c.loop-byte.byte-index c.loop-byte-test.true c.if-byte-eq10.true)

pub returns-then-not-is_line_end : goal.returns-then-not-is_line_end
returns-then-not-is_line_end c =
    sym
    (c.loop-byte.invariant ∙ line_miss c.args.text.now c.loop-byte.byte-index c.loop-byte-test.true c.if-byte-eq10.false
    (sym c.if-not-is_line_end.ensures))

pub loop-byte-preserved : goal.loop-byte-preserved
loop-byte-preserved c =
    c.loop-byte.invariant
    ∙ line_on c.args.text.now c.loop-byte.byte-index c.loop-byte-test.true c.if-byte-eq10.false (sym c.if-not-is_line_end.ensures)

pub returns : goal.returns
returns c = sym (c.loop-byte.invariant ∙ line_done c.args.text.now c.loop-byte.byte-index c.loop-byte-test.false)
