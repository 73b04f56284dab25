use Rattle.std.proofs.Common.{sym, ◌∙◌, arith}
use Rattle.cilk_lex.proofs.Loops.{quote_newline, quote_hit, quote_taken, quote_on, quote_done}
use Rattle.cilk_lex.proofs.literal.closing_quote.Goals as goal
use Rattle.cilk_lex.proofs.literal.closing_quote.Goals.{then-escaped, else-escaped+else-byte-eq34}

pub returns-then-byte-eq10 : goal.returns-then-byte-eq10
returns-then-byte-eq10 c =
    sym
    (c.loop-byte.invariant.left ∙ quote_newline c.args.text.now c.loop-byte.byte-index c.loop-byte-test.true c.loop-byte.escaped
    c.if-byte-eq10.true)

pub returns-then-byte-eq34 : goal.returns-then-byte-eq34
returns-then-byte-eq34 c =
    let h = rw c.if-escaped.false at c.loop-byte.invariant.left in
    rw c.loop-byte.invariant.place (sym (h ∙ quote_hit c.args.text.now c.loop-byte.byte-index c.loop-byte-test.true c.if-byte-eq34.true))

pub loop-byte-preserved : goal.loop-byte-preserved
loop-byte-preserved c = record {
  place = omega (arith, c.loop-byte.invariant.place);
  left = elim c.if-escaped.branch [
    | then-escaped w ↦
        let h = rw w.if-escaped.true at c.loop-byte.invariant.left in
        rw w.escaped-is (h ∙ quote_taken c.args.text.now c.loop-byte.byte-index c.loop-byte-test.true c.if-byte-eq10.false)
    | else-escaped+else-byte-eq34 w ↦
        let h = rw w.if-escaped.false at c.loop-byte.invariant.left in
        rw w.escaped-is (h ∙ quote_on c.args.text.now c.loop-byte.byte-index c.loop-byte-test.true c.if-byte-eq10.false w.if-byte-eq34.false)
  ];
}

pub returns : goal.returns
returns c =
    sym
    (c.loop-byte.invariant.left ∙ quote_done c.args.text.now c.loop-byte.byte-index c.loop-byte.byte-index c.loop-byte.escaped
    c.loop-byte-test.false)
