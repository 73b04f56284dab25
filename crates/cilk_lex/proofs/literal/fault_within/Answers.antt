use Rattle.std.proofs.Common.{sym, ◌∙◌, arith}
use Rattle.cilk_lex.proofs.Loops.{fault_escape, fault_taken, fault_backslash, fault_byte, fault_on, fault_done}
use Rattle.cilk_lex.proofs.literal.fault_within.Goals as goal
use Rattle.cilk_lex.proofs.literal.fault_within.Goals.{then-escaped+else-not-is_escape, else-escaped+then-byte-eq92}
use Rattle.cilk_lex.proofs.literal.fault_within.Goals.{else-escaped+else-byte-eq92+else-not-is_printed}

pub returns-then-not-is_escape : goal.returns-then-not-is_escape
returns-then-not-is_escape c =
    let h = rw c.if-escaped.true at c.loop-byte.invariant.left in
    sym (h ∙ fault_escape c.args.body.now c.loop-byte.byte-index c.loop-byte-test.true c.loop-byte.place (sym c.if-not-is_escape.ensures))

pub returns-then-not-is_printed : goal.returns-then-not-is_printed
returns-then-not-is_printed c =
    let h = rw c.if-escaped.false at c.loop-byte.invariant.left in
    sym (h ∙ fault_byte c.args.body.now c.loop-byte.byte-index c.loop-byte-test.true c.loop-byte.place c.if-byte-eq92.false (sym c.if-not-is_printed.ensures))

pub loop-byte-preserved : goal.loop-byte-preserved
loop-byte-preserved c = record {
  place = omega (arith, c.loop-byte.invariant.place);
  behind = λ e. omega arith;
  left = elim c.if-escaped.branch [
    | then-escaped+else-not-is_escape w ↦
        let h = rw w.if-escaped.true at c.loop-byte.invariant.left in
        rw w.escaped-is (h ∙ fault_taken c.args.body.now c.loop-byte.byte-index c.loop-byte-test.true c.loop-byte.place (sym w.if-not-is_escape.ensures))
    | else-escaped+then-byte-eq92 w ↦
        let h = rw w.if-escaped.false at c.loop-byte.invariant.left in
        rw w.escaped-is (h ∙ fault_backslash c.args.body.now c.loop-byte.byte-index c.loop-byte-test.true c.loop-byte.place w.if-byte-eq92.true)
    | else-escaped+else-byte-eq92+else-not-is_printed w ↦
        let h = rw w.if-escaped.false at c.loop-byte.invariant.left in
        rw (w.escaped-is, w.if-escaped.false)
        (h ∙ fault_on c.args.body.now c.loop-byte.byte-index c.loop-byte-test.true c.loop-byte.place w.if-byte-eq92.false
        (sym w.if-not-is_printed.ensures))
  ];
}

pub returns : goal.returns
returns c = sym (c.loop-byte.invariant.left ∙ fault_done c.args.body.now c.loop-byte.byte-index c.loop-byte.place c.loop-byte.escaped c.loop-byte-test.false)
