use Rattle.std.proofs.Common.{arith}
use Rattle.cilk_tree.proofs.Escapes.{Plain, escapes-encode}
use Rattle.cilk_tree.proofs.literal.put_escape.Goals as goal

pub returns-in_ok-push-in_default : goal.returns-in_ok-push-in_default
returns-in_ok-push-in_default c =
    let plain : Plain c.args.c = record { newline = omega arith; tab = omega arith; backslash = omega arith; quote = omega arith } in
    rw (escapes-encode c.args.c plain) c.in_ok-push-in_default.ensures.bytes
