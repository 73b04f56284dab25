use Rattle.cilk_lex.proofs.Headers.{not_fresh, not_included, is_included}
use Rattle.cilk_lex.proofs.inclusion.first_include.Goals as goal

pub returns-then-not-fresh : goal.returns-then-not-fresh
returns-then-not-fresh c = λ text e. rw c.if-not-fresh.true (not_fresh text c.args.line.now c.args.at e)

pub returns-in-Some : goal.returns-in-Some
returns-in-Some c = λ text e. rw c.if-not-fresh.false (is_included text c.args.line.now c.args.at e c.in-Some.header c.in-Some.end c.in-Some.ensures)

pub returns-in-None : goal.returns-in-None
returns-in-None c = λ text e. rw c.if-not-fresh.false (not_included text c.args.line.now c.args.at e c.in-None.ensures)
