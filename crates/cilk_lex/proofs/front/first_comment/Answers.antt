use Rattle.cilk_lex.proofs.Fronts.{no_end, an_end, seen_comment, seen_no_end}
use Rattle.cilk_lex.proofs.front.first_comment.Goals as goal

pub returns-in-Some : goal.returns-in-Some
returns-in-Some c =
    λ text e. let f = c.in-Some.ensures.cases
    in seen_comment text c.args.behind.now c.args.at c.in-Some.end e (an_end c.args.behind.now c.in-Some.end f.0 f.1)

pub returns-in-None : goal.returns-in-None
returns-in-None c = λ text e. seen_no_end text c.args.behind.now c.args.at e (no_end c.args.behind.now c.in-None.ensures.cases)
