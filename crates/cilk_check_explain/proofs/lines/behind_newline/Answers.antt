use Rattle.cilk_check_explain.proofs.Newlines.{behind_last, behind_none}
use Rattle.cilk_check_explain.proofs.lines.behind_newline.Goals as goal

pub returns-in-Some : goal.returns-in-Some
returns-in-Some c =
    let h = c.in-Some.ensures.cases in
    behind_last c.args.front.now c.in-Some.behind.now h.0 h.1 h.2 h.4 h.7

pub returns-in-None : goal.returns-in-None
returns-in-None c = behind_none c.args.front.now c.in-None.ensures.cases
