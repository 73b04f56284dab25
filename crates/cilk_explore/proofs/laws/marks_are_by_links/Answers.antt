use Rattle.cilk_explore.proofs.Linked.{marks-are-by-links}
use Rattle.cilk_explore.proofs.laws.marks_are_by_links.Goals as goal

pub returns : goal.returns
returns c = marks-are-by-links
