use Rattle.std.proofs.Common.{ap}
use Rattle.cilk_program.proofs.Ended.{refused_words}
use Rattle.cilk_program.proofs.dispatch.dispatch.Goals as goal

pub returns-in-Err-clause-ends : goal.returns-in-Err-clause-ends
returns-in-Err-clause-ends g c =
    refused_words _ _ _ c.in-Err.refusal c.tell.result _ _ _ _ c.in-Err.ensures.refusal c.tell.ensures.shows c.tell.ensures.memory
    (λ none other. ap g.O.Write.contents (c.tell.ensures.kept none other))
