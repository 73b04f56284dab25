use Rattle.cilk_view.proofs.Entries.{none_popped}
use Rattle.cilk_view.proofs.spot.tell_some.Goals as goal

pub tell_text-requires-clause-none : goal.tell_text-requires-clause-none
tell_text-requires-clause-none c = none_popped _ _ _ c.in-None.ensures.rest c.in-None.ensures.cases.0
