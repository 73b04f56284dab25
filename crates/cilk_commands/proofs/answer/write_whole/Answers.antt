use Rattle.std.proofs.Common.{◌≡◌, [], rules, drop_of_length-le}
use Rattle.cilk_load.proofs.Fronts.{wrote_more, wrote_kept, wrote_left, wrote_all}
use Rattle.cilk_commands.proofs.answer.write_whole.Goals.{in-Ok, in-Err}
use Rattle.cilk_commands.proofs.answer.write_whole.Goals as goal

pub loop-preserved : goal.loop-preserved
loop-preserved g c =
    elim c.match-write.branch [
      | in-Ok w ↦ wrote_left _ _ _ _ _ w.rest-is (wrote_more _ _ _ _ c.loop.rest.now w.in-Ok.count c.loop.invariant w.in-Ok.ensures.bytes)
      | in-Err w ↦ wrote_left _ _ _ _ _ w.rest-is (wrote_kept _ _ _ _ _ c.loop.invariant w.in-Err.ensures.bytes)
    ]

pub returns-then-is_empty-clause-ok : goal.returns-then-is_empty-clause-ok
returns-then-is_empty-clause-ok g c =
    let empty : c.loop.rest.now ≡ [] = drop_of_length-le c.loop.rest.now {i = 0} (search rules) in
    wrote_all _ _ _ c.loop.rest.now empty c.loop.invariant
