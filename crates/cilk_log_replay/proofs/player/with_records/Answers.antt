use Rattle.std.proofs.Common.{◌∙◌}
use Rattle.cilk_log_replay.proofs.Restores.{goes-first}
use Rattle.cilk_log_replay.proofs.player.with_records.Goals as goal

pub returns-in-Ok-with_undo-clause-goes : goal.returns-in-Ok-with_undo-clause-goes
returns-in-Ok-with_undo-clause-goes c =
    let made = c.in-Ok-with_undo.ensures in
    goes-first c.in-Ok-with_undo.machine c.args.program.now c.args.workers (made.program ∙ c.in-Ok.ensures) made.crew made.choices made.opening made.keeps
    made.past
