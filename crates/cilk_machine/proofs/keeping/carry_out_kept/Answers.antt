use Rattle.std.proofs.Common.{ap, ◌∙◌, ◌∷◌}
use Rattle.cilk_machine_undo.specs.Words.{undo_by}
use Rattle.cilk_machine.specs.Pasts.{kept_of}
use Rattle.cilk_machine.proofs.keeping.carry_out_kept.Goals as goal

pub returns-in-Ok-clause-adds : goal.returns-in-Ok-clause-adds
returns-in-Ok-clause-adds c = record {
  undo = undo_by c.in-Ok.undo;
  is = c.put_last.ensures.kept ∙ ap (λ us. undo_by c.in-Ok.undo ∷ kept_of us) c.reserve.ensures.items;
  undoes = c.in-Ok.ensures.undoes;
}
