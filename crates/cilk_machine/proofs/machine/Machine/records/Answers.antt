use Rattle.std.proofs.Common.{ap, sym, ◌∙◌, length, reverse}
use Rattle.std.proofs.lemmas.List.{length-map, length-reverse}
use Rattle.cilk_machine_undo.specs.Words.{undo_by}
use Rattle.cilk_machine.specs.Situation.{Situation}
use Rattle.cilk_machine.specs.Pasts.{kept_of, running_at}
use Rattle.cilk_machine.proofs.Kept.{length-pasts}
use Rattle.cilk_machine.proofs.machine.Machine.records.Goals as goal

pub returns : goal.returns
returns c =
    let m = c.self.inside in
    ap length c.as_slice.ensures.value ∙ sym (length-reverse m.records.items) ∙ sym (length-map (reverse m.records.items) undo_by)
    ∙ sym (length-pasts (kept_of m.records.items) (running_at m.parts m.choices)) ∙ ap (λ (s : Situation). length s.past) c.self.view_is
