use Rattle.std.proofs.Common.{ap, sym, ◌∙◌, length, vec_len, vec_capacity, true}
use Rattle.cilk_machine_undo.specs.agree.Agrees.{MachineParts}
use Rattle.cilk_machine.specs.Checkpoints.{Image}
use Rattle.cilk_machine.specs.Pasts.{kept_of}
use Rattle.cilk_machine.proofs.Checkpoints.{stands-so, returned-whole}
use Rattle.cilk_machine.proofs.machine.Machine.restore.Goals as goal

pub invariant_of-result : goal.invariant_of-result
invariant_of-result c =
    let k = c.args.image.now in
    let m = c.requires.situation in
    let kept = c.requires.kept in
    let seen = c.image.inside in
    let choices = ap (λ (x : Image). x.choices) c.image.view_is ∙ kept.choices in
    let again = c.in-Ok-parts.ensures ∙ ap (λ (x : Image). x.machine) c.image.view_is ∙ kept.machine in
    let outcome_is = c.in-Ok.ensures ∙ ap (λ (x : Image). x.outcome) c.image.view_is in
    let stands = stands-so m seen.trapper k.trapper c.in-Ok.outcome k.outcome kept.named (ap (λ (x : Image). x.trapper) c.image.view_is) outcome_is
    kept.outcome in
    let crew = c.image.invariant ∙ sym (ap (λ (y : MachineParts). length y.places) c.in-Ok-parts.ensures) in
    let count = c.in-Ok-no_records.ensures.count in
    let room = c.in-Ok-no_records.ensures.room in
    returned-whole m kept.sound c.in-Ok-parts.parts again c.args.loaded c.requires.own seen.trapper c.in-Ok.outcome seen.choices true stands
    (outcome_is ∙ kept.outcome) choices seen.workers crew (kept_of c.in-Ok-no_records.records.items) (ap kept_of c.in-Ok-no_records.ensures.none)
    (vec_len c.in-Ok-no_records.records) (vec_capacity c.in-Ok-no_records.records) count room
