use Rattle.std.proofs.Common.{ap, sym, ◌∙◌, subst, vec_len, vec_capacity, arith}
use Rattle.cilk_machine_undo.specs.Moment.{IsMomentOf}
use Rattle.cilk_machine_undo.specs.Words.{machine_in}
use Rattle.cilk_machine.specs.Situation.{Situation, workers_of}
use Rattle.cilk_machine.specs.Checkpoints.{Checkpoint}
use Rattle.cilk_machine.specs.Pasts.{kept_of}
use Rattle.cilk_machine.proofs.Checkpoints.{stands-so, crew-again, returned-whole, before-in}
use Rattle.cilk_machine.proofs.machine.Machine.return_to.Goals as goal

pub invariant_of-self-in-Ok-parts : goal.invariant_of-self-in-Ok-parts
invariant_of-self-in-Ok-parts c =
    let k = c.args.checkpoint.now in
    let m = c.requires.situation in
    let kept = c.requires.kept in
    let earlier = c.requires.earlier in
    let seen = c.checkpoint.inside in
    let last = c.later.inside in
    let choices = ap (λ (x : Checkpoint). x.choices) c.checkpoint.view_is ∙ kept.choices in
    let before = before-in seen.choices m.choices m.machine c.args.later.now last.loaded last.parts last.trapper last.outcome last.choices last.keeps
    (kept_of last.records.items) c.later.view_is choices earlier.before in
    let again = ap machine_in c.replace.ensures.after
    ∙ c.in-Ok-parts.ensures m.machine (subst (λ (x : Checkpoint). IsMomentOf x.moment m.machine) (sym c.checkpoint.view_is) kept.moment) before in
    let own = c.requires.own ∙ sym (ap (λ (x : Situation). x.program) c.self.view_is) in
    let outcome_is = c.replace-in-Ok-parts.ensures.after ∙ c.in-Ok-outcome_copy.ensures ∙ ap (λ (x : Checkpoint). x.outcome) c.checkpoint.view_is in
    let stands = stands-so m seen.trapper k.trapper c.replace-in-Ok-parts.new.dest k.outcome kept.named
    (ap (λ (x : Checkpoint). x.trapper) c.checkpoint.view_is) outcome_is kept.outcome in
    let capacity = c.clear.ensures.capacity in
    let crew = c.later.invariant.crew ∙ ap workers_of c.later.view_is ∙ earlier.workers
    ∙ sym (crew-again m kept.sound c.replace.new.dest again c.self.inside.loaded own seen.trapper c.replace-in-Ok-parts.new.dest seen.choices
    c.self.inside.keeps stands (outcome_is ∙ kept.outcome) choices) in
    returned-whole m kept.sound c.replace.new.dest again c.self.inside.loaded own seen.trapper c.replace-in-Ok-parts.new.dest seen.choices
    c.self.inside.keeps stands (outcome_is ∙ kept.outcome) choices last.workers crew
    (kept_of c.clear.new.self.items) (ap kept_of c.clear.ensures.items) (vec_len c.clear.new.self) (vec_capacity c.clear.new.self) c.clear.ensures.len
    (λ e. (let room = c.in-Ok.ensures.room e in omega (arith, room, capacity)))
