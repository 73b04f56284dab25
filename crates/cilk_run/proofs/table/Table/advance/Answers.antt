use Rattle.std.proofs.Common.{rules, ◌≡◌, sym, subst, ap, ◌∙◌, ◌<◌, ◌-◌, ◌+◌, ◌++◌, ◌∷◌, [], length, slice_index, refl, arith, length-append}
use Rattle.cilk_run.specs.choices.declared.choice.Choice.{Choice}
use Rattle.cilk_run.specs.Histories.{Posted, IsCounted}
use Rattle.cilk_run.proofs.Counting.{turns_of-fits, counted-more}
use Rattle.cilk_run.proofs.table.Table.advance.Goals as goal

pub count-requires-clause-there : goal.count-requires-clause-there
count-requires-clause-there g c =
    let known = c.self.invariant in
    let i = c.args.worker - 1 in
    let within : i < g.J.Setting.workers = search (rules, known.2) in
    omega (arith, known.5.entries, within)

pub count-requires-clause-room : goal.count-requires-clause-room
count-requires-clause-room g c =
    let known = c.self.invariant in
    let i = c.args.worker - 1 in
    let within : i < g.J.Setting.workers = search (rules, known.2) in
    omega (arith, known.5.each i within, turns_of-fits (i + 1) c.self.inside.locked.history, known.4, known.3)

pub invariant_of-self-2 : goal.invariant_of-self-2
invariant_of-self-2 g c =
    let known = c.self.invariant in
    let old = c.self.inside.locked.history in
    let ts = c.self.inside.turns.items in
    let i = c.args.worker - 1 in
    let choice : Choice = record { worker = c.args.worker; act = c.args.act } in
    let within : i < g.J.Setting.workers = search (rules, known.2) in
    let by : c.args.worker ≡ i + 1 = search rules in
    let room : length old < g.J.Setting.limit = rw (ap (λ (t : Posted). t.history) c.self.view_is) c.requires in
    let made = c.in_ok-advance.ensures.made in
    let grown = c.in_ok-advance.ensures.history in (
      made.program ∙ known.0,
      made.workers ∙ known.1,
      known.2,
      known.3,
      omega (arith, ap length grown, length-append old (choice ∷ []), room),
      subst (λ h. IsCounted g.J.Setting.workers c.count.new.turns.items h) (sym grown)
          (subst (λ xs. IsCounted g.J.Setting.workers xs (old ++ choice ∷ [])) (sym c.count.ensures)
          (counted-more g.J.Setting.workers ts old choice i (slice_index ts i + 1) known.5 within by refl)),
      known.6,
    )
