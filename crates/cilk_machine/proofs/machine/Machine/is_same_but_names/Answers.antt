use Rattle.std.proofs.Common.{refl, subst}
use Rattle.cilk_machine_undo.specs.agree.scopes.WellFormed.{WellFormed}
use Rattle.cilk_machine.specs.Situation.{Situation}
use Rattle.cilk_machine.proofs.Compares.{standings_same_but_names}
use Rattle.cilk_machine.proofs.machine.Machine.is_same_but_names.Goals as goal

pub returns : goal.returns
returns c = λ e.
    let held = c.if-not-holds_the_same.ensures in
    let well = subst (λ (x : Situation). WellFormed x.program) c.self.view_is c.self.invariant.sound.well_formed in
    standings_same_but_names c.args.self.now c.args.other.now c.requires well (held.outcome refl) (held.cells refl) (held.output refl) (held.locks refl)
    (c.lives_the_same.ensures.tree e) (c.lives_the_same.ensures.places e)
