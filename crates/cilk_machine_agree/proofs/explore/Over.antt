-- A program has ended or is stuck exactly where no choice is possible.
use Rattle.std.proofs.Common.{◌≡◌, ◌↔◌, Bool, true, false, refl, sym, ap, ◌∙◌, if◌then◌else◌}
use Rattle.cilk_machine_agree.specs.labelled.Labelled.{Labelled}
use Rattle.cilk_machine_agree.specs.model.State as state
use Rattle.cilk_machine_agree.specs.model.State.{Outcome}
use Rattle.cilk_machine_agree.specs.model.Run.{Standing}
use Rattle.cilk_machine_agree.specs.model.End.{stuck, limit, end_by, is_stuck}
use Rattle.cilk_machine_agree.proofs.runs_laws.Possible.{possible}
use Rattle.cilk_machine_agree.proofs.runs_laws.Stuck.{stuck_exactly}
use Rattle.cilk_machine_agree.specs.explore.Ending.{is_last, IsOver}
use Rattle.cilk_machine_agree.specs.explore.Laws.{OverExactly}

stuck_of : (b : Bool) → is_last (if b then stuck else limit) ≡ true → b ≡ true
stuck_of true h = refl
stuck_of false h = cc

over_by : (program : Labelled) (at : Standing) (o : Outcome) → at.state.outcome ≡ o
    → (is_last (end_by program (is_stuck program at) o) ≡ true) ↔ IsOver program at
over_by program at state.running e = (
  λ h. ((stuck_exactly program at).0 (stuck_of (is_stuck program at) h)).1,
  λ h. ap (λ (b : Bool). is_last (if b then stuck else limit)) ((stuck_exactly program at).1 (e, h)),
)
over_by program at (state.finished z) e =
    (λ h choice free. let p = possible program at choice free in let both : state.running ≡ state.finished z = sym p.runs ∙ e in cc, λ h. refl)
over_by program at (state.trapped kind path n) e =
    (λ h choice free. let p = possible program at choice free in let both : state.running ≡ state.trapped kind path n = sym p.runs ∙ e in cc, λ h. refl)

pub over_exactly : OverExactly
over_exactly program at = over_by program at at.state.outcome refl
