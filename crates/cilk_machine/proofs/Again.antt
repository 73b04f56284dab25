-- A choice that was made is taken back.
use Rattle.std.proofs.Common.{◌≡◌, ◌∷◌, Bool, true, false, not, Option, Some, None, refl, sym, ap, ◌∙◌, if◌then◌else◌}
use Rattle.cilk_machine_undo.specs.labelled.Bodies.{label}
use Rattle.cilk_sched.specs.model.Choice.{Choice, Refusal, over, no_worker}
use Rattle.cilk_sched.specs.model.Event.{Event}
use Rattle.cilk_sched.specs.model.Run.{Standing, is_running, is_worker, act_refusal}
use Rattle.cilk_sched.specs.declared.outcome.Outcome.{Outcome}
use Rattle.cilk_sched.specs.declared.outcome.Outcome.TheVariants.{Running, Finished, Trapped}
use Rattle.cilk_sched.specs.Words.{outcome_of}
use Rattle.cilk_machine.specs.Situation.{Situation, before_of, kept_by}
use Rattle.cilk_machine.specs.Stands.{StandsAt}
use Rattle.cilk_machine.specs.Made.{Makes, TakesBack}

runs-by : (b : Bool) (r : Refusal) (o : Option Refusal) → (if not b then Some r else o) ≡ None → b ≡ true
runs-by true r o h = refl
runs-by false r o h = cc

outcome-by : (o : Outcome) → is_running (outcome_of o) ≡ true → o ≡ Running
outcome-by Running h = refl
outcome-by (Finished z) h = cc
outcome-by (Trapped kind path n) h = cc

-- it was possible, so the program ran
pub ran : (m n : Situation) (choice : Choice) (did : Event) (at : Standing) → StandsAt m at → Makes m n choice did → m.outcome ≡ Running
ran m n choice did at s made =
    let leads = made.leads s.choices s.events at s.led in
    let other : Option Refusal =
    if not (is_worker at.scheduler.places choice.worker) then Some no_worker else act_refusal (label m.program) at choice.worker choice.act in
    outcome-by m.outcome (ap is_running s.led.outcome ∙ runs-by (is_running at.state.outcome) over other leads.possible)

pub as-it-was : (m n back : Situation) (choice : Choice) (did : Event) (at : Standing) → StandsAt m at → m.keeps ≡ true → Makes m n choice did
    → TakesBack n back → back ≡ m
as-it-was m n back choice did at s keeps made taken =
    let all : before_of back ∷ back.past ≡ before_of m ∷ m.past = taken.past ∙ made.past ∙ ap (λ b. kept_by b (before_of m) m.past) keeps in
    let first : before_of back ≡ before_of m = cc in
    let rest : back.past ≡ m.past = cc in
    let program = taken.program ∙ made.program in
    let outcome : back.outcome ≡ m.outcome = taken.outcome ∙ sym (ran m n choice did at s made) in
    let keeping = taken.keeps ∙ made.keeps in
    λ i. record {
      program = program i;
      machine = (first i).machine;
      outcome = outcome i;
      choices = (first i).choices;
      keeps = keeping i;
      past = rest i;
    }
