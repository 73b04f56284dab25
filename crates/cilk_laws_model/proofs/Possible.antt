-- What is known where a choice is possible.
use Rattle.std.proofs.Common.{◌≡◌, Bool, true, false, not, Some, None, refl, if◌then◌else◌}
use Rattle.cilk_model.specs.labelled.Labelled.{Labelled}
use Rattle.cilk_model.specs.State.{Outcome, running, finished, trapped}
use Rattle.cilk_model.specs.Choice.{Choice, over, no_worker}
use Rattle.cilk_model.specs.Run.{Standing, is_running, is_worker, act_refusal, refusal_of}

-- what a choice that is possible is known by
pub record Possible (program : Labelled) (at : Standing) (choice : Choice) : Type 0 where
  pub runs : at.state.outcome ≡ running
  pub worker : is_worker at.scheduler.places choice.worker ≡ true
  pub act : act_refusal program at choice.worker choice.act ≡ None

pub is_running-true : (o : Outcome) → is_running o ≡ true → o ≡ running
is_running-true running h = refl
is_running-true (finished z) h = cc
is_running-true (trapped kind path n) h = cc

possible_by : (program : Labelled) (at : Standing) (choice : Choice) (a b : Bool) → is_running at.state.outcome ≡ a
    → is_worker at.scheduler.places choice.worker ≡ b
    → (if not a then Some over else (if not b then Some no_worker else act_refusal program at choice.worker choice.act)) ≡ None → Possible program at choice
possible_by program at choice false b e f h = cc
possible_by program at choice true false e f h = cc
possible_by program at choice true true e f h = record { runs = is_running-true at.state.outcome e; worker = f; act = h }

pub possible : (program : Labelled) (at : Standing) (choice : Choice) → refusal_of program at choice ≡ None → Possible program at choice
possible program at choice h =
    possible_by program at choice (is_running at.state.outcome) (is_worker at.scheduler.places choice.worker) refl refl h
