-- Each state is in order, and each choice that is possible keeps the written rule.
use Rattle.std.proofs.Common.{◌≡◌, ℕ, Option, Some, None, refl, sym, ap, subst, ◌∙◌}
use Rattle.cilk_model.specs.labelled.Labelled.{Labelled}
use Rattle.cilk_model.specs.Path.{Path}
use Rattle.cilk_model.specs.State.{State, running}
use Rattle.cilk_model.specs.Pick.{Step, waits, parks, goes_on, ends, spawns, step_of}
use Rattle.cilk_model.specs.Scheduler.{hand_of}
use Rattle.cilk_model.specs.Choice.{Act, step, pop, steal, Choice}
use Rattle.cilk_model.specs.Run.{Standing, Position, state_after, event_of_step, next_by_hand}
use Rattle.cilk_model.specs.Run.{next_by, event_by_hand, event_by, event_of, after, one_more}
use Rattle.cilk_laws_model.specs.Order.{InOrder, EachStateIsInOrder}
use Rattle.cilk_laws_model.specs.Kept.{KeepsRule, OneMore, EachChoiceKeepsRule}
use Rattle.cilk_laws_model.proofs.Possible.{possible}
use Rattle.cilk_laws_model.proofs.Kept.{always}
use Rattle.cilk_laws_model.proofs.Ground.{Ruled}
use Rattle.cilk_laws_model.proofs.WrittenRules.{step_rule}
use Rattle.cilk_model.proofs.Runs.{after-push, Went, went}

pub each_in_order : EachStateIsInOrder
each_in_order program n choices at h =
    let family = (always program n choices at h).family in record { apart = family.apart; family = family.counted }

-- the rule is kept
keeps_step : (program : Labelled) (s : State) (p : Path) (taken : Step) → Ruled program s p taken
    → KeepsRule program s (Some p) (event_of_step taken) (state_after s taken)
keeps_step program s p waits r = record { same = λ _. refl; allowed = λ h. absurd (h refl) }
keeps_step program s p parks r = record { same = λ _. refl; allowed = λ h. absurd (h refl) }
keeps_step program s p (goes_on t did) r = record { same = λ h. absurd (r.1 h); allowed = λ _. r.0 }
keeps_step program s p (ends t did) r = record { same = λ h. absurd (r.1 h); allowed = λ _. r.0 }
keeps_step program s p (spawns child t did) r = record { same = λ h. absurd (r.1 h); allowed = λ _. r.0 }

keeps_hand : (program : Labelled) (at : Standing) (w : ℕ) → at.state.outcome ≡ running → InOrder at.state → (hand : Option Path)
    → KeepsRule program at.state hand (event_by_hand program at.state hand) (next_by_hand program at w hand).state
keeps_hand program at w runs order None = record { same = λ _. refl; allowed = λ h. absurd (h refl) }
keeps_hand program at w runs order (Some p) = keeps_step program at.state p (step_of program at.state p) (step_rule program at.state p runs order)

keeps_act : (program : Labelled) (at : Standing) (w : ℕ) (act : Act) → at.state.outcome ≡ running → InOrder at.state
    → KeepsRule program at.state (hand_of at.scheduler.places w) (event_by program at w act) (next_by program at w act).state
keeps_act program at w step runs order = keeps_hand program at w runs order (hand_of at.scheduler.places w)
keeps_act program at w pop runs order = record { same = λ _. refl; allowed = λ h. absurd (h refl) }
keeps_act program at w (steal v) runs order = record { same = λ _. refl; allowed = λ h. absurd (h refl) }

one_more_keeps : (program : Labelled) (choice : Choice) (at next : Position) → InOrder at.standing.state → Went program choice at next
    → OneMore program choice at next
one_more_keeps program choice at next order went = record {
  did = event_of program at.standing choice;
  events = ap (λ (q : Position). q.events) went.result;
  rule =
      subst
      (λ (q : Position). KeepsRule program at.standing.state (hand_of at.standing.scheduler.places choice.worker)
      (event_of program at.standing choice) q.standing.state)
      (sym went.result) (keeps_act program at.standing choice.worker choice.act (possible program at.standing choice went.possible).runs order);
}

pub keeps_rule : EachChoiceKeepsRule
keeps_rule program n choices choice at next before after =
    one_more_keeps program choice at next (each_in_order program n choices at before)
    (went program choice at next (ap (one_more program choice) (sym before) ∙ sym (after-push program n choices choice) ∙ after))
