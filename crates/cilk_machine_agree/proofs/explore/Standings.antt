-- Two standings that are the same, and one choice.
use Rattle.std.proofs.Common.{◌≡◌, ℕ, ◌+◌, Bool, true, false, not, ◌&&◌, ◌||◌, cond, List, Option, Some, None, is_some, refl, sym, ap, subst, ◌∙◌, length}
use Rattle.std.proofs.Common.{if◌then◌else◌, arith}
use Rattle.std.specs.Prelude.{sum_by}
use Rattle.std.specs.List.{list_all}
use Rattle.cilk_machine_agree.specs.labelled.Labelled.{Labelled}
use Rattle.cilk_machine_agree.specs.model.Path.{Path, same_path, parent_of}
use Rattle.cilk_machine_agree.specs.model.Instance.{Instance}
use Rattle.cilk_machine_agree.specs.model.State.{State, Instances, has_live_child, instance_at}
use Rattle.cilk_machine_agree.specs.model.Pick.{Step, step_of}
use Rattle.cilk_machine_agree.specs.model.Scheduler.{Worker, Scheduler, hand_of, with_hand, can_take, can_go_on, woken, with_empty_hand}
use Rattle.cilk_machine_agree.specs.model.Choice.{Act, step, pop, steal, Choice, Refusal, over, no_worker}
use Rattle.cilk_machine_agree.specs.model.Run.{Standing, is_running, is_worker, waits_now, step_refusal, act_refusal, refusal_of}
use Rattle.cilk_machine_agree.specs.model.Run.{event_of_step, stepped}
use Rattle.cilk_machine_agree.specs.model.Run.{next_by_hand, next_by, event_by_hand, event_by}
use Rattle.cilk_machine_agree.specs.model.End.{all_choices, end_by}
use Rattle.cilk_machine_agree.specs.runs.Hands.{times_held, EachInItsPlace}
use Rattle.cilk_machine_agree.specs.explore.Ending.{Ending, ending_at}
use Rattle.cilk_machine_agree.specs.explore.Same.{SameState, Same}
use Rattle.cilk_machine_agree.specs.explore.Laws.{GoesAlike, SamenessIsKept, TheSameEndAlike}
use Rattle.cilk_machine_agree.proofs.explore.Sizes.{as_many}
use Rattle.cilk_machine_agree.proofs.explore.AtPaths.{SameAt, lives_same, children_same}
use Rattle.cilk_machine_agree.proofs.explore.Steps.{SameStep, both_wait, both_park, both_go_on, both_end, both_spawn, beside, step_same}

pub same_again : (a : Standing) → Same a a
same_again a = record { state = beside a.state a.state refl (λ p. refl); places = refl }

pub same_turned : (a b : Standing) → Same a b → Same b a
same_turned a b h = record {
  state = record {
    globals = sym h.state.globals;
    locks = sym h.state.locks;
    output = sym h.state.output;
    outcome = sym h.state.outcome;
    at = λ p. sym (h.state.at p);
  };
  places = sym h.places;
}

pub same_both : (a b c : Standing) → Same a b → Same b c → Same a c
same_both a b c h k = record {
  state = record {
    globals = h.state.globals ∙ k.state.globals;
    locks = h.state.locks ∙ k.state.locks;
    output = h.state.output ∙ k.state.output;
    outcome = h.state.outcome ∙ k.state.outcome;
    at = λ p. h.state.at p ∙ k.state.at p;
  };
  places = h.places ∙ k.places;
}

-- so many places leave one mark
pub one_mark : (n : ℕ) (x y : Bool) → n + cond x 1 0 ≡ n + cond y 1 0 → x ≡ y
one_mark n true true e = refl
one_mark n true false e = absurd (omega (arith, e))
one_mark n false true e = absurd (omega (arith, e))
one_mark n false false e = refl

-- a standing with other instances
abbrev pub with_instances : Standing → Instances → Standing
with_instances a others = record a { state = record a.state { instances = others } }

-- what lives and no worker has is parked, so that all but the order of the instances is equal
pub alike_but : (a b : Standing) → EachInItsPlace a → EachInItsPlace b → Same a b → with_instances a b.state.instances ≡ b
alike_but a b placed laid h = λ i. record {
  state = record {
    globals = h.state.globals i;
    locks = h.state.locks i;
    output = h.state.output i;
    outcome = h.state.outcome i;
    instances = b.state.instances;
  };
  scheduler = record { places = h.places i; parked = λ q. parked_same q i };
}
  where
    parked_same : (q : Path) → a.scheduler.parked q ≡ b.scheduler.parked q
    parked_same q =
        one_mark (sum_by (times_held q) a.scheduler.places) (a.scheduler.parked q) (b.scheduler.parked q)
        (placed.once q ∙ ap (λ (b : Bool). cond b 1 0) (lives_same a.state.instances b.state.instances h.state.at q) ∙ sym (laid.once q)
        ∙ ap (λ (places : List Worker). sum_by (times_held q) places + cond (b.scheduler.parked q) 1 0) (sym h.places))

waits_same : {x y : Step} → SameStep x y → waits_now x ≡ waits_now y
waits_same both_wait = refl
waits_same both_park = refl
waits_same (both_go_on a b did h) = refl
waits_same (both_end a b did h) = refl
waits_same (both_spawn child a b did h) = refl

told_same : {x y : Step} → SameStep x y → event_of_step x ≡ event_of_step y
told_same both_wait = refl
told_same both_park = refl
told_same (both_go_on a b did h) = refl
told_same (both_end a b did h) = refl
told_same (both_spawn child a b did h) = refl

module _ (program : Labelled) (a : Standing) (others : Instances) (same : SameAt a.state.instances others)
    (many : length a.state.instances ≡ length others) where
  abbrev b : Standing
  b = with_instances a others

  steps : (p : Path) → SameStep (step_of program a.state p) (step_of program b.state p)
  steps p = step_same program a.state others same many p

  state_same : SameState a.state b.state
  state_same = beside a.state b.state refl same

  all_same : Same a b
  all_same = record { state = state_same; places = refl }

  hand_refusal : (o : Option Path) → step_refusal program a.state o ≡ step_refusal program b.state o
  hand_refusal None = refl
  hand_refusal (Some p) = waits_same (steps p)

  refusal_act : (w : ℕ) (act : Act) → act_refusal program a w act ≡ act_refusal program b w act
  refusal_act w step = hand_refusal (hand_of a.scheduler.places w)
  refusal_act w pop = refl
  refusal_act w (steal v) = refl

  refusal_same : (c : Choice) → refusal_of program a c ≡ refusal_of program b c
  refusal_same c =
      ap
      (λ (o : Option Refusal). if not (is_running a.state.outcome) then Some over else
      (if not (is_worker a.scheduler.places c.worker) then Some no_worker else o))
      (refusal_act c.worker c.act)

  hand_event : (o : Option Path) → event_by_hand program a.state o ≡ event_by_hand program b.state o
  hand_event None = refl
  hand_event (Some p) = told_same (steps p)

  event_act : (w : ℕ) (act : Act) → event_by program a w act ≡ event_by program b w act
  event_act w step = hand_event (hand_of a.scheduler.places w)
  event_act w pop = refl
  event_act w (steal v) = refl

  -- the parent that is parked goes on in both, or in none
  goes_same : (x y : State) → SameState x y → (q : Path) → can_go_on x.instances q ≡ can_go_on y.instances q
  goes_same x y h q =
      ap (λ (b : Bool). not b || can_take (instance_at x.instances q)) (children_same x.instances y.instances h.at q)
      ∙ ap (λ (o : Option Instance). not (has_live_child y.instances q) || can_take o) (h.at q)

  woken_same : (x y : State) → SameState x y → (sched : Scheduler) (w : ℕ) (o : Option Path)
      → (woken x.instances sched w o).places ≡ (woken y.instances sched w o).places
  woken_same x y h sched w None = refl
  woken_same x y h sched w (Some q) =
      ap (λ (can : Bool). (if sched.parked q && can
      then record { places = with_hand sched.places w (Some q); parked = λ r. not (same_path r q) && sched.parked r }
      else sched).places) (goes_same x y h q)

  taken_same : (w : ℕ) (p : Path) {x y : Step} → SameStep x y → Same (stepped a w p x) (stepped b w p y)
  taken_same w p both_wait = all_same
  taken_same w p both_park = record { state = state_same; places = refl }
  taken_same w p (both_go_on x y did h) = record { state = h; places = refl }
  taken_same w p (both_end x y did h) = record { state = h; places = woken_same x y h (with_empty_hand a.scheduler w) w (parent_of p) }
  taken_same w p (both_spawn child x y did h) = record { state = h; places = refl }

  hand_next : (w : ℕ) (o : Option Path) → Same (next_by_hand program a w o) (next_by_hand program b w o)
  hand_next w None = all_same
  hand_next w (Some p) = taken_same w p (steps p)

  next_act : (w : ℕ) (act : Act) → Same (next_by program a w act) (next_by program b w act)
  next_act w step = hand_next w (hand_of a.scheduler.places w)
  next_act w pop = record { state = state_same; places = refl }
  next_act w (steal v) = record { state = state_same; places = refl }

  goes_alike : (c : Choice) → GoesAlike program a b c
  goes_alike c = record { refusal = refusal_same c; event = event_act c.worker c.act; next = next_act c.worker c.act }

  ends_alike : ending_at program a ≡ ending_at program b
  ends_alike =
      let refusals : refusal_of program a ≡ refusal_of program b = λ i. λ c. refusal_same c i in
      let told : (Choice → Option Refusal) → Ending = λ refusal. record {
        end = end_by program (is_running a.state.outcome && list_all (λ c. is_some (refusal c)) (all_choices (length a.scheduler.places))) a.state.outcome;
        output = a.state.output;
      } in
      ap told refusals

sizes : (a b : Standing) → EachInItsPlace a → EachInItsPlace b → Same a b → length a.state.instances ≡ length b.state.instances
sizes a b placed laid h =
    as_many a.state.instances b.state.instances placed.family.apart laid.family.apart (lives_same a.state.instances b.state.instances h.state.at)

pub sameness_is_kept : SamenessIsKept
sameness_is_kept program a b placed laid h choice =
    let P : Standing → Type 0 = λ x. GoesAlike program a x choice in
    subst P (alike_but a b placed laid h) (goes_alike program a b.state.instances h.state.at (sizes a b placed laid h) choice)

pub the_same_end_alike : TheSameEndAlike
the_same_end_alike program a b placed laid h =
    ends_alike program a b.state.instances h.state.at (sizes a b placed laid h) ∙ ap (ending_at program) (alike_but a b placed laid h)
