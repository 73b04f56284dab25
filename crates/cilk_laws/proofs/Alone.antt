-- While an inlet runs, each step of its instance is its own.
use Rattle.std.proofs.Common.{◌≡◌, ℤ, pos, Bool, true, false, not, ◌&&◌, ◌||◌, List, [], ◌∷◌, ◌++◌, Option, Some, None, ◌⊎◌, inl, inr, refl, sym, ap}
use Rattle.std.proofs.Common.{subst, ◌∙◌, if◌then◌else◌}
use Rattle.std.specs.Prelude.{option_map}
use Rattle.std.proofs.lemmas.Bool.{and_parts}
use Rattle.cilk_laws_model.specs.labelled.Labelled.{Labelled, Numbered}
use Rattle.cilk_laws_model.specs.labelled.Items.{head_of}
use Rattle.cilk_laws_model.specs.model.Values.{Values, Cell}
use Rattle.cilk_laws_model.specs.model.Path.{Path, same_path, parent_of, is_below}
use Rattle.cilk_laws_model.specs.model.Instance.{Activation, Delivery, Instance, entered}
use Rattle.cilk_laws_model.specs.model.State.{Entry, Instances, State, instance_at, changed, without, is_empty}
use Rattle.cilk_laws_model.specs.model.Change.{gone_on, put, on_lowest, above, resumed_to, resumed, head_waits, at_boundary, deliveries}
use Rattle.cilk_laws_model.specs.model.Change.{with_deliveries, after_return_to, after_marks}
use Rattle.cilk_laws_model.specs.model.Event.{acted}
use Rattle.cilk_laws_model.specs.model.Pick.{Step, step_of_live, step_of_instance}
use Rattle.cilk_laws_model.specs.model.Choice.{Choice}
use Rattle.cilk_laws_model.specs.model.Run.{Standing, Position, waits_now, step_refusal, act_refusal, refusal_of, next_of, next_by, next_by_hand}
use Rattle.cilk_laws_model.specs.model.Run.{event_of, event_by, event_by_hand, event_of_step, state_after}
use Rattle.cilk_laws_model.specs.model.ViewTrees.{lowest}
use Rattle.cilk_laws_model.proofs.Entries.{same-is, at-changed_same, at-changed_other, at-without_other, either_of, at-push}
use Rattle.cilk_laws_model.proofs.Possible.{possible}
use Rattle.cilk_laws_model.proofs.Lookups.{marked, at-marked_below, at-marked_beside}
use Rattle.cilk_laws_model.proofs.Paths.{not_below}
use Rattle.cilk_laws.specs.Inlets.{runs_inlet, in_inlet, IsStep, StandsStill, GoesOn, Alone, acts, traps, parks, ends, Unmoved}
use Rattle.cilk_laws.specs.ChildLaws.{InletsRunAlone, OthersLeaveIt}
use Rattle.cilk_laws.proofs.Runs.{Stepped, Rested, what_happens, led}
use Rattle.cilk_laws.proofs.Ways.{Acting, Way, resting, parking, ending, stopping, going, writing, entering, quitting, answering, returning, starting}
use Rattle.cilk_laws.proofs.Ways.{printing, turning_lock, aborts, placing, letting_in, way_of}
use Rattle.cilk_laws.proofs.Suited.{Suited, head_suits, of_inlet, spawned_by, each_suits}
use Rattle.cilk_check.specs.FormFinds.{is_inlet}
use Rattle.cilk_machine.specs.plans.effects.Known.{owner_of}

-- above the procedure's own activation
inlet_above : (program : Labelled) (a : Activation) (below : List Activation) → runs_inlet program a below ≡ true → is_empty below ≡ false
inlet_above program a [] h = cc
inlet_above program a (b ∷ below) h = refl

runs_top : (program : Labelled) (a c : Activation) (below : List Activation) → c.body ≡ a.body → runs_inlet program c below ≡ runs_inlet program a below
runs_top program a c [] e = refl
runs_top program a c (b ∷ []) e = ap (λ x. is_inlet (owner_of program x)) e
runs_top program a c (b ∷ d ∷ below) e = refl

runs_lowest : (program : Labelled) (a : Activation) (f : Values → Values) (below : List Activation)
    → runs_inlet program a (on_lowest f below) ≡ runs_inlet program a below
runs_lowest program a f [] = refl
runs_lowest program a f (b ∷ []) = refl
runs_lowest program a f (b ∷ c ∷ []) = refl
runs_lowest program a f (b ∷ c ∷ d ∷ below) = runs_lowest program b f (c ∷ d ∷ below)

runs_above : (program : Labelled) (a t : Activation) (below : List Activation) → is_empty below ≡ false
    → runs_inlet program a (t ∷ below) ≡ runs_inlet program t below
runs_above program a t [] e = cc
runs_above program a t (b ∷ below) e = refl

lowest_top : (a c : Activation) (below : List Activation) → c.items ≡ a.items ⊎ is_empty below ≡ false → (lowest c below).items ≡ (lowest a below).items
lowest_top a c [] (inl e) = e
lowest_top a c [] (inr e) = cc
lowest_top a c (b ∷ below) e = refl

lowest_put : (a : Activation) (f : Values → Values) (below : List Activation) → (lowest a (on_lowest f below)).items ≡ (lowest a below).items
lowest_put a f [] = refl
lowest_put a f (b ∷ []) = refl
lowest_put a f (b ∷ c ∷ below) = lowest_put b f (c ∷ below)

and_above : (a b : Bool) → b ≡ false → (a && not b) ≡ a
and_above true true e = cc
and_above false true e = cc
and_above true false e = refl
and_above false false e = refl

-- what a step makes of the instance
record Onward (program : Labelled) (i j : Instance) : Type 0 where
  pub still : StandsStill i j
  pub runs : (in_inlet program j ≡ true) ⊎ (j.below ≡ [])

module _ (program : Labelled) (i : Instance) (inside : in_inlet program i ≡ true) where
  up : is_empty i.below ≡ false
  up = inlet_above program i.top i.below inside

  gone_onward : (z : ℤ) → Onward program i (gone_on z i)
  gone_onward z = record {
    still = record { items = lowest_top i.top _ i.below (inr up); spawned = and_above i.spawned (is_empty i.below) up; children = refl; waiting = refl };
    runs = inl (runs_top program i.top (gone_on z i).top i.below refl ∙ inside);
  }

  put_onward : (cell : Cell) (z : ℤ) (j : Instance) → Onward program i j → Onward program i (put cell z j)
  put_onward cell z j h = record {
    still = record {
      items = lowest_put _ _ j.below ∙ lowest_top j.top _ j.below (inl refl) ∙ h.still.items;
      spawned = h.still.spawned;
      children = h.still.children;
      waiting = h.still.waiting;
    };
    runs = by h.runs;
  }
    where
      by : (in_inlet program j ≡ true) ⊎ (j.below ≡ []) → (in_inlet program (put cell z j) ≡ true) ⊎ ((put cell z j).below ≡ [])
      by (inl e) = inl (runs_lowest program _ _ j.below ∙ runs_top program j.top _ j.below refl ∙ e)
      by (inr e) = inr (ap (on_lowest _) e)

  above_onward : (a : Activation) → Onward program i (above a (gone_on (pos 1) i))
  above_onward a =
      let on = gone_onward (pos 1) in
      record {
        still = record {
          items = lowest_top i.top _ i.below (inr up);
          spawned = on.still.spawned;
          children = refl;
          waiting = refl;
        };
        runs = inl (runs_above program a (gone_on (pos 1) i).top i.below up ∙ runs_top program i.top (gone_on (pos 1) i).top i.below refl ∙ inside);
      }

  resumed_onward : (below : List Activation) → i.below ≡ below → Onward program i (resumed_to i below)
  resumed_onward [] e = let both : true ≡ false = sym (ap is_empty e) ∙ up in cc
  resumed_onward (b ∷ below) e = record {
    still = record {
      items = sym (ap (λ (x : List Activation). (lowest i.top x).items) e);
      spawned = refl;
      children = refl;
      waiting = refl;
    };
    runs = by below (sym (ap (runs_inlet program i.top) e) ∙ inside);
  }
    where
      by : (rest : List Activation) → runs_inlet program i.top (b ∷ rest) ≡ true → (runs_inlet program b rest ≡ true) ⊎ (rest ≡ [])
      by [] h = inr refl
      by (c ∷ rest) h = inl h

  module _ (s : State) (p : Path) (here : instance_at s.instances p ≡ Some i) where
    replaced : (j : Instance) → instance_at (changed p (λ _. j) s.instances) p ≡ Some j
    replaced j = at-changed_same p (λ _. j) s.instances ∙ ap (option_map (λ (x : Instance). j)) here

    goes : (j : Instance) → Onward program i j → GoesOn program p i (changed p (λ _. j) s.instances)
    goes j h = record { later = j; lives = replaced j; still = h.still; runs = h.runs }

    marks : GoesOn program p i (after_marks s p i).instances
    marks =
        let on = gone_onward (pos 1) in
        record {
          later = gone_on (pos 1) i;
          lives = at-marked_beside p p (changed p (λ _. gone_on (pos 1) i) s.instances) (not_below p) ∙ replaced (gone_on (pos 1) i);
          still = on.still;
          runs = on.runs;
        }

    not_alone : {A : Type 0} → is_empty i.below ≡ true → A
    not_alone e = let both : true ≡ false = sym e ∙ up in cc

    no_boundary : {A : Type 0} → at_boundary i ≡ true → A
    no_boundary e = not_alone (and_parts (is_empty i.below) (i.spawned || head_waits i (head_of i.top.items)) e).0

    moves_on : Suited program i → (head : Numbered) → Acting s p i head → (after : Instances) → GoesOn program p i after
        → Alone program (acted p head.number) p i after
    moves_on suited head acting after on =
        acts head.number head.act acting.unmarked acting.first (of_inlet program i.top i.below suited.stack inside) refl on

    alone_by : Suited program i → (taken : Step) → Way program s p i taken → waits_now taken ≡ None
        → Alone program (event_of_step taken) p i (state_after s taken).instances
    alone_by suited _ (resting unmarked) free = cc
    alone_by suited _ (parking (inl aborted)) free = parks aborted refl
    alone_by suited _ (parking (inr alone)) free = not_alone alone
    alone_by suited _ (ending aborted) free = ends aborted refl
    alone_by suited _ (stopping n kind unmarked) free = traps kind n unmarked refl
    alone_by suited _ (going head z acting sort) free = moves_on suited head acting _ (goes (gone_on z i) (gone_onward z))
    alone_by suited _ (writing head cell z acting sort) free =
        moves_on suited head acting _ (goes (put cell z (gone_on (pos 1) i)) (put_onward cell z (gone_on (pos 1) i) (gone_onward (pos 1))))
    alone_by suited _ (entering head awaits callee zs acting sort) free =
        moves_on suited head acting _
        (goes (above (entered program callee zs awaits) (gone_on (pos 1) i)) (above_onward (entered program callee zs awaits)))
    alone_by suited _ (quitting head acting sort higher) free = moves_on suited head acting _ (goes (resumed i) (resumed_onward i.below refl))
    alone_by suited _ (answering head cell z acting sort higher) free =
        moves_on suited head acting _ (goes (put cell z (resumed i)) (put_onward cell z (resumed i) (resumed_onward i.below refl)))
    alone_by suited _ (returning head z acting sort alone) free = not_alone alone
    alone_by suited _ (starting head receiver callee zs acting written) free =
        not_alone (spawned_by program (is_empty i.below) head.act written.taker written.is (head_suits program i.top i.below head suited.stack acting.first)).0
    alone_by suited _ (printing head bytes acting sort) free = moves_on suited head acting _ (goes (gone_on (pos 1) i) (gone_onward (pos 1)))
    alone_by suited _ (turning_lock head k now acting sort) free = moves_on suited head acting _ (goes (gone_on (pos 1) i) (gone_onward (pos 1)))
    alone_by suited _ (aborts head acting sort) free = moves_on suited head acting _ marks
    alone_by suited _ (placing oldest others cell z n taking) free = no_boundary taking.boundary
    alone_by suited _ (letting_in oldest others inlet ys zs n taking is) free = no_boundary taking.boundary

-- the choice is that step
step_event : (program : Labelled) (at : Standing) (choice : Choice) (p : Path) (i : Instance) → IsStep at choice p i
    → event_of program at choice ≡ event_of_step (step_of_instance program at.state p i)
step_event program at choice p i is =
    ap (event_by program at choice.worker) is.by_step ∙ ap (event_by_hand program at.state) is.in_hand
    ∙ ap (λ o. event_of_step (step_of_live program at.state p o)) is.lives

step_leads : (program : Labelled) (at : Standing) (choice : Choice) (p : Path) (i : Instance) → IsStep at choice p i
    → (next_of program at choice).state ≡ state_after at.state (step_of_instance program at.state p i)
step_leads program at choice p i is =
    ap (λ a. (next_by program at choice.worker a).state) is.by_step ∙ ap (λ o. (next_by_hand program at choice.worker o).state) is.in_hand
    ∙ ap (λ o. state_after at.state (step_of_live program at.state p o)) is.lives

step_free : (program : Labelled) (at : Standing) (choice : Choice) (p : Path) (i : Instance) → IsStep at choice p i
    → refusal_of program at choice ≡ None → waits_now (step_of_instance program at.state p i) ≡ None
step_free program at choice p i is free =
    sym
    (ap (act_refusal program at choice.worker) is.by_step ∙ ap (step_refusal program at.state) is.in_hand
    ∙ ap (λ o. waits_now (step_of_live program at.state p o)) is.lives)
    ∙ (possible program at choice free).act

pub inlets_run_alone : InletsRunAlone
inlets_run_alone program suits n choices choice at next leads p i is inside =
    let s = at.standing.state in
    let went = led program n choices choice at next leads in
    let suited = each_suits program suits n choices at leads.before p i is.lives in
    let alone = alone_by program i inside s p is.lives suited (step_of_instance program s p i) (way_of program s p i)
    (step_free program at.standing choice p i is went.possible) in
    subst (λ (x : Position). Alone program (event_of program at.standing choice) p i x.standing.state.instances) (sym went.result)
    (subst (λ (x : State). Alone program (event_of program at.standing choice) p i x.instances) (sym (step_leads program at.standing choice p i is))
    (subst (λ e. Alone program e p i (state_after s (step_of_instance program s p i)).instances) (sym (step_event program at.standing choice p i is)) alone))

-- the step of another
module _ (program : Labelled) (s : State) (q : Path) (k : Instance) (there : instance_at s.instances q ≡ Some k) (p : Path) (i : Instance)
    (here : instance_at s.instances p ≡ Some i) (other : same_path p q ≡ false) where
  as_it_was : (after : Instances) → instance_at after p ≡ Some i → Unmoved i p after
  as_it_was after e = record { later = i; lives = e; top = refl; below = refl }

  beside : (j : Instance) → Unmoved i p (changed q (λ _. j) s.instances)
  beside j = as_it_was (changed q (λ _. j) s.instances) (at-changed_other q p (λ _. j) s.instances other ∙ here)

  without_it : Unmoved i p (without q s.instances)
  without_it = as_it_was (without q s.instances) (at-without_other q p s.instances other ∙ here)

  returned_by : (z : ℤ) (o : Option Path) → Unmoved i p (after_return_to o s q k z).instances
  returned_by z None = without_it
  returned_by z (Some r) = by (same_path p r) refl
    where
      new : List Delivery
      new = deliveries q z k.receiver k.aborted

      by : (b : Bool) → same_path p r ≡ b → Unmoved i p (changed r (with_deliveries (deliveries q z k.receiver k.aborted)) (without q s.instances))
      by true e = record {
        later = with_deliveries (deliveries q z k.receiver k.aborted) i;
        lives =
            ap (instance_at (changed r (with_deliveries (deliveries q z k.receiver k.aborted)) (without q s.instances))) (same-is p r e)
            ∙ at-changed_same r (with_deliveries (deliveries q z k.receiver k.aborted)) (without q s.instances)
            ∙ ap (λ x. option_map (with_deliveries (deliveries q z k.receiver k.aborted)) (instance_at (without q s.instances) x)) (sym (same-is p r e))
            ∙ ap (option_map (with_deliveries (deliveries q z k.receiver k.aborted))) (at-without_other q p s.instances other ∙ here);
        top = refl;
        below = refl;
      }
      by false e =
          as_it_was (changed r (with_deliveries (deliveries q z k.receiver k.aborted)) (without q s.instances))
          (at-changed_other r p (with_deliveries (deliveries q z k.receiver k.aborted)) (without q s.instances) e
          ∙ at-without_other q p s.instances other ∙ here)

  pushed : (j : Instance) (e : Entry) → Unmoved i p (changed q (λ _. j) s.instances ++ e ∷ [])
  pushed j e =
      let before : instance_at (changed q (λ _. j) s.instances) p ≡ Some i = at-changed_other q p (λ _. j) s.instances other ∙ here in
      as_it_was (changed q (λ _. j) s.instances ++ e ∷ [])
      (at-push (changed q (λ _. j) s.instances) e p ∙ ap (λ o. either_of o (if same_path e.path p then Some e.instance else None)) before)

  marks_it : Unmoved i p (after_marks s q k).instances
  marks_it = by (is_below q p) refl
    where
      before : instance_at (changed q (λ _. gone_on (pos 1) k) s.instances) p ≡ Some i
      before = at-changed_other q p (λ _. gone_on (pos 1) k) s.instances other ∙ here

      by : (b : Bool) → is_below q p ≡ b → Unmoved i p (after_marks s q k).instances
      by true e = record {
        later = marked i;
        lives = at-marked_below q p (changed q (λ _. gone_on (pos 1) k) s.instances) e ∙ ap (option_map marked) before;
        top = refl;
        below = refl;
      }
      by false e = as_it_was (after_marks s q k).instances (at-marked_beside q p (changed q (λ _. gone_on (pos 1) k) s.instances) e ∙ before)

  left_by : {taken : Step} → Way program s q k taken → Unmoved i p (state_after s taken).instances
  left_by (resting unmarked) = as_it_was s.instances here
  left_by (parking why) = as_it_was s.instances here
  left_by (ending aborted) = without_it
  left_by (stopping n kind unmarked) = as_it_was s.instances here
  left_by (going head z acting sort) = beside (gone_on z k)
  left_by (writing head cell z acting sort) = beside (put cell z (gone_on (pos 1) k))
  left_by (entering head awaits callee zs acting sort) = beside (above (entered program callee zs awaits) (gone_on (pos 1) k))
  left_by (quitting head acting sort higher) = beside (resumed k)
  left_by (answering head cell z acting sort higher) = beside (put cell z (resumed k))
  left_by (returning head z acting sort alone) = returned_by z (parent_of q)
  left_by (starting head receiver callee zs acting written) = pushed _ _
  left_by (printing head bytes acting sort) = beside (gone_on (pos 1) k)
  left_by (turning_lock head l now acting sort) = beside (gone_on (pos 1) k)
  left_by (aborts head acting sort) = marks_it
  left_by (placing oldest others cell z n taking) = beside (put cell z (record k { waiting = others }))
  left_by (letting_in oldest others inlet ys zs n taking is) = beside (above (entered program inlet zs None) (record k { waiting = others }))

unmoved_by : (program : Labelled) (at : Standing) (choice : Choice) (p : Path) (i : Instance) → instance_at at.state.instances p ≡ Some i
    → ¬ IsStep at choice p i
    → Stepped program at choice ⊎ Rested program at choice → Unmoved i p (next_of program at choice).state.instances
unmoved_by program at choice p i here other (inr rested) =
    subst (λ (x : State). Unmoved i p x.instances) (sym rested.leads) (record { later = i; lives = here; top = refl; below = refl })
unmoved_by program at choice p i here other (inl stepped) =
    subst (λ (x : State). Unmoved i p x.instances) (sym stepped.leads)
    (left_by program at.state stepped.path stepped.instance stepped.lives p i here (apart (same_path p stepped.path) refl)
    (way_of program at.state stepped.path stepped.instance))
  where
    apart : (b : Bool) → same_path p stepped.path ≡ b → same_path p stepped.path ≡ false
    apart true e =
        let is = same-is p stepped.path e in
        absurd (other (record { by_step = stepped.by_step; in_hand = stepped.in_hand ∙ ap (λ x. Some x) (sym is); lives = here }))
    apart false e = e

pub others_leave_an_inlet : OthersLeaveIt
others_leave_an_inlet program n choices choice at next leads p i here other =
    subst (λ (x : Position). Unmoved i p x.standing.state.instances) (sym (led program n choices choice at next leads).result)
    (unmoved_by program at.standing choice p i here other (what_happens program at.standing choice))
