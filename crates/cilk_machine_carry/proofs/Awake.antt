-- A parked parent that can go on comes to the hand, and a hand that was emptied takes a frame.
use Rattle.std.proofs.Common.{◌≡◌, ◌≢◌, ℕ, length, Bool, true, false, List, Option, Some, None, refl, sym, ◌∙◌, slice_set, if◌then◌else◌}
use Rattle.std.proofs.lemmas.List.{set-get_or}
use Rattle.cilk_machine_plan.specs.model.Hands.{WorkerOf, IsWorker, with_hand}
use Rattle.cilk_machine_plan.specs.nodes.declared.body.Body.{Body}
use Rattle.cilk_machine_plan.specs.frame.Frames.{Frame}
use Rattle.cilk_machine_plan.specs.spawn.Nodes.{Node, no_node, node_at, with_child, with_parked}
use Rattle.cilk_machine_plan.specs.agree.Outside.{Outside}
use Rattle.cilk_machine_plan.specs.agree.Agrees.{MachineParts}
use Rattle.cilk_machine_plan.specs.agree.Laws.{can_go_on, woken, woken_by}
use Rattle.cilk_machine_plan.specs.agree.Actions.{past_spawn}
use Rattle.cilk_machine_plan.proofs.agree_laws.Frames.{hand-over}
use Rattle.cilk_machine_plan.proofs.agree_laws.Between.{hands-filled, hands-handed_on}
use Rattle.cilk_machine_plan.specs.declared.plan.Plan.{Plan}
use Rattle.cilk_machine_plan.specs.declared.plan.Plan.TheVariants as plan
use Rattle.cilk_machine_plan.specs.Carried.{nodes_awake, places_awake, awake_in, started_as, handed_back, after_plan}

-- nothing is parked there
not-parked : (ns : List Node) (r : ℕ) → (node_at ns r).parked ≡ None → with_parked ns r None ≡ ns
not-parked ns r none = (λ j. slice_set ns r (record (node_at ns r) { parked = sym none j })) ∙ set-get_or ns r no_node

-- both ways to say it
abbrev awake : MachineParts → ℕ → Option ℕ → MachineParts
awake m w o = record m { nodes = nodes_awake m.nodes o; places = places_awake m.places w (awake_in m.nodes o) }

woken-with : (m : MachineParts) (w r : ℕ) (o : Option Frame) (can : Bool) → (node_at m.nodes r).parked ≡ o
    → woken_by m w r o can
    ≡ record m { nodes = if can then with_parked m.nodes r None else m.nodes; places = places_awake m.places w (if can then o else None) }
woken-with m w r None true is = λ j. record m { nodes = sym (not-parked m.nodes r is) j }
woken-with m w r None false is = refl
woken-with m w r (Some g) true is = refl
woken-with m w r (Some g) false is = refl

pub woken-is : (m : MachineParts) (w : ℕ) (o : Option ℕ) → woken m w o ≡ awake m w o
woken-is m w None = refl
woken-is m w (Some r) = woken-with m w r (node_at m.nodes r).parked (can_go_on m.nodes r) refl

-- the hand was emptied
abbrev pub emptied : MachineParts → ℕ → MachineParts
emptied m w = record m { places = with_hand m.places w None }

abbrev seated : Outside → List Node → List (WorkerOf Frame) → MachineParts
seated o ns places = record { outside = o; nodes = ns; places = places }

module _ (m : MachineParts) (w : ℕ) (worker : IsWorker m.places w) where
  filled : (o : Outside) (ns : List Node) (f : Frame)
      → seated o ns (with_hand (with_hand m.places w None) w (Some f)) ≡ seated o ns (with_hand m.places w (Some f))
  filled o ns f = λ j. record { outside = o; nodes = ns; places = hands-filled m.places w f worker j }

  back : (o : Outside) (ns : List Node) (parent : Option ℕ) → handed_back (emptied m w) w o ns parent ≡ handed_back m w o ns parent
  back o ns parent = λ j. record {
    outside = o;
    nodes = nodes_awake ns parent;
    places = places_awake (hand-over m.places w None None worker j) w (awake_in ns parent);
  }

  -- it makes no difference that the frame was taken out first
  pub after-emptied : (choice : ℕ) (f : Frame) (body : Option Body) (x : Plan) → x ≢ plan.Wait
      → after_plan choice (emptied m w) w f body x ≡ after_plan choice m w f body x
  after-emptied choice f body plan.Wait goes = absurd (goes refl)
  after-emptied choice f body plan.Park goes = λ j. record {
    outside = m.outside;
    nodes = with_parked m.nodes f.id (Some f);
    places = hand-over m.places w None None worker j;
  }
  after-emptied choice f body plan.End goes = back _ _ (node_at m.nodes f.id).parent
  after-emptied choice f body (plan.Trap kind n) goes = filled _ _ f
  after-emptied choice f body (plan.Take child n reached z) goes = filled _ _ _
  after-emptied choice f body (plan.Enter child n inlet arguments) goes = filled _ _ _
  after-emptied choice f body (plan.Go n to) goes = filled _ _ _
  after-emptied choice f body (plan.Write n reached z to) goes = filled _ _ _
  after-emptied choice f body (plan.Call n awaits callee arguments to) goes = filled _ _ _
  after-emptied choice f body (plan.Leave n) goes = filled _ _ _
  after-emptied choice f body (plan.Answer n reached z) goes = filled _ _ _
  after-emptied choice f body (plan.Return n z) goes = back _ _ (node_at m.nodes f.id).parent
  after-emptied choice f body (plan.Spawn n receiver callee arguments to) goes = λ j. record {
    outside = m.outside;
    nodes = with_child m.nodes f.id callee receiver;
    places = hands-handed_on m.places w (past_spawn to f) (started_as body (length m.nodes) arguments) worker j;
  }
  after-emptied choice f body (plan.Print n bytes to) goes = filled _ _ _
  after-emptied choice f body (plan.TurnLock n lock now to) goes = filled _ _ _
  after-emptied choice f body (plan.Abort n to) goes = filled _ _ _
