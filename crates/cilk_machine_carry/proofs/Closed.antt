-- The frame of an instance that is no more is spent.
use Rattle.std.proofs.Common.{◌≡◌, ℕ, ℤ, List, map, Option, Some, None, refl, sym, ap, ◌∙◌}
use Rattle.cilk_machine_plan.specs.model.Hands.{hand_of, with_hand}
use Rattle.cilk_machine_plan.specs.nodes.declared.body.Body.{Body}
use Rattle.cilk_machine_plan.specs.frame.Frames.{Frame}
use Rattle.cilk_machine_plan.specs.spawn.declared.fate.Fate.TheVariants as fate
use Rattle.cilk_machine_plan.specs.spawn.Nodes.{Node, node_at, ended}
use Rattle.cilk_machine_plan.specs.agree.Outside as outside
use Rattle.cilk_machine_plan.specs.agree.Outside.{Outside}
use Rattle.cilk_machine_plan.specs.agree.Agrees.{MachineParts}
use Rattle.cilk_machine_plan.specs.agree.Laws.{sent, released}
use Rattle.cilk_machine_plan.proofs.agree_laws.Frames.{given-back}
use Rattle.cilk_machine_plan.specs.declared.plan.Plan.TheVariants as plan
use Rattle.cilk_machine_plan.specs.declared.did.Did.{Did}
use Rattle.cilk_machine_plan.specs.declared.did.Did.TheVariants as did
use Rattle.cilk_machine_plan.specs.declared.did.Outcome.{Outcome}
use Rattle.cilk_machine_plan.specs.PartWords.{outcome_of}
use Rattle.cilk_machine_plan.specs.Carried.{nodes_awake, places_awake, awake_in, handed_back, outside_given, value_outcome, Carried}

closed : (m now : MachineParts) (w : ℕ) (o : Outside) (ns : List Node) (parent : Option ℕ) → hand_of m.places w ≡ None → now.outside ≡ o
    → now.nodes ≡ nodes_awake ns parent → now.places ≡ places_awake m.places w (awake_in ns parent) → now ≡ handed_back m w o ns parent
closed m now w o ns parent empty same nodes places =
    let still : with_hand m.places w None ≡ m.places = ap (with_hand m.places w) (sym empty) ∙ given-back m.places w in
    let back : now.places ≡ places_awake (with_hand m.places w None) w (awake_in ns parent) =
    places ∙ ap (λ ps. places_awake ps w (awake_in ns parent)) (sym still) in
    λ j. record { outside = same j; nodes = nodes j; places = back j }

pub ended-carried : (choice : ℕ) (m now : MachineParts) (w : ℕ) (f : Frame) (body : Option Body) (told : Did) (id : ℕ) (parent : Option ℕ)
    → hand_of m.places w ≡ None → id ≡ f.id → parent ≡ (node_at m.nodes id).parent
    → now.outside ≡ record m.outside { locks = map (released id) m.outside.locks }
    → now.nodes ≡ nodes_awake (ended m.nodes f.id (fate.Aborted choice)) parent
    → now.places ≡ places_awake m.places w (awake_in (ended m.nodes f.id (fate.Aborted choice)) parent)
    → told ≡ did.Ended id → Carried choice m w f body plan.End now told
ended-carried choice m now w f body told id parent empty own above same nodes places tells =
    let at : parent ≡ (node_at m.nodes f.id).parent = above ∙ ap (λ k. (node_at m.nodes k).parent) own in
    let ns = ended m.nodes f.id (fate.Aborted choice) in
    record {
      machine = closed m now w (record m.outside { locks = map (released f.id) m.outside.locks }) ns (node_at m.nodes f.id).parent empty
          (same ∙ ap (λ k. record m.outside { locks = map (released k) m.outside.locks }) own) (nodes ∙ ap (nodes_awake ns) at)
          (places ∙ ap (λ o. places_awake m.places w (awake_in ns o)) at);
      did = tells ∙ ap (λ k. did.Ended k) own;
    }

given-is : (o : Outside) (z : ℤ) (parent : Option ℕ) → o.outcome ≡ outside.running
    → record o { outcome = outcome_of (value_outcome z parent) } ≡ outside_given o z parent
given-is o z None runs = refl
given-is o z (Some r) runs = λ j. record o { outcome = sym runs j }

pub returned-carried : (choice : ℕ) (m now : MachineParts) (w : ℕ) (f : Frame) (body : Option Body) (told : Did) (id n : ℕ) (z y : ℤ) (outcome : Outcome)
    → y ≡ z → hand_of m.places w ≡ None → m.outside.outcome ≡ outside.running → id ≡ f.id
    → outcome ≡ value_outcome y (node_at m.nodes f.id).parent → now.outside ≡ record m.outside { outcome = outcome_of outcome }
    → now.nodes ≡ nodes_awake (ended (sent m.nodes f.id y) f.id fate.Returned) (node_at m.nodes f.id).parent
    → now.places ≡ places_awake m.places w (awake_in (ended (sent m.nodes f.id y) f.id fate.Returned) (node_at m.nodes f.id).parent)
    → told ≡ did.Returned id n → Carried choice m w f body (plan.Return n z) now told
returned-carried choice m now w f body told id n z y outcome same_value empty runs own gives same nodes places tells =
    let parent = (node_at m.nodes f.id).parent in
    let ns : ℤ → List Node = λ v. ended (sent m.nodes f.id v) f.id fate.Returned in
    record {
      machine = closed m now w (outside_given m.outside z parent) (ns z) parent empty
          (same ∙ ap (λ (v : Outcome). record m.outside { outcome = outcome_of v }) (gives ∙ ap (λ v. value_outcome v parent) same_value)
          ∙ given-is m.outside z parent runs)
          (nodes ∙ ap (λ v. nodes_awake (ns v) parent) same_value)
          (places ∙ ap (λ v. places_awake m.places w (awake_in (ns v) parent)) same_value);
      did = tells ∙ ap (λ k. did.Returned k n) own;
    }
