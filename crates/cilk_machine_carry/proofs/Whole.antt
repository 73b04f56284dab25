-- The parts, where a worker has the frame of the plan in its hand.
use Rattle.std.proofs.Common.{◌≡◌, ◌≢◌, ℕ, List, length, Option, Some, None, sym, ap, ◌∙◌, subst}
use Rattle.std.proofs.lemmas.Option.{same_Some}
use Rattle.cilk_machine_plan.specs.model.Hands.{WorkerOf, IsWorker, hand_of, with_hand}
use Rattle.cilk_machine_plan.specs.nodes.declared.body.Body.{Body}
use Rattle.cilk_machine_plan.specs.frame.Frames.{Frame}
use Rattle.cilk_machine_plan.specs.agree.Outside as outside
use Rattle.cilk_machine_plan.specs.agree.Agrees.{MachineParts}
use Rattle.cilk_machine_plan.specs.agree.Laws.{InHand}
use Rattle.cilk_machine_plan.proofs.agree_laws.Between.{hands-restored}
use Rattle.cilk_machine_plan.specs.declared.plan.Plan.{Plan}
use Rattle.cilk_machine_plan.specs.declared.plan.Plan.TheVariants as plan
use Rattle.cilk_machine_plan.specs.declared.did.Done.{Done}
use Rattle.cilk_machine_plan.specs.declared.parts.Parts.{Parts}
use Rattle.cilk_machine_plan.specs.PartWords.{machine_of, outcome_of}
use Rattle.cilk_machine_plan.specs.Ready.{Ready}
use Rattle.cilk_machine_plan.specs.Carried.{Carried, after_plan, did_of}
use Rattle.cilk_machine_carry.specs.Carries.{Planned, CanCarry, Carries, Becomes, Stepped}
use Rattle.cilk_machine_carry.proofs.Awake.{emptied, after-emptied}
use Rattle.cilk_machine_carry.proofs.Agreements.{leads-by}
use Rattle.cilk_machine_carry.proofs.Readies.{ready}

module _ (choice : ℕ) (parts : Parts) (w : ℕ) (body : Option Body) (x : Plan) where
  pub worker-there : (t : InHand) → Planned parts w body x t → IsWorker parts.hands w
  worker-there t p = subst (λ v. IsWorker parts.hands v) p.worker (subst (λ m. IsWorker m.places t.worker) p.machine t.is_worker)

  pub hand-there : (t : InHand) → Planned parts w body x t → hand_of parts.hands w ≡ Some t.frame
  hand-there t p = (λ j. hand_of (sym p.machine j).places (sym p.worker j)) ∙ t.hand

  pub ready-there : CanCarry parts w body x → (f : Frame) → hand_of parts.hands w ≡ Some f → Ready choice parts.tree.nodes parts.globals.items f body x
  ready-there c f in_hand =
      let t = c.in_hand in
      let p = c.planned in
      subst (λ g. Ready choice parts.tree.nodes parts.globals.items g body x) (same_Some t.frame f (sym (hand-there t p) ∙ in_hand))
      (subst (λ m. Ready choice m.nodes m.outside.cells t.frame body x) p.machine (ready choice t c.few body x c.goes p.starts p.is_plan))

  pub carries-there : x ≢ plan.Wait → (f : Frame) (now : Parts) (done : Done) → hand_of parts.hands w ≡ Some f
      → Carried choice (emptied (machine_of parts outside.running) w) w f body x (machine_of now (outcome_of done.outcome)) done.did
      → Carries choice parts w body x now done
  carries-there goes f now done in_hand c = λ t p.
      let m = machine_of parts outside.running in
      let frame = same_Some f t.frame (sym in_hand ∙ hand-there t p) in
      let machine : machine_of now (outcome_of done.outcome) ≡ after_plan choice t.machine t.worker t.frame body x =
      c.machine ∙ after-emptied m w (worker-there t p) choice f body x goes ∙ (λ j. after_plan choice (sym p.machine j) (sym p.worker j) (frame j) body x) in
      let did : done.did ≡ did_of (length t.machine.nodes) t.frame x =
      c.did ∙ (λ j. did_of (length (sym p.machine j).nodes) (frame j) x) in
      subst (λ y. Stepped choice t y done.did) (sym machine)
      (subst (Stepped choice t (after_plan choice t.machine t.worker t.frame body x)) (sym did) (leads-by choice t body x goes p.starts p.is_plan))

  -- the same, where the frame stays in the hand
  pub carries-held : x ≢ plan.Wait → (f : Frame) (now : Parts) (done : Done) → hand_of parts.hands w ≡ Some f
      → Carried choice (machine_of parts outside.running) w f body x (machine_of now (outcome_of done.outcome)) done.did
      → Carries choice parts w body x now done
  carries-held goes f now done in_hand c = λ t p.
      let frame = same_Some f t.frame (sym in_hand ∙ hand-there t p) in
      let machine : machine_of now (outcome_of done.outcome) ≡ after_plan choice t.machine t.worker t.frame body x =
      c.machine ∙ (λ j. after_plan choice (sym p.machine j) (sym p.worker j) (frame j) body x) in
      let did : done.did ≡ did_of (length t.machine.nodes) t.frame x =
      c.did ∙ (λ j. did_of (length (sym p.machine j).nodes) (frame j) x) in
      subst (λ y. Stepped choice t y done.did) (sym machine)
      (subst (Stepped choice t (after_plan choice t.machine t.worker t.frame body x)) (sym did) (leads-by choice t body x goes p.starts p.is_plan))

  -- the frame was taken out first
  pub becomes-there : x ≢ plan.Wait → IsWorker parts.hands w → (f : Frame) (now : Parts) (done : Done) → hand_of parts.hands w ≡ Some f
      → Carried choice (emptied (machine_of parts outside.running) w) w f body x (machine_of now (outcome_of done.outcome)) done.did
      → Becomes choice parts w body x now done
  becomes-there goes worker f now done in_hand c = λ g held.
      let m = machine_of parts outside.running in
      let frame = same_Some f g (sym in_hand ∙ held) in
      record {
        machine = c.machine ∙ after-emptied m w worker choice f body x goes ∙ (λ j. after_plan choice m w (frame j) body x);
        did = c.did ∙ (λ j. did_of (length m.nodes) (frame j) x);
      }

  pub becomes-held : (f : Frame) (now : Parts) (done : Done) → hand_of parts.hands w ≡ Some f
      → Carried choice (machine_of parts outside.running) w f body x (machine_of now (outcome_of done.outcome)) done.did
      → Becomes choice parts w body x now done
  becomes-held f now done in_hand c = λ g held.
      let m = machine_of parts outside.running in
      let frame = same_Some f g (sym in_hand ∙ held) in
      record {
        machine = c.machine ∙ (λ j. after_plan choice m w (frame j) body x);
        did = c.did ∙ (λ j. did_of (length m.nodes) (frame j) x);
      }

-- what took the frame out and gave it back left all as it was
pub given-again : (m part : MachineParts) (w : ℕ) (f g : Frame) (places : List (WorkerOf Frame)) → IsWorker m.places w → hand_of m.places w ≡ Some f → g ≡ f
    → part ≡ emptied m w → places ≡ with_hand part.places w (Some g) → record part { places = places } ≡ m
given-again m part w f g places worker held same_frame same given =
    let back : places ≡ m.places =
    given ∙ (λ j. with_hand (same j).places w (Some (same_frame j))) ∙ ap (with_hand (with_hand m.places w None) w) (sym held)
    ∙ hands-restored m.places w worker in
    λ j. record { outside = (same j).outside; nodes = (same j).nodes; places = back j }
