-- A private step of a worker, as a machine shows it.
use Rattle.std.proofs.Common.{◌≡◌, ◌≢◌, Bool, false, ◌&&◌, ℕ, Some, None, refl, sym, ap, ◌∙◌}
use Rattle.std.specs.Prelude.{is_none, option_map, Result, Ok, Err, IfOk}
use Rattle.cilk_machine_undo.specs.labelled.Bodies.{label}
use Rattle.cilk_sched.specs.model.Scheduler as sched
use Rattle.cilk_sched.specs.model.Hands.{hand_of}
use Rattle.cilk_sched.specs.model.Run.{Standing, event_by_hand, event_of, event_of_step}
use Rattle.cilk_machine_undo.proofs.effects_laws.KnownActions.{heads, follows}
use Rattle.cilk_machine_undo.proofs.agree_laws.Asked.{asked}
use Rattle.cilk_machine_undo.specs.agree.Agrees.{name_in}
use Rattle.cilk_machine_undo.specs.agree.Laws.{InHand, instance_of}
use Rattle.cilk_machine_undo.specs.frame.Frames.{Frame}
use Rattle.cilk_machine_undo.specs.plans.Plans.{step_in}
use Rattle.cilk_machine_undo.specs.plans.StepInput.{StepInput}
use Rattle.cilk_machine_undo.specs.spawn.Nodes.{path_at}
use Rattle.cilk_machine_step.specs.Owned as owned
use Rattle.cilk_machine_step.specs.Private as private
use Rattle.cilk_machine_step.specs.Private.{is_private, stepping, is_acted}
use Rattle.cilk_machine_step.proofs.Owning.{private-is}
use Rattle.cilk_sched.specs.declared.act.Act.TheVariants.{Step}
use Rattle.cilk_sched.specs.declared.refusal.Refusal.{Refusal}
use Rattle.cilk_sched.specs.declared.refusal.Refusal.TheVariants.{Over, NoWorker, HandEmpty, Busy, DequeEmpty, Waiting, Memory, Stale}
use Rattle.cilk_sched.specs.Words.{reason_of}
use Rattle.cilk_machine.specs.Situation.{Situation, input_at}
use Rattle.cilk_machine.specs.Stands.{StandsAt, IsSound}
use Rattle.cilk_machine.specs.Refused.{refused_by}
use Rattle.cilk_machine.specs.Made.{IsRefused}
use Rattle.cilk_machine.proofs.Refusals.{in-hand-of, hand-is}
use Rattle.cilk_machine.proofs.Free.{frees, free-refused}

pub reason-some : (r : Refusal) → Some r ≢ Some Memory → is_none (reason_of r) ≡ false
reason-some Over h = refl
reason-some NoWorker h = refl
reason-some HandEmpty h = refl
reason-some Busy h = refl
reason-some DequeEmpty h = refl
reason-some Waiting h = refl
reason-some Memory h = absurd (h refl)
reason-some Stale h = refl

-- a step that is refused is not private
pub refused-not : (m : Situation) (w : ℕ) (r : Refusal) → Some r ≢ Some Memory → IsRefused m (stepping w) (reason_of r)
    → (at : Standing) → StandsAt m at → false ≡ is_private (label m.program) at w
refused-not m w r told refused at s =
    ap (λ (b : Bool). b && (private.owns_next at.state.instances (sched.hand_of at.scheduler.places w)
    && is_acted (event_of (label m.program) at (stepping w))))
    (sym (ap is_none (refused at s) ∙ reason-some r told))

-- that of the frame in a hand is private where a scene shows it so
module _ (m : Situation) (sound : IsSound m) (w : ℕ) (free : refused_by m (record { worker = w; act = Step }) ≡ None) (f : Frame)
    (held : Some f ≡ hand_of m.machine.places w) (at : Standing) (s : StandsAt m at) where
  abbrev t : InHand
  t = in-hand-of m s.choices s.events at s.led w f (frees m (record { worker = w; act = Step }) free).worker (sym held)

  -- the path of the instance stands in the hand
  in_hand : sched.hand_of at.scheduler.places w ≡ Some (path_at m.machine.nodes f.id)
  in_hand =
      hand-is m sound.well_formed s.choices s.events at s.led w ∙ ap (option_map (name_in m.machine.nodes)) (sym held)

  here : owned.is_private (input_at m f)
      ≡ (private.owns_live (Some (instance_of t)) && is_acted (event_of_step (step_in t)))
  here =
      private-is t (record {
        well = sound.well_formed;
        heads = λ b answers head there at. heads m.program b answers head sound.well_formed there at;
        follows = λ b answers answer head there at goes. follows m.program b answers answer head sound.well_formed there at goes;
      }) (asked t)

  pub private-here : owned.is_private (input_at m f) ≡ is_private (label m.program) at w
  private-here =
      here
      ∙ ap (λ o. private.owns_live o && is_acted (event_by_hand (label m.program) at.state (Some (path_at m.machine.nodes f.id)))) (sym (asked t).there)
      ∙ ap (λ o. private.owns_next at.state.instances o && is_acted (event_by_hand (label m.program) at.state o)) (sym in_hand)
      ∙ ap (λ (b : Bool). b && (private.owns_next at.state.instances (sched.hand_of at.scheduler.places w)
      && is_acted (event_of (label m.program) at (stepping w))))
      (sym (ap is_none (free-refused m sound.well_formed (record { worker = w; act = Step }) free at s)))

-- whatever the scene is called
pub private-by : {E : Type 0} (r : Result Bool E) (m : Situation) → IsSound m → (w : ℕ) → refused_by m (record { worker = w; act = Step }) ≡ None
    → (f : Frame) → Some f ≡ hand_of m.machine.places w → (g : StepInput) → g ≡ input_at m f → IfOk r (λ b. b ≡ owned.is_private g)
    → IfOk r (λ b. (at : Standing) → StandsAt m at → b ≡ is_private (label m.program) at w)
private-by (Ok b) m sound w free f held g is told = λ at s. told ∙ ap owned.is_private is ∙ private-here m sound w free f held at s
private-by (Err e) m sound w free f held g is told = tt
