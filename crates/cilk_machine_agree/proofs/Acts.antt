-- What an instance does by itself.
use Rattle.std.proofs.Common.{◌≡◌, ℕ, List, Option, Some, None, is_some, sym, ap, ◌∙◌, subst, inl, inr, slice_set}
use Rattle.std.specs.Prelude.{option_map}
use Rattle.cilk_laws_model.specs.labelled.Bodies.{label}
use Rattle.cilk_laws_model.specs.model.Instance.{Instance}
use Rattle.cilk_laws_model.specs.model.State.{State}
use Rattle.cilk_laws_model.specs.model.Hands.{with_hand, named}
use Rattle.cilk_laws_model.specs.model.Scheduler as sched
use Rattle.cilk_sched.specs.frame.Frames.{Frame}
use Rattle.cilk_sched.specs.frame.Stands.{StandsFor}
use Rattle.cilk_spawn.specs.Nodes.{Node, node_at, is_live, path_at}
use Rattle.cilk_spawn.proofs.Lists.{decide}
use Rattle.cilk_sched.specs.Count.{AllHeld}
use Rattle.cilk_sched.proofs.PathNames.{named-with_hand, hand_of-named}
use Rattle.cilk_machine_agree.specs.Outside.{Outside}
use Rattle.cilk_machine_agree.specs.Agrees.{Held, instead, name_in}
use Rattle.cilk_machine_agree.specs.Laws.{InHand, Becomes, Local}
use Rattle.cilk_machine_agree.proofs.Sets.{sets, instead-here}
use Rattle.cilk_machine_agree.proofs.Change.{change}
use Rattle.cilk_machine_agree.proofs.Frames.{hand-over, held-with_hand, hand-kept-by}
use Rattle.cilk_machine_agree.proofs.Alone.{holds, inside, free, others-stand}

pub not-some : (o : Option Frame) (g : Frame) → o ≡ None → o ≡ Some g → ⊥
not-some o g none some = let e : None ≡ Some g = sym none ∙ some in cc

module _ (t : InHand) where
  abbrev ns : List Node
  ns = t.machine.nodes

  abbrev k : ℕ
  k = t.frame.id

  -- with another frame of its own in the hand
  pub hand-stands : (f : Frame) (a : Instance) → f.id ≡ k → StandsFor (label t.program) f a
      → AllHeld (Held t.program ns (instead t.who k a)) (with_hand t.machine.places t.worker (Some f))
  hand-stands f a own stands =
      let H = Held t.program ns (instead t.who k a) in
      subst (AllHeld H) (hand-over t.machine.places t.worker None (Some f) t.is_worker)
      (held-with_hand H (with_hand t.machine.places t.worker None) t.worker (Some f) (others-stand t a)
      (record {
        live = ap (λ i. is_live (node_at ns i)) own
            ∙ (holds t).live;
        stands = subst (StandsFor (label t.program) f) (sym (instead-here t.who k a f.id own)) stands;
      }))

  -- the hand goes by the same path
  pub hand-same : (f : Frame) → f.id ≡ k → t.at.scheduler.places ≡ named (name_in ns) (with_hand t.machine.places t.worker (Some f))
  hand-same f own =
      hand-kept-by t.at.scheduler.places t.worker (name_in ns t.frame)
      ((λ i. sched.hand_of (t.agrees.places i) t.worker) ∙ hand_of-named (name_in ns) t.machine.places t.worker ∙ ap (option_map (name_in ns)) t.hand)
      ∙ (λ i. sched.with_hand (t.agrees.places i) t.worker (Some (path_at ns (sym own i))))
      ∙ sym (named-with_hand (name_in ns) t.machine.places t.worker (Some f))

  pub local-agrees : (f : Frame) (n : Node) (a : Instance) (o : Outside) (s : State) → Local t f n a o s → Becomes t f n a o s
  local-agrees f n a o s l =
      let set = sets ns k n t.agrees.tree (inside t) l.links l.from in
      change t.program t.machine t.who t.at t.agrees k _ n (λ _. a) o (with_hand t.machine.places t.worker (Some f)) (record t.at { state = s })
      (record {
        there = inside t;
        sets = set;
        tells = λ live. l.tells;
        outside = l.outside;
        instances = l.instances;
        places = hand-same f l.own;
        parked = λ i h. t.agrees.parked i h ∙ elim (decide i k) [
          | inl e ↦ ap (λ j. is_some (node_at ns j).parked) e
              ∙ sym (ap (λ (x : Node). is_some x.parked) (ap (node_at (slice_set ns k n)) e ∙ set.own) ∙ ap is_some l.parked)
          | inr ne ↦ sym (ap (λ (x : Node). is_some x.parked) (set.others i ne))
        ];
        held = hand-stands f a l.own l.stands;
        waits = λ g live is. absurd (not-some (node_at ns k).parked g (free t) (sym l.parked ∙ is));
      })
