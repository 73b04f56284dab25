-- Where an instance waits for its children, and where frames alone are moved.
use Rattle.std.proofs.Common.{◌≡◌, ℕ, Bool, true, false, ◌||◌, List, [], ◌∷◌, Some, None, is_some, refl, sym, ap, ◌∙◌, subst, arith, inl, inr}
use Rattle.std.proofs.Common.{slice_set, if◌then◌else◌}
use Rattle.cilk_laws_model.specs.syntax.Tree.{Program}
use Rattle.cilk_laws_model.specs.labelled.Bodies.{label}
use Rattle.cilk_laws_model.specs.model.Path.{Path, same_path}
use Rattle.cilk_laws_model.specs.model.Instance.{Instance}
use Rattle.cilk_laws_model.specs.model.State.{Entry, changed}
use Rattle.cilk_laws_model.specs.model.Hands.{WorkerOf, deque_of, with_hand, popped_by, stolen_by, named}
use Rattle.cilk_laws_model.specs.model.Scheduler as sched
use Rattle.cilk_laws_model.specs.model.Run.{Standing}
use Rattle.cilk_sched.specs.frame.Frames.{Frame}
use Rattle.cilk_sched.specs.frame.Stands.{StandsFor}
use Rattle.cilk_spawn.specs.Nodes.{Node, node_at, path_at}
use Rattle.cilk_spawn.proofs.Lists.{decide}
use Rattle.cilk_spawn.proofs.Paths.{same_here, other_there}
use Rattle.cilk_sched.specs.Count.{AllHeld}
use Rattle.cilk_sched.proofs.PathNames.{named-with_hand, named-popped, named-stolen}
use Rattle.cilk_machine_agree.specs.Agrees.{MachineParts, Held, Agrees, instead, name_in}
use Rattle.cilk_machine_agree.specs.Laws.{WaitingAgrees}
use Rattle.cilk_machine_agree.proofs.Sets.{sets, instead-here, instead-there}
use Rattle.cilk_machine_agree.proofs.Change.{change}
use Rattle.cilk_machine_agree.proofs.Frames.{held-at, held-with_hand, held-with_deque, all-above, all-bottom, all-below, all-top}
use Rattle.cilk_machine_agree.proofs.Alone.{holds, inside, others-stand}

instead_again : (who : ℕ → Instance) (k i : ℕ) → instead who k (who k) i ≡ who i
instead_again who k i =
    elim (decide i k) [
      | inl e ↦ instead-here who k (who k) i e ∙ ap who (sym e)
      | inr ne ↦ instead-there who k (who k) i ne
    ]

pub instead-same : (who : ℕ → Instance) (k : ℕ) → instead who k (who k) ≡ who
instead-same who k = λ j i. instead_again who k i j

unchanged_entry : (b : Bool) (e : Entry) → (if b then record e { instance = e.instance } else e) ≡ e
unchanged_entry true e = refl
unchanged_entry false e = refl

pub unchanged : (p : Path) (entries : List Entry) → changed p (λ a. a) entries ≡ entries
unchanged p [] = refl
unchanged p (e ∷ entries) = λ i. unchanged_entry (same_path e.path p) e i ∷ unchanged p entries i

same-frame : (k : ℕ) (f g : Frame) → f.id ≡ k → Some f ≡ Some g → f ≡ g
same-frame k f g h e = cc

pub waiting-agrees : WaitingAgrees
waiting-agrees t =
    let ns = t.machine.nodes in
    let k = t.frame.id in
    let n : Node = record (node_at ns k) { parked = Some t.frame } in
    let set = sets ns k n t.agrees.tree (inside t) (record {
      parent = refl;
      ordinal = refl;
      procedure = refl;
      live = refl;
      aborted = refl;
      children = omega arith;
    }) (t.agrees.tree.sent k) in
    subst (λ who. Agrees t.program (record t.machine { nodes = slice_set ns k n; places = with_hand t.machine.places t.worker None }) who
    (record t.at { scheduler = sched.parked_from t.at.scheduler t.worker (path_at ns k) })) (instead-same t.who k)
    (change t.program t.machine t.who t.at t.agrees k _ n (λ a. a) t.machine.outside (with_hand t.machine.places t.worker None) _ (record {
      there = inside t;
      sets = set;
      tells = λ live. let h = t.agrees.tells k live in record {
        procedure = h.procedure;
        children = h.children;
        aborted = h.aborted;
        waiting = h.waiting;
        receiver = h.receiver;
      };
      outside = t.agrees.outside;
      instances = sym (unchanged (path_at ns k) t.at.state.instances);
      places = ap (λ ps. sched.with_hand ps t.worker None) t.agrees.places ∙ sym (named-with_hand (name_in ns) t.machine.places t.worker None);
      parked = λ i h. elim (decide i k) [
        | inl e ↦ ap (λ b. b || t.at.scheduler.parked (path_at ns i)) (same_here ns i k e)
            ∙ sym (ap (λ (x : Node). is_some x.parked) (ap (node_at (slice_set ns k n)) e ∙ set.own))
        | inr ne ↦ ap (λ b. b || t.at.scheduler.parked (path_at ns i)) (other_there ns i k t.agrees.tree h (inside t) ne) ∙ t.agrees.parked i h
            ∙ sym (ap (λ (x : Node). is_some x.parked) (set.others i ne))
      ];
      held = others-stand t (t.who k);
      waits = λ g live is.
          let same = same-frame k t.frame g refl is in
          record { own = sym (ap (λ (f : Frame). f.id) same); stands = subst (λ f. StandsFor (label t.program) f (t.who k)) same (holds t).stands };
    }))

module _ (p : Program) (m : MachineParts) (who : ℕ → Instance) (at : Standing) (h : Agrees p m who at) where
  abbrev H : Frame → Type 0
  H = Held p m.nodes who

  moved : (now : List (WorkerOf Frame)) (next : sched.Scheduler) → next.parked ≡ at.scheduler.parked → next.places ≡ named (name_in m.nodes) now
      → AllHeld (Held p m.nodes who) now → Agrees p (record m { places = now }) who (record at { scheduler = next })
  moved now next parked are held = record {
    tree = h.tree;
    outside = h.outside;
    instances = h.instances;
    tells = h.tells;
    places = are;
    parked = λ i lt. ap (λ (x : Path → Bool). x (path_at m.nodes i)) parked ∙ h.parked i lt;
    held = held;
    waits = h.waits;
  }

  pub pop : (w : ℕ) → Agrees p (record m { places = popped_by m.places w }) who (record at { scheduler = sched.popped at.scheduler w })
  pop w =
      let all = (held-at H m.places w h.held).1 in
      moved _ (sched.popped at.scheduler w) refl
      (ap (λ x. (sched.popped (record { places = x; parked = at.scheduler.parked }) w).places) h.places
      ∙ sym (named-popped (name_in m.nodes) at.scheduler.parked m.places w))
      (held-with_hand H _ w _ (held-with_deque H m.places w _ h.held (all-above H (deque_of m.places w) all)) (all-bottom H (deque_of m.places w) all))

  pub steal : (w v : ℕ) → Agrees p (record m { places = stolen_by m.places w v }) who (record at { scheduler = sched.stolen at.scheduler w v })
  steal w v =
      let all = (held-at H m.places v h.held).1 in
      moved _ (sched.stolen at.scheduler w v) refl
      (ap (λ x. (sched.stolen (record { places = x; parked = at.scheduler.parked }) w v).places) h.places
      ∙ sym (named-stolen (name_in m.nodes) at.scheduler.parked m.places w v))
      (held-with_hand H _ w _ (held-with_deque H m.places v _ h.held (all-below H (deque_of m.places v) all)) (all-top H (deque_of m.places v) all))
