-- A spawn: the parent goes on by itself, and then a child is born.
use Rattle.std.proofs.Common.{◌≡◌, ◌≢◌, ◌+◌, ◌<◌, ◌≤◌, ℕ, Bool, true, false, ◌||◌, cond, List, [], ◌∷◌, ◌++◌, map, length, Option, Some, None}
use Rattle.std.proofs.Common.{is_some, refl, sym, ap, ◌∙◌, subst, arith, inl, inr, All}
use Rattle.std.specs.Prelude.{sum_by}
use Rattle.std.proofs.lemmas.List.{map-append}
use Rattle.std.proofs.lemmas.List.Elements.{All-head, All-tail, All-push, All-weaker}
use Rattle.cilk_laws_model.specs.syntax.Tree.{Program}
use Rattle.cilk_laws_model.specs.labelled.Labelled.{Labelled}
use Rattle.cilk_laws_model.specs.labelled.Bodies.{label}
use Rattle.cilk_laws_model.specs.model.Path.{Path, same_path, child_path}
use Rattle.cilk_laws_model.specs.model.Instance as model
use Rattle.cilk_laws_model.specs.model.Instance.{Instance}
use Rattle.cilk_laws_model.specs.model.State as state
use Rattle.cilk_laws_model.specs.model.State.{State, changed}
use Rattle.cilk_laws_model.specs.model.Hands.{WorkerOf, deque_of, with_hand, with_deque, pushed_by, named}
use Rattle.cilk_laws_model.specs.model.Scheduler as sched
use Rattle.cilk_laws_model.specs.Hands.{times_held}
use Rattle.cilk_laws_model.proofs.Entries.{live-cons}
use Rattle.cilk_sched.specs.frame.Frames.{Frame}
use Rattle.cilk_sched.specs.frame.Stands.{StandsFor}
use Rattle.cilk_spawn.specs.declared.delivery.Delivery.{Delivery}
use Rattle.cilk_spawn.specs.frame.declared.receiver.Receiver.{Receiver}
use Rattle.cilk_spawn.specs.Nodes.{Node, IsTree, IsFrom, node_at, is_live, live_ids, new_child, with_child, path_at}
use Rattle.cilk_spawn.proofs.Lists.{decide, map_those, those_pass}
use Rattle.cilk_spawn.proofs.Trees.{ids_same, path_child, child_there, live_there}
use Rattle.cilk_spawn.proofs.Grown.{Grown, grown, grows, grown_length, grown_other, parent_old, tree_child, path_old, ids_child}
use Rattle.cilk_spawn.proofs.Paths.{other_there}
use Rattle.cilk_sched.specs.Count.{AllHeld}
use Rattle.cilk_sched.proofs.Count.{AllHeld-weaker}
use Rattle.cilk_sched.proofs.PathNames.{named-with_hand, named-push, named-agrees}
use Rattle.cilk_sched.proofs.Seats.{deque-kept}
use Rattle.cilk_machine_agree.specs.Outside as outside
use Rattle.cilk_machine_agree.specs.declared.lock.Lock.{Lock}
use Rattle.cilk_machine_agree.specs.declared.lock.Lock.TheVariants as lock
use Rattle.cilk_machine_agree.specs.Outside.{Outside, Outcome, lock_by, outcome_by, LockWithin, OutcomeWithin, SameOutside}
use Rattle.cilk_machine_agree.specs.Alike.{NodeStandsFor, SameDeliveries, Receives, procedure_in, taker_of}
use Rattle.cilk_machine_agree.specs.Agrees.{Held, Parked, Agrees, instead, entry_of, instances_of, name_in}
use Rattle.cilk_machine_agree.specs.Laws.{InHand, path_of, Becomes, Birth, after_birth}
use Rattle.cilk_machine_agree.proofs.Sets.{Sets, sets, instead-here, instead-there}
use Rattle.cilk_machine_agree.proofs.Frames.{held-at, held-placed}
use Rattle.cilk_machine_agree.proofs.Alone.{holds, inside, others-stand}
use Rattle.cilk_machine_agree.proofs.Acts.{not-some, local-agrees}

-- more ids, of which the first n keep their paths
module _ (up now : ℕ → Path) (n l : ℕ) (more : n ≤ l) (same : (i : ℕ) → i < n → now i ≡ up i) where
  lock_grows : (x : Lock) → LockWithin n x → (lock_by up x ≡ lock_by now x) × LockWithin l x
  lock_grows lock.Unset h = (refl, tt)
  lock_grows lock.Free h = (refl, tt)
  lock_grows (lock.Held i) h = (ap state.held (sym (same i h)), omega (arith, more, h))

  locks_grow : (xs : List Lock) → All (LockWithin n) xs → map (lock_by up) xs ≡ map (lock_by now) xs
  locks_grow [] h = refl
  locks_grow (x ∷ xs) h =
      let one = (lock_grows x (All-head (LockWithin n) x xs h)).0 in
      let rest = locks_grow xs (All-tail (LockWithin n) x xs h) in
      λ i. one i ∷ rest i

  outcome_grows : (x : Outcome) → OutcomeWithin n x → (outcome_by up x ≡ outcome_by now x) × OutcomeWithin l x
  outcome_grows outside.running h = (refl, tt)
  outcome_grows (outside.finished z) h = (refl, tt)
  outcome_grows (outside.trapped kind i k) h = (ap (λ q. state.trapped kind q k) (sym (same i h)), omega (arith, more, h))

  pub outside-grows : (program : Labelled) (o : Outside) (s : State) → SameOutside program up n o s → SameOutside program now l o s
  outside-grows program o s h = record {
    cells = h.cells;
    sizes = h.sizes;
    locks = h.locks ∙ locks_grow o.locks h.holders;
    holders = All-weaker (LockWithin n) (LockWithin l) (λ x inside. (lock_grows x inside).1) o.locks h.holders;
    output = h.output;
    outcome = h.outcome ∙ (outcome_grows o.outcome h.trapper).0;
    trapper = (outcome_grows o.outcome h.trapper).1;
  }

  pub deliveries-grow : (program : Labelled) (b : ℕ) (ds : List Delivery) (es : List model.Delivery) → All (λ d. d.child < n) ds
      → SameDeliveries program up b ds es → SameDeliveries program now b ds es
  deliveries-grow program b [] [] within h = h
  deliveries-grow program b [] (e ∷ es) within h = absurd h
  deliveries-grow program b (d ∷ ds) [] within h = absurd h
  deliveries-grow program b (d ∷ ds) (e ∷ es) within h =
      let first = h.0 in (
        record { child = same d.child (All-head (λ x. x.child < n) d ds within) ∙ first.child; value = first.value; receiver = first.receiver },
        deliveries-grow program b ds es (All-tail (λ x. x.child < n) d ds within) h.1,
      )

-- no entry is at a path of none of these ids
none-there : (ns : List Node) (who : ℕ → Instance) (q : Path) (ids : List ℕ) → All (λ i. same_path (path_at ns i) q ≡ false) ids
    → state.is_live (map (entry_of ns who) ids) q ≡ false
none-there ns who q [] h = refl
none-there ns who q (i ∷ ids) h =
    live-cons (entry_of ns who i) (map (entry_of ns who) ids) q
    ∙ (λ j. All-head (λ x. same_path (path_at ns x) q ≡ false) i ids h j || none-there ns who q ids
    (All-tail (λ x. same_path (path_at ns x) q ≡ false) i ids h) j)

not-held : (n : ℕ) (parked live : Bool) → n + cond parked 1 0 ≡ cond live 1 0 → live ≡ false → parked ≡ false
not-held n true true h e = cc
not-held n true false h e = absurd (omega (arith, h))
not-held n false live h e = refl

taker-same : (procedures now : ℕ → ℕ) (o : Option ℕ) → ((q : ℕ) → o ≡ Some q → now q ≡ procedures q) → taker_of procedures o ≡ taker_of now o
taker-same procedures now None same = refl
taker-same procedures now (Some q) same = sym (same q refl)

module _ (t : InHand) (f g : Frame) (receiver : Receiver) (callee : ℕ) (a c : Instance) (s : State) (b : Birth t f g receiver callee a c s) where
  abbrev p : Program
  p = t.program

  abbrev ns : List Node
  ns = t.machine.nodes

  abbrev k : ℕ
  k = t.frame.id

  abbrev l : ℕ
  l = length ns

  abbrev gs : List Node
  gs = grown ns k

  abbrev ms : List Node
  ms = with_child ns k callee receiver

  abbrev q : Path
  q = child_path (path_of t) ((node_at ns k).children + 1)

  abbrev who : ℕ → Instance
  who = instead t.who k a

  abbrev now : ℕ → Instance
  now = instead who l c

  -- the state where the parent alone has gone on
  abbrev part : State
  part = record s { instances = changed (path_of t) (λ _. a) t.at.state.instances }

  gone : Becomes t f (record (node_at ns k) { children = (node_at ns k).children + 1 }) a t.machine.outside part
  gone = local-agrees t f (record (node_at ns k) { children = (node_at ns k).children + 1 }) a t.machine.outside part (record {
    own = b.own;
    stands = b.stands;
    links = record { parent = refl; ordinal = refl; procedure = refl; live = refl; aborted = refl; children = omega arith };
    parked = refl;
    from = t.agrees.tree.sent k;
    tells = b.tells;
    outside = let o = b.outside in record {
      cells = o.cells;
      sizes = o.sizes;
      locks = o.locks;
      holders = o.holders;
      output = o.output;
      outcome = o.outcome;
      trapper = o.trapper;
    };
    instances = refl;
  })

  there : k < l
  there = inside t

  births : Grown ns ms k callee receiver
  births = grows ns k callee receiver there

  tree : IsTree ms
  tree = tree_child ns k callee receiver (holds t).live t.agrees.tree

  size : length ms ≡ l + 1
  size = grown_length ns k callee receiver

  old : (i : ℕ) → i < l → i ≢ l
  old i h e = omega (arith, h, e)

  set : Sets ns gs k (record (node_at ns k) { children = (node_at ns k).children + 1 })
  set = sets ns k _ t.agrees.tree there (record { parent = refl; ordinal = refl; procedure = refl; live = refl; aborted = refl; children = omega arith })
      (t.agrees.tree.sent k)

  stays : (i : ℕ) → i < l → path_at ms i ≡ path_at ns i
  stays i h = path_old ns k callee receiver there t.agrees.tree i h

  node : (i : ℕ) → i ≢ l → node_at ms i ≡ node_at gs i
  node i ne = grown_other ns k callee receiver i ne

  path : path_at ms l ≡ q
  path =
      path_child ms tree l k (ap (λ (n : Node). n.parent) births.child)
      ∙ ap (λ (n : Node). child_path (path_at ms k) n.ordinal) births.child
      ∙ ap (λ r. child_path r ((node_at ns k).children + 1)) (stays k there)

  -- from the parent's step on
  up-gone : (i : ℕ) → i < l → path_at ms i ≡ path_at gs i
  up-gone i h = stays i h ∙ ap (λ (up : ℕ → Path). up i) (sym set.keeps.up)

  entries : instances_of ms now ≡ instances_of gs who ++ record { path = q; instance = c } ∷ []
  entries =
      ap (map (entry_of ms now)) (ids_child ns k callee receiver there)
      ∙ map-append (entry_of ms now) (live_ids ns) (l ∷ [])
      ∙ (λ j. map_those (entry_of ms now) (entry_of gs who) (λ i. is_live (node_at ns i)) l
      (λ i h live. (λ r. record {
        path = up-gone i h r;
        instance = instead-there who l c i
            (old i h) r;
      })) j ++ record { path = path j; instance = instead-here who l c l refl j } ∷ [])
      ∙ ap (λ ids. map (entry_of gs who) ids ++ record { path = q; instance = c } ∷ []) (sym (ids_same ns gs set.keeps.size set.keeps.lives))

  procedures : (i : ℕ) → i ≢ l → procedure_in ms i ≡ procedure_in gs i
  procedures i ne = ap (λ (n : Node). n.procedure) (node i ne)

  -- what is told of those that lived before
  tells-old : (i : ℕ) → i ≢ l → is_live (node_at ms i) ≡ true → NodeStandsFor (label p) (path_at ms) (procedure_in ms) (node_at ms i) (now i)
  tells-old i ne live =
      let lives = ap is_live (sym (node i ne)) ∙ live in
      let h = gone.tells i lives in
      let inside : i < l = subst (λ m. i < m) set.keeps.size (live_there gs i lives) in
      let parent : (r : ℕ) → (node_at gs i).parent ≡ Some r → procedure_in ms r ≡ procedure_in gs r =
      λ r e. procedures r (λ z. parent_old gs gone.tree i r e (z ∙ sym set.keeps.size)) in
      subst (λ n. NodeStandsFor (label p) (path_at ms) (procedure_in ms) n (now i)) (sym (node i ne))
      (subst (NodeStandsFor (label p) (path_at ms) (procedure_in ms) (node_at gs i)) (sym (instead-there who l c i ne)) (record {
        procedure = h.procedure;
        children = h.children;
        aborted = h.aborted;
        waiting =
            deliveries-grow (path_at gs) (path_at ms) l (length ms) (omega (arith, size)) up-gone (label p) (node_at gs i).procedure (node_at gs i).waiting
            (who i).waiting
            (All-weaker (IsFrom gs i) (λ d. d.child < l) (λ d from. subst (λ m. d.child < m) set.keeps.size (child_there gs d.child i from))
            (node_at gs i).waiting (gone.tree.sent i)) h.waiting;
        receiver = subst (λ x. Receives (label p) x (node_at gs i).receiver (who i).receiver)
            (taker-same (procedure_in gs) (procedure_in ms) (node_at gs i).parent parent) h.receiver;
      }))

  tells-new : NodeStandsFor (label p) (path_at ms) (procedure_in ms) (node_at ms l) (now l)
  tells-new =
      subst (λ n. NodeStandsFor (label p) (path_at ms) (procedure_in ms) n (now l)) (sym births.child)
      (subst (NodeStandsFor (label p) (path_at ms) (procedure_in ms) (new_child ns k callee receiver)) (sym (instead-here who l c l refl))
      (b.child_tells (path_at ms) (procedure_in ms) (procedures k (old k there) ∙ ap (λ (procedures : ℕ → ℕ). procedures k) set.keeps.procedures)))

  abbrev after : List (WorkerOf Frame)
  after = pushed_by t.machine.places t.worker f g

  names : named (name_in ns) t.machine.places ≡ named (name_in ms) t.machine.places
  names = named-agrees (name_in ns) (name_in ms) t.machine.places
      (AllHeld-weaker (Held p ns t.who) (λ x. name_in ns x ≡ name_in ms x)
      (λ x h. sym (stays x.id (live_there ns x.id h.live))) t.machine.places t.agrees.held)

  frame-path : name_in ms f ≡ path_of t
  frame-path = ap (path_at ms) b.own ∙ stays k there

  child-path : name_in ms g ≡ q
  child-path = ap (path_at ms) b.child_own ∙ path

  placed : (sched.pushed t.at.scheduler t.worker (path_of t) q).places ≡ named (name_in ms) after
  placed =
      ap (λ ps. sched.with_hand (sched.with_deque ps t.worker (sched.deque_of ps t.worker ++ path_of t ∷ [])) t.worker (Some q)) (t.agrees.places ∙ names)
      ∙ (λ j. sched.with_hand (sched.with_deque (named (name_in ms) t.machine.places) t.worker
      (sched.deque_of (named (name_in ms) t.machine.places) t.worker ++ sym frame-path j ∷ [])) t.worker (Some (sym child-path j)))
      ∙ ap (λ ps. sched.with_hand ps t.worker (Some (name_in ms g))) (sym (named-push (name_in ms) t.machine.places t.worker f))
      ∙ sym (named-with_hand (name_in ms) (with_deque t.machine.places t.worker (deque_of t.machine.places t.worker ++ f ∷ [])) t.worker (Some g))

  not-parked : t.at.scheduler.parked q ≡ false
  not-parked =
      not-held (sum_by (times_held q) t.at.scheduler.places) (t.at.scheduler.parked q) (state.is_live t.at.state.instances q) (t.placed.once q)
      (ap (λ es. state.is_live es q) t.agrees.instances
      ∙ none-there ns t.who q (live_ids ns) (λ i d h.
      let live = those_pass (λ j. is_live (node_at ns j)) l i d h in
      let inside = live_there ns _ live in
      (λ j. same_path (sym (stays _ inside) j) (sym path j)) ∙ other_there ms _ l tree (omega (arith, inside, size)) (omega (arith, size)) (old _ inside)))

  abbrev H : Frame → Type 0
  H = Held p ms now

  held-old : (x : Frame) → Held p ns who x → H x
  held-old x h =
      let ne = old x.id (live_there ns x.id h.live) in
      record { live = births.lives x.id ne ∙ h.live; stands = subst (StandsFor (label p) x) (sym (instead-there who l c x.id ne)) h.stands }

  held-parent : H f
  held-parent = held-old f (record {
    live = ap (λ i. is_live (node_at ns i)) b.own
        ∙ (holds t).live;
    stands = subst (StandsFor (label p) f) (sym (instead-here t.who k a f.id b.own)) b.stands;
  })

  held-child : H g
  held-child = record {
    live = ap (λ i. is_live (node_at ms i)) b.child_own
        ∙ ap is_live births.child;
    stands = subst (StandsFor (label p) g) (sym (instead-here who l c g.id b.child_own)) b.child_stands;
  }

  rest-held : AllHeld H (with_hand t.machine.places t.worker None)
  rest-held = AllHeld-weaker (Held p ns who) H held-old (with_hand t.machine.places t.worker None) (others-stand t a)

  pub spawn-agrees : Agrees p (after_birth t f g receiver callee) now (record { state = s; scheduler = sched.pushed t.at.scheduler t.worker (path_of t) q })
  spawn-agrees = record {
    tree = tree;
    outside = outside-grows (path_at ns) (path_at ms) l (length ms) (omega (arith, size)) stays (label p) t.machine.outside s b.outside;
    instances = b.instances ∙ ap (λ es. es ++ record { path = q; instance = c } ∷ []) gone.instances ∙ sym entries;
    tells = λ i live. elim (decide i l) [
      | inl e ↦ subst (λ j. NodeStandsFor (label p) (path_at ms) (procedure_in ms) (node_at ms j) (now j)) (sym e) tells-new
      | inr ne ↦ tells-old i ne live
    ];
    places = placed;
    parked = λ i h. elim (decide i l) [
      | inl e ↦ ap t.at.scheduler.parked (ap (path_at ms) e ∙ path) ∙ not-parked
          ∙ sym (ap (λ (n : Node). is_some n.parked) (ap (node_at ms) e ∙ births.child))
      | inr ne ↦
          let inside : i < l = omega (arith, h, size, ne) in
          ap t.at.scheduler.parked (up-gone i inside) ∙ gone.parked i (omega (arith, inside, set.keeps.size))
          ∙ sym (ap (λ (n : Node). is_some n.parked) (node i ne))
    ];
    held = held-placed H t.machine.places t.worker (Some g) _ t.is_worker rest-held held-child
        (All-push H (deque_of t.machine.places t.worker) f (subst (All H) (deque-kept t.machine.places t.worker None t.is_worker)
        (held-at H (with_hand t.machine.places t.worker None) t.worker rest-held).1) held-parent);
    waits = λ i x live is. elim (decide i l) [
      | inl e ↦ absurd (not-some (node_at ms i).parked x (ap (λ (n : Node). n.parked) (ap (node_at ms) e ∙ births.child)) is)
      | inr ne ↦ subst (λ y. Parked p i y x) (sym (instead-there who l c i ne))
          (gone.waits i x (ap is_live (sym (node i ne)) ∙ live) (ap (λ (n : Node). n.parked) (sym (node i ne)) ∙ is))
    ];
  }
