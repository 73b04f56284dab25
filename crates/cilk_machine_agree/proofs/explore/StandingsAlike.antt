-- Machines whose parts tell the same stand at the same: a live instance has a frame here, with a worker or parked, and one there that goes on alike.
use Rattle.std.proofs.Common.{◌≡◌, ◌<◌, ℕ, Bool, true, false, List, [], ◌∷◌, length, map, reverse, Option, Some, None, is_some, refl, sym, ap, ◌∙◌}
use Rattle.std.proofs.Common.{subst, ◌||◌}
use Rattle.std.specs.Prelude.{All, IfSome, sum_by, option_map}
use Rattle.std.proofs.lemmas.List.Elements.{All-nil, All-cons, All-head, All-tail}
use Rattle.cilk_machine_agree.specs.syntax.Tree.{Program}
use Rattle.cilk_machine_agree.specs.scopes.WellFormed.{WellFormed}
use Rattle.cilk_machine_agree.specs.labelled.Labelled.{Labelled}
use Rattle.cilk_machine_agree.specs.labelled.Bodies.{label}
use Rattle.cilk_machine_agree.specs.model.Path.{Path, same_path}
use Rattle.cilk_machine_agree.specs.model.Instance as model
use Rattle.cilk_machine_agree.specs.model.Instance.{Instance}
use Rattle.cilk_machine_agree.specs.model.State as state
use Rattle.cilk_machine_agree.specs.model.State.{Instances, instance_at}
use Rattle.cilk_machine_agree.specs.model.Hands.{WorkerOf, named}
use Rattle.cilk_machine_agree.specs.model.Run.{Standing}
use Rattle.cilk_machine_agree.specs.runs.Hands.{times_held, EachInItsPlace}
use Rattle.cilk_machine_agree.proofs.runs_laws.Entries.{same-is, live-cons}
use Rattle.cilk_machine_agree.proofs.runs_laws.Lookups.{none_of_live}
use Rattle.cilk_machine_agree.specs.frame.Frames.{Activation, Frame}
use Rattle.cilk_machine_agree.specs.frame.Stands.{AllActivate, StandsFor}
use Rattle.cilk_machine_agree.specs.spawn.declared.delivery.Delivery.{Delivery}
use Rattle.cilk_machine_agree.specs.frame.declared.receiver.Receiver.{Receiver}
use Rattle.cilk_machine_agree.specs.spawn.Nodes.{Node, node_at, is_live, live_ids, path_at}
use Rattle.cilk_machine_agree.proofs.spawn_laws.Lists.{those_pass}
use Rattle.cilk_machine_agree.proofs.spawn_laws.Trees.{live_there, names}
use Rattle.cilk_machine_agree.specs.sched.Count as hands
use Rattle.cilk_machine_agree.specs.sched.Count.{count_where, AllAt, AllHeld}
use Rattle.cilk_machine_agree.proofs.sched_laws.PathNames.{named-held}
use Rattle.cilk_machine_agree.specs.Alike.{Receives, SameDeliveries, taker_of, procedure_in, NodeStandsFor}
use Rattle.cilk_machine_agree.specs.Agrees.{MachineParts, Agrees, Held, entry_of, instances_of, name_in}
use Rattle.cilk_machine_agree.proofs.Alone.{times-same}
use Rattle.cilk_machine_agree.proofs.Found.{found}
use Rattle.cilk_machine_agree.specs.explore.Same.{Same}
use Rattle.cilk_machine_agree.specs.explore.Alike.{SameFrame, SameWaiting, SameNode, SameHeld, SameHand, SameDeque, SamePlaces, SameParked, SameParts, taker_in}
use Rattle.cilk_machine_agree.specs.explore.AlikeLaws.{SamePartsStandAtTheSame}
use Rattle.cilk_machine_agree.proofs.explore.Cells.{one-values}
use Rattle.cilk_machine_agree.proofs.explore.Instances.{one-instance}
use Rattle.cilk_machine_agree.proofs.explore.Passing.{Passes, in-places, some_placed}

-- what waits there is told here
waiting_here : (program : Labelled) (ns ms : List Node) (b : ℕ) (ds es : List Delivery) (xs : List model.Delivery) → SameWaiting ns ms ds es
    → SameDeliveries program (path_at ms) b es xs → SameDeliveries program (path_at ns) b ds xs
waiting_here program ns ms b [] [] [] same h = tt
waiting_here program ns ms b [] [] (x ∷ xs) same h = absurd h
waiting_here program ns ms b [] (e ∷ es) xs same h = absurd same
waiting_here program ns ms b (d ∷ ds) [] xs same h = absurd same
waiting_here program ns ms b (d ∷ ds) (e ∷ es) [] same h = absurd h
waiting_here program ns ms b (d ∷ ds) (e ∷ es) (x ∷ xs) same h = (
  record {
    child = same.0.child ∙ h.0.child;
    value = same.0.value ∙ h.0.value;
    receiver = subst (λ (r : Receiver). Receives program b r (Some x.receiver)) (sym same.0.receiver) h.0.receiver;
  },
  waiting_here program ns ms b ds es xs same.1 h.1,
)

-- a frame that goes on alike stands for the same instance
frame_here : (program : Labelled) (f g : Frame) (i : Instance) → SameFrame f g → StandsFor program g i → StandsFor program f i
frame_here program f g i same h = record {
  activations = subst (λ (xs : List Activation). AllActivate program (reverse xs) (i.top ∷ i.below)) (sym same.activations) h.activations;
  inside = h.inside;
  flag = same.boundary ∙ h.flag;
}

-- the parent's procedure
taker-is : (ns : List Node) (o : Option ℕ) → taker_of (procedure_in ns) o ≡ taker_in ns o
taker-is ns None = refl
taker-is ns (Some p) = refl

node_here : (program : Labelled) (ns ms : List Node) (i j : ℕ) (a : Instance) → SameNode ns ms i j
    → NodeStandsFor program (path_at ms) (procedure_in ms) (node_at ms j) a → NodeStandsFor program (path_at ns) (procedure_in ns) (node_at ns i) a
node_here program ns ms i j a same h = record {
  procedure = same.procedure ∙ h.procedure;
  children = same.children ∙ h.children;
  aborted = same.aborted ∙ h.aborted;
  waiting =
      waiting_here program ns ms (node_at ns i).procedure (node_at ns i).waiting (node_at ms j).waiting a.waiting same.waiting
      (subst (λ b. SameDeliveries program (path_at ms) b (node_at ms j).waiting a.waiting) (sym same.procedure) h.waiting);
  receiver =
      subst (λ b. Receives program b (node_at ns i).receiver a.receiver)
      (taker-is ms (node_at ms j).parent ∙ sym same.taker ∙ sym (taker-is ns (node_at ns i).parent))
      (subst (λ (r : Receiver). Receives program (taker_of (procedure_in ms) (node_at ms j).parent) r a.receiver) (sym same.receiver) h.receiver);
}

-- who lives at a path
record LivesAt (ns : List Node) (q : Path) : Type 0 where
  id : ℕ
  live : is_live (node_at ns id) ≡ true
  path : path_at ns id ≡ q

first_or : (ns : List Node) (q : Path) (x : ℕ) (b rest : Bool) → is_live (node_at ns x) ≡ true → same_path (path_at ns x) q ≡ b → (b || rest) ≡ true
    → (rest ≡ true → LivesAt ns q) → LivesAt ns q
first_or ns q x true rest live is h other = record { id = x; live = live; path = same-is (path_at ns x) q is }
first_or ns q x false rest live is h other = other h

lives_by : (ns : List Node) (who : ℕ → Instance) (q : Path) (xs : List ℕ) → All (λ i. is_live (node_at ns i) ≡ true) xs
    → state.is_live (map (entry_of ns who) xs) q ≡ true → LivesAt ns q
lives_by ns who q [] all h = cc
lives_by ns who q (x ∷ xs) all h =
    first_or ns q x (same_path (path_at ns x) q) (state.is_live (map (entry_of ns who) xs) q)
    (All-head (λ i. is_live (node_at ns i) ≡ true) x xs all) refl (sym (live-cons (entry_of ns who x) (map (entry_of ns who) xs) q) ∙ h)
    (lives_by ns who q xs (All-tail (λ i. is_live (node_at ns i) ≡ true) x xs all))

lives_at : (ns : List Node) (who : ℕ → Instance) (q : Path) → state.is_live (instances_of ns who) q ≡ true → LivesAt ns q
lives_at ns who q h =
    lives_by ns who q (live_ids ns) (λ k d lt. those_pass (λ j. is_live (node_at ns j)) (length ns) k d lt) h

module _ (p : Program) (well : WellFormed p) (m n : MachineParts) (who other : ℕ → Instance) (a b : Standing) (h : Agrees p m who a) (k : Agrees p n other b)
    (placed : EachInItsPlace a) (same : SameParts m n) where
  abbrev ns : List Node
  ns = m.nodes

  abbrev ms : List Node
  ms = n.nodes

  -- a frame here with its partner there
  record Paired (f : Frame) : Type 0 where
    partner : Frame
    alike : SameHeld ns ms f partner
    here : Held p ns who f
    there : Held p ms other partner

  paired_hand : (x y : Option Frame) → SameHand ns ms x y → IfSome x (Held p ns who) → IfSome y (Held p ms other) → IfSome x Paired
  paired_hand None None same x y = x
  paired_hand None (Some g) same x y = absurd same
  paired_hand (Some f) None same x y = absurd same
  paired_hand (Some f) (Some g) same x y = record { partner = g; alike = same; here = x; there = y }

  paired_deque : (xs ys : List Frame) → SameDeque ns ms xs ys → All (Held p ns who) xs → All (Held p ms other) ys → All Paired xs
  paired_deque [] ys same x y = All-nil Paired
  paired_deque (f ∷ fs) [] same x y = absurd same
  paired_deque (f ∷ fs) (g ∷ gs) same x y =
      All-cons Paired f fs
      (record { partner = g; alike = same.0; here = All-head (Held p ns who) f fs x; there = All-head (Held p ms other) g gs y })
      (paired_deque fs gs same.1 (All-tail (Held p ns who) f fs x) (All-tail (Held p ms other) g gs y))

  paired : (xs ys : List (WorkerOf Frame)) → SamePlaces ns ms xs ys → AllHeld (Held p ns who) xs → AllHeld (Held p ms other) ys → AllHeld Paired xs
  paired [] ys same x y = All-nil (AllAt Paired)
  paired (at ∷ xs) [] same x y = absurd same
  paired (at ∷ xs) (to ∷ ys) same x y =
      let f = All-head (AllAt (Held p ns who)) at xs x in
      let g = All-head (AllAt (Held p ms other)) to ys y in
      All-cons (AllAt Paired) at xs (paired_hand at.hand to.hand same.0 f.0 g.0, paired_deque at.deque to.deque same.1 f.1 g.1)
      (paired xs ys same.2 (All-tail (AllAt (Held p ns who)) at xs x) (All-tail (AllAt (Held p ms other)) to ys y))

  by_frames : (i j : ℕ) (f g : Frame) → is_live (node_at ns i) ≡ true → SameNode ns ms i j → SameFrame f g → StandsFor (label p) f (who i)
      → StandsFor (label p) g (other j) → who i ≡ other j
  by_frames i j f g live alike frames x y =
      one-instance p well (path_at ns) (procedure_in ns) f (node_at ns i) (who i) (other j) x (frame_here (label p) f g (other j) frames y) (h.tells i live)
      (node_here (label p) ns ms i j (other j) alike (k.tells j alike.live))

  -- one that is not parked is with a worker
  with_worker : (i : ℕ) → is_live (node_at ns i) ≡ true → (node_at ns i).parked ≡ None → Passes Paired (λ f. same_path (path_at ns i) (name_in ns f))
  with_worker i live none =
      let q = path_at ns i in
      let there : state.is_live a.state.instances q ≡ true = ap (λ (es : Instances). state.is_live es q) h.instances
      ∙ ap is_some (found ns who i h.tree live) in
      let free : a.scheduler.parked q ≡ false = h.parked i (live_there ns i live) ∙ ap is_some none in
      let all : sum_by (times_held q) a.scheduler.places ≡ count_where (λ f. same_path q (name_in ns f)) m.places
      = times-same q a.scheduler.places ∙ ap (sum_by (hands.times_held (same_path q))) h.places ∙ named-held (name_in ns) q m.places in
      let some = some_placed (sum_by (times_held q) a.scheduler.places) (a.scheduler.parked q) (state.is_live a.state.instances q) (placed.once q) there free in
      in-places Paired (λ f. same_path q (name_in ns f)) m.places (paired m.places n.places same.places h.held k.held)
      (subst (λ n. 0 < n) all some)

  by_parked : (i j : ℕ) (x y : Option Frame) → (node_at ns i).parked ≡ x → (node_at ms j).parked ≡ y → SameParked x y → is_live (node_at ns i) ≡ true
      → SameNode ns ms i j → who i ≡ other j
  by_parked i j (Some f) (Some g) here there frames live alike =
      by_frames i j f g live alike frames (h.waits i f live here).stands (k.waits j g alike.live there).stands
  by_parked i j (Some f) None here there frames live alike = absurd frames
  by_parked i j None (Some g) here there frames live alike = absurd frames
  by_parked i j None None here there frames live alike =
      let one = with_worker i live here in
      let f = one.frame in
      let pair = one.holds in
      let g = pair.partner in
      let path = same-is (path_at ns i) (name_in ns f) one.passes in
      let first = names ns h.tree i f.id (live_there ns i live) (live_there ns f.id pair.here.live) path in
      let second = names ms k.tree j g.id (live_there ms j alike.live) (live_there ms g.id pair.there.live) (sym alike.path ∙ path ∙ pair.alike.path) in
      by_frames i j f g live alike pair.alike.frames (subst (λ l. StandsFor (label p) f (who l)) (sym first) pair.here.stands)
      (subst (λ l. StandsFor (label p) g (other l)) (sym second) pair.there.stands)

  one_each : (i j : ℕ) → is_live (node_at ns i) ≡ true → SameNode ns ms i j → who i ≡ other j
  one_each i j live alike = by_parked i j (node_at ns i).parked (node_at ms j).parked refl refl alike.parked live alike

  at_live : (q : Path) → LivesAt ns q → instance_at a.state.instances q ≡ instance_at b.state.instances q
  at_live q l =
      let partner = same.tree.here l.id l.live in
      let j = partner.0 in
      let alike = partner.1 in
      ap (λ (es : Instances). instance_at es q) h.instances
      ∙ ap (instance_at (instances_of ns who)) (sym l.path) ∙ found ns who l.id h.tree l.live ∙ ap Some (one_each l.id j l.live alike)
      ∙ sym (found ms other j k.tree alike.live) ∙ ap (instance_at (instances_of ms other)) (sym alike.path ∙ l.path)
      ∙ sym (ap (λ (es : Instances). instance_at es q) k.instances)

  -- who lives there lives here
  there_here : (q : Path) → state.is_live b.state.instances q ≡ true → LivesAt ns q
  there_here q live =
      let l = lives_at ms other q (sym (ap (λ (es : Instances). state.is_live es q) k.instances) ∙ live) in
      let other_one = same.tree.there l.id l.live in
      record { id = other_one.partner; live = other_one.live; path = other_one.path ∙ l.path }

  at_by : (q : Path) (x y : Bool) → state.is_live a.state.instances q ≡ x → state.is_live b.state.instances q ≡ y
      → instance_at a.state.instances q ≡ instance_at b.state.instances q
  at_by q true y live e = at_live q (lives_at ns who q (sym (ap (λ (es : Instances). state.is_live es q) h.instances) ∙ live))
  at_by q false true e live = at_live q (there_here q live)
  at_by q false false none neither =
      none_of_live (instance_at a.state.instances q) none ∙ sym (none_of_live (instance_at b.state.instances q) neither)

  hands_same : (x y : Option Frame) → SameHand ns ms x y → option_map (name_in ns) x ≡ option_map (name_in ms) y
  hands_same None None same = refl
  hands_same None (Some g) same = absurd same
  hands_same (Some f) None same = absurd same
  hands_same (Some f) (Some g) same = ap Some same.path

  deques_same : (xs ys : List Frame) → SameDeque ns ms xs ys → map (name_in ns) xs ≡ map (name_in ms) ys
  deques_same [] [] same = refl
  deques_same [] (g ∷ gs) same = absurd same
  deques_same (f ∷ fs) [] same = absurd same
  deques_same (f ∷ fs) (g ∷ gs) same =
      let here = same.0.path in
      let others = deques_same fs gs same.1 in
      λ i. here i ∷ others i

  places_same : (xs ys : List (WorkerOf Frame)) → SamePlaces ns ms xs ys → named (name_in ns) xs ≡ named (name_in ms) ys
  places_same [] [] same = refl
  places_same [] (y ∷ ys) same = absurd same
  places_same (x ∷ xs) [] same = absurd same
  places_same (x ∷ xs) (y ∷ ys) same =
      let hand = hands_same x.hand y.hand same.0 in
      let deque = deques_same x.deque y.deque same.1 in
      let others = places_same xs ys same.2 in
      λ i. record { hand = hand i; deque = deque i } ∷ others i

  stand_same : Same a b
  stand_same = record {
    state = record {
      globals = one-values a.state.globals b.state.globals (h.outside.sizes ∙ sym k.outside.sizes) (sym h.outside.cells ∙ same.cells ∙ k.outside.cells);
      locks = h.outside.locks ∙ same.locks ∙ sym k.outside.locks;
      output = h.outside.output ∙ same.output ∙ sym k.outside.output;
      outcome = h.outside.outcome ∙ same.outcome ∙ sym k.outside.outcome;
      at = λ q. at_by q (state.is_live a.state.instances q) (state.is_live b.state.instances q) refl refl;
    };
    places = h.places ∙ places_same m.places n.places same.places ∙ sym k.places;
  }

pub stand_at_the_same : SamePartsStandAtTheSame
stand_at_the_same p m n who other a b well h k placed same = stand_same p well m n who other a b h k placed same
