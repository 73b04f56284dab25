-- A machine stands at one standing: each live instance has a frame, with a worker or parked.
use Rattle.std.proofs.Common.{◌≡◌, ◌<◌, ℕ, ◌+◌, true, false, cond, List, length, Option, Some, None, is_some, refl, sym, ap, ◌∙◌, subst}
use Rattle.std.specs.Prelude.{sum_by}
use Rattle.cilk_check.specs.syntax.Tree.{Program}
use Rattle.cilk_check.specs.scopes.WellFormed.{WellFormed}
use Rattle.cilk_laws_model.specs.labelled.Bodies.{label}
use Rattle.cilk_laws_model.specs.model.Path.{Path, same_path}
use Rattle.cilk_laws_model.specs.model.Instance.{Instance}
use Rattle.cilk_laws_model.specs.model.State as state
use Rattle.cilk_laws_model.specs.model.State.{Instances}
use Rattle.cilk_laws_model.specs.model.Scheduler.{Worker}
use Rattle.cilk_laws_model.specs.model.Run.{Standing}
use Rattle.cilk_laws_model.specs.Hands.{times_held, EachInItsPlace}
use Rattle.cilk_laws_model.proofs.Entries.{same-is}
use Rattle.cilk_laws_model.proofs.Kept.{places_are_kept}
use Rattle.cilk_machine.specs.frame.Frames.{Frame}
use Rattle.cilk_machine.specs.frame.Stands.{StandsFor}
use Rattle.cilk_machine.specs.spawn.Nodes.{Node, node_at, is_live, path_at}
use Rattle.cilk_machine.proofs.spawn_laws.Lists.{map_those}
use Rattle.cilk_machine.proofs.spawn_laws.Trees.{live_there, names}
use Rattle.cilk_machine.specs.sched.Count as hands
use Rattle.cilk_machine.specs.sched.Count.{count_where}
use Rattle.cilk_machine.proofs.sched_laws.PathNames.{named-held}
use Rattle.cilk_machine.specs.agree.Alike.{procedure_in}
use Rattle.cilk_machine.specs.agree.Agrees.{MachineParts, Agrees, Held, entry_of, name_in, read_off}
use Rattle.cilk_machine.proofs.agree_laws.Alone.{times-same}
use Rattle.cilk_machine.proofs.agree_laws.Found.{found}
use Rattle.cilk_machine.proofs.agree_laws.Frames.{held-both}
use Rattle.cilk_machine.specs.Situation.{Situation, workers_of}
use Rattle.cilk_machine.specs.Stands.{StandsAt}
use Rattle.cilk_machine_agree.proofs.explore.Cells.{one-values}
use Rattle.cilk_machine_agree.proofs.explore.Instances.{one-instance}
use Rattle.cilk_machine_agree.proofs.explore.Standings.{one_mark}
use Rattle.cilk_machine_agree.proofs.explore.Passing.{Passes, in-places, some_placed}

module _ (p : Program) (well : WellFormed p) (m : MachineParts) (who other : ℕ → Instance) (a b : Standing) (h : Agrees p m who a) (k : Agrees p m other b)
    (placed : EachInItsPlace a) (beside : EachInItsPlace b) where
  abbrev ns : List Node
  ns = m.nodes

  by-frame : (i : ℕ) (f : Frame) → is_live (node_at ns i) ≡ true → StandsFor (label p) f (who i) → StandsFor (label p) f (other i) → who i ≡ other i
  by-frame i f live s t =
      one-instance p well (path_at ns) (procedure_in ns) f (node_at ns i) (who i) (other i) s t (h.tells i live) (k.tells i live)

  abbrev Both : Frame → Type 0
  Both f = Held p ns who f × Held p ns other f

  -- one that is not parked is with a worker
  with-worker : (i : ℕ) → is_live (node_at ns i) ≡ true → (node_at ns i).parked ≡ None → Passes Both (λ f. same_path (path_at ns i) (name_in ns f))
  with-worker i live none =
      let q = path_at ns i in
      let there : state.is_live a.state.instances q ≡ true = ap (λ (es : Instances). state.is_live es q) h.instances
      ∙ ap is_some (found ns who i h.tree live) in
      let free : a.scheduler.parked q ≡ false = h.parked i (live_there ns i live) ∙ ap is_some none in
      let all : sum_by (times_held q) a.scheduler.places ≡ count_where (λ f. same_path q (name_in ns f)) m.places
      = times-same q a.scheduler.places ∙ ap (sum_by (hands.times_held (same_path q))) h.places ∙ named-held (name_in ns) q m.places in
      let some = some_placed (sum_by (times_held q) a.scheduler.places) (a.scheduler.parked q) (state.is_live a.state.instances q) (placed.once q) there free in
      in-places Both (λ f. same_path q (name_in ns f)) m.places (held-both (Held p ns who) (Held p ns other) m.places h.held k.held)
      (subst (λ n. 0 < n) all some)

  by-parked : (i : ℕ) (o : Option Frame) → (node_at ns i).parked ≡ o → is_live (node_at ns i) ≡ true → who i ≡ other i
  by-parked i (Some f) is live = by-frame i f live (h.waits i f live is).stands (k.waits i f live is).stands
  by-parked i None is live =
      let one = with-worker i live is in
      let f = one.frame in
      let x = one.holds.0 in
      let same = names ns h.tree i f.id (live_there ns i live) (live_there ns f.id x.live) (same-is (path_at ns i) (name_in ns f) one.passes) in
      subst (λ j. who j ≡ other j) (sym same) (by-frame f.id f x.live x.stands one.holds.1.stands)

  one-instances : a.state.instances ≡ b.state.instances
  one-instances =
      h.instances
      ∙ map_those (entry_of ns who) (entry_of ns other) (λ i. is_live (node_at ns i)) (length ns)
      (λ i lt live j. record { path = path_at ns i; instance = by-parked i (node_at ns i).parked refl live j })
      ∙ sym k.instances

  one-state : a.state ≡ b.state
  one-state =
      let globals = one-values a.state.globals b.state.globals (h.outside.sizes ∙ sym k.outside.sizes) (sym h.outside.cells ∙ k.outside.cells) in
      let locks = h.outside.locks ∙ sym k.outside.locks in
      let output = h.outside.output ∙ sym k.outside.output in
      let outcome = h.outside.outcome ∙ sym k.outside.outcome in
      λ i. record { globals = globals i; locks = locks i; output = output i; outcome = outcome i; instances = one-instances i }

  one-places : a.scheduler.places ≡ b.scheduler.places
  one-places = h.places ∙ sym k.places

  -- an instance that lives is in one place, so that whether it is parked is told by the places
  one-parked : (q : Path) → a.scheduler.parked q ≡ b.scheduler.parked q
  one-parked q =
      one_mark (sum_by (times_held q) a.scheduler.places) (a.scheduler.parked q) (b.scheduler.parked q)
      (placed.once q ∙ ap (λ (es : Instances). cond (state.is_live es q) 1 0) one-instances ∙ sym (beside.once q)
      ∙ ap (λ (places : List Worker). sum_by (times_held q) places + cond (b.scheduler.parked q) 1 0) (sym one-places))

  one-by : a ≡ b
  one-by = λ i. record { state = one-state i; scheduler = record { places = one-places i; parked = λ q. one-parked q i } }

pub one-standing : (m : Situation) (a b : Standing) → WellFormed m.program → StandsAt m a → StandsAt m b → a ≡ b
one-standing m a b well x y =
    one-by m.program well m.machine (read_off m.program m.machine a) (read_off m.program m.machine b) a b x.led.agrees y.led.agrees
    (places_are_kept.always (label m.program) (workers_of m) x.choices (record { standing = a; events = x.events }) x.led.led)
    (places_are_kept.always (label m.program) (workers_of m) y.choices (record { standing = b; events = y.events }) y.led.led)
