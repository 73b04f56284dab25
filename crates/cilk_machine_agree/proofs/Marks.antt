-- An `abort` marks the live descendants of an instance, by path and by id.
use Rattle.std.proofs.Common.{◌≡◌, ◌<◌, ℕ, Bool, true, false, ◌&&◌, ◌||◌, List, map, length, is_some, refl, sym, ap, ◌∙◌, subst, if◌then◌else◌}
use Rattle.std.proofs.Math.Bool.{or-true, or-false}
use Rattle.cilk_laws_model.specs.syntax.Tree.{Program}
use Rattle.cilk_laws_model.specs.labelled.Bodies.{label}
use Rattle.cilk_laws_model.specs.model.Path.{Path}
use Rattle.cilk_laws_model.specs.model.Instance.{Instance}
use Rattle.cilk_laws_model.specs.model.State.{Entry, State}
use Rattle.cilk_laws_model.specs.model.Change.{mark}
use Rattle.cilk_laws_model.specs.model.Hands.{named}
use Rattle.cilk_laws_model.specs.model.Run.{Standing}
use Rattle.cilk_sched.specs.frame.Frames.{Frame}
use Rattle.cilk_sched.specs.frame.Stands.{StandsFor}
use Rattle.cilk_spawn.specs.Nodes.{Node, node_at, is_live, marked_below, descends, path_at}
use Rattle.cilk_spawn.proofs.Marks.{below_is, marked_node}
use Rattle.cilk_sched.proofs.Count.{AllHeld-weaker}
use Rattle.cilk_machine_agree.specs.Outside.{SameOutside}
use Rattle.cilk_machine_agree.specs.Alike.{NodeStandsFor, procedure_in}
use Rattle.cilk_machine_agree.specs.Agrees.{MachineParts, Held, Agrees, entry_of}
use Rattle.cilk_machine_agree.specs.Marks.{marked_if}
use Rattle.cilk_machine_agree.specs.Laws.{MarksAgree}
use Rattle.cilk_machine_agree.proofs.Sets.{Keeps, keeps-marked, each-changes}

marked-stands : (p : Program) (f : Frame) (a : Instance) (b : Bool) → StandsFor (label p) f a → StandsFor (label p) f (marked_if b a)
marked-stands p f a true h = record { activations = h.activations; inside = h.inside; flag = h.flag }
marked-stands p f a false h = h

marked-entry : (b : Bool) (e : Entry)
    → (let x : Entry = record { path = e.path; instance = marked_if b e.instance } in x)
    ≡ (if b then record e { instance = record e.instance { aborted = true } } else e)
marked-entry true e = refl
marked-entry false e = refl

-- the node of one that lives, marked or not
marked-tells : (p : Program) (up : ℕ → Path) (procedures : ℕ → ℕ) (n : Node) (a : Instance) (b : Bool) → NodeStandsFor (label p) up procedures n a
    → NodeStandsFor (label p) up procedures (record n { aborted = n.aborted || b }) (marked_if b a)
marked-tells p up procedures n a true h =
    record { procedure = h.procedure; children = h.children; aborted = or-true n.aborted; waiting = h.waiting; receiver = h.receiver }
marked-tells p up procedures n a false h =
    record { procedure = h.procedure; children = h.children; aborted = or-false n.aborted ∙ h.aborted; waiting = h.waiting; receiver = h.receiver }

module _ (p : Program) (m : MachineParts) (who : ℕ → Instance) (at : Standing) (h : Agrees p m who at) (k : ℕ) (there : k < length m.nodes) where
  abbrev ns : List Node
  ns = m.nodes

  abbrev ms : List Node
  ms = marked_below ns k

  abbrev now : ℕ → Instance
  now i = marked_if (descends ns k i) (who i)

  keeps : Keeps ns ms
  keeps = keeps-marked ns k h.tree

  tells : (i : ℕ) → is_live (node_at ms i) ≡ true → NodeStandsFor (label p) (path_at ms) (procedure_in ms) (node_at ms i) (now i)
  tells i live =
      let lives : is_live (node_at ns i) ≡ true = sym (keeps.lives i) ∙ live in
      let node : node_at ms i ≡ record (node_at ns i) { aborted = (node_at ns i).aborted || descends ns k i } =
      marked_node ns k i ∙ ap (λ b. record (node_at ns i) { aborted = (node_at ns i).aborted || (b && descends ns k i) }) lives in
      subst (λ up. NodeStandsFor (label p) up (procedure_in ms) (node_at ms i) (now i)) (sym keeps.up)
      (subst (λ procedures. NodeStandsFor (label p) (path_at ns) procedures (node_at ms i) (now i)) (sym keeps.procedures)
      (subst (λ n. NodeStandsFor (label p) (path_at ns) (procedure_in ns) n (now i)) (sym node)
      (marked-tells p (path_at ns) (procedure_in ns) (node_at ns i) (who i) (descends ns k i) (h.tells i lives))))

  same-parked : (i : ℕ) → (node_at ms i).parked ≡ (node_at ns i).parked
  same-parked i = ap (λ (n : Node). n.parked) (marked_node ns k i)

  abbrev after : State
  after = record at.state { instances = map (mark (path_at ns k)) at.state.instances }

  outside : SameOutside (label p) (path_at ns) (length ns) m.outside after
  outside = let o = h.outside in record {
    cells = o.cells;
    sizes = o.sizes;
    locks = o.locks;
    holders = o.holders;
    output = o.output;
    outcome = o.outcome;
    trapper = o.trapper;
  }

  pub marked : Agrees p (record m { nodes = ms }) now (record at { state = after })
  marked = record {
    tree = keeps.tree;
    outside = subst (λ up. SameOutside (label p) up (length ms) m.outside after) (sym keeps.up)
        (subst (λ l. SameOutside (label p) (path_at ns) l m.outside after) (sym keeps.size) outside);
    instances =
        ap (map (mark (path_at ns k))) h.instances
        ∙ sym (each-changes ns ms who now (mark (path_at ns k)) keeps (λ i lt.
        marked-entry (descends ns k i) (entry_of ns who i)
        ∙ ap (λ b. if b then record (entry_of ns who i) { instance = record (who i) { aborted = true } } else entry_of ns who i)
        (sym (below_is ns h.tree k there i lt))));
    tells = tells;
    places = h.places ∙ ap (λ (up : ℕ → Path). named (λ g. up g.id) m.places) (sym keeps.up);
    parked = λ i lt. ap (λ (up : ℕ → Path). at.scheduler.parked (up i)) keeps.up ∙ h.parked i (subst (λ l. i < l) keeps.size lt)
        ∙ ap is_some (sym (same-parked i));
    held = AllHeld-weaker (Held p ns who) (Held p ms now)
        (λ g s. record { live = keeps.lives g.id ∙ s.live; stands = marked-stands p g (who g.id) (descends ns k g.id) s.stands }) m.places h.held;
    waits = λ i f live is.
        let s = h.waits i f (sym (keeps.lives i) ∙ live) (sym (same-parked i) ∙ is) in
        record { own = s.own; stands = marked-stands p f (who i) (descends ns k i) s.stands };
  }

pub marks-agree : MarksAgree
marks-agree p m who at h k there = marked p m who at h k there
