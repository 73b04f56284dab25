-- One instance is changed, with its node: whatever changes keeps agreement where it does so for that one.
use Rattle.std.proofs.Common.{◌≡◌, ◌≢◌, ◌<◌, ℕ, true, List, length, Some, is_some, refl, sym, ap, ◌∙◌, subst, inl, inr}
use Rattle.cilk_laws_model.specs.syntax.Tree.{Program}
use Rattle.cilk_laws_model.specs.labelled.Bodies.{label}
use Rattle.cilk_laws_model.specs.model.Path.{Path}
use Rattle.cilk_laws_model.specs.model.Instance.{Instance}
use Rattle.cilk_laws_model.specs.model.State.{changed}
use Rattle.cilk_laws_model.specs.model.Run.{Standing}
use Rattle.cilk_sched.specs.frame.Frames.{Frame}
use Rattle.cilk_spawn.specs.Nodes.{Node, node_at, is_live, path_at}
use Rattle.cilk_spawn.proofs.Lists.{decide}
use Rattle.cilk_laws_model.specs.model.Hands.{WorkerOf, named}
use Rattle.cilk_sched.specs.Count.{AllHeld}
use Rattle.cilk_sched.proofs.Count.{AllHeld-weaker}
use Rattle.cilk_machine_agree.specs.Outside.{Outside, SameOutside}
use Rattle.cilk_machine_agree.specs.Alike.{NodeStandsFor, procedure_in}
use Rattle.cilk_machine_agree.specs.Agrees.{MachineParts, Held, Parked, Agrees, instead, name_in}
use Rattle.cilk_machine_agree.proofs.Sets.{Sets, instead-here, instead-there, one-changes}

-- what is shown of the one node and instance holds of each
pub each-one : (P : ℕ → Node → Instance → Type 0) (ns ms : List Node) (k : ℕ) (n : Node) (who : ℕ → Instance) (a : Instance) → Sets ns ms k n → P k n a
    → (i : ℕ) → (i ≢ k → P i (node_at ns i) (who i)) → P i (node_at ms i) (instead who k a i)
each-one P ns ms k n who a sets new i old =
    elim (decide i k) [
      | inl e ↦ subst (λ j. P j (node_at ms j) (instead who k a j)) (sym e)
          (subst (λ x. P k x (instead who k a k)) (sym sets.own) (subst (P k n) (sym (instead-here who k a k refl)) new))
      | inr ne ↦ subst (λ x. P i x (instead who k a i)) (sym (sets.others i ne)) (subst (P i (node_at ns i)) (sym (instead-there who k a i ne)) (old ne))
    ]

module _ (p : Program) (m : MachineParts) (who : ℕ → Instance) (at : Standing) where
  -- instance k becomes what f makes of it, and its node n
  pub record Change (k : ℕ) (ms : List Node) (n : Node) (f : Instance → Instance) (o : Outside) (now : List (WorkerOf Frame)) (next : Standing) : Type 0 where
    pub there : k < length m.nodes
    pub sets : Sets m.nodes ms k n
    pub tells : is_live (node_at m.nodes k) ≡ true → NodeStandsFor (label p) (path_at m.nodes) (procedure_in m.nodes) n (f (who k))
    pub outside : SameOutside (label p) (path_at m.nodes) (length m.nodes) o next.state
    pub instances : next.state.instances ≡ changed (path_at m.nodes k) f at.state.instances
    pub places : next.scheduler.places ≡ named (name_in m.nodes) now
    pub parked : (i : ℕ) → i < length m.nodes → next.scheduler.parked (path_at m.nodes i) ≡ is_some (node_at ms i).parked
    pub held : AllHeld (Held p m.nodes (instead who k (f (who k)))) now
    pub waits : (g : Frame) → is_live (node_at m.nodes k) ≡ true → n.parked ≡ Some g → Parked p k (f (who k)) g

  pub change : Agrees p m who at → (k : ℕ) (ms : List Node) (n : Node) (f : Instance → Instance) (o : Outside) (now : List (WorkerOf Frame)) (next : Standing)
      → Change k ms n f o now next
      → Agrees p (record m { outside = o; nodes = ms; places = now }) (instead who k (f (who k))) next
  change agrees k ms n f o now next c =
      let keeps = c.sets.keeps in
      record {
        tree = keeps.tree;
        outside = subst (λ up. SameOutside (label p) up (length ms) o next.state) (sym keeps.up)
            (subst (λ l. SameOutside (label p) (path_at m.nodes) l o next.state) (sym keeps.size) c.outside);
        instances = c.instances ∙ ap (changed (path_at m.nodes k) f) agrees.instances ∙ sym (one-changes m.nodes ms who k f keeps agrees.tree c.there);
        tells = λ i live.
            let was = sym (keeps.lives i) ∙ live in
            subst (λ up. NodeStandsFor (label p) up (procedure_in ms) (node_at ms i) (instead who k (f (who k)) i)) (sym keeps.up)
            (subst (λ procedures. NodeStandsFor (label p) (path_at m.nodes) procedures (node_at ms i) (instead who k (f (who k)) i)) (sym keeps.procedures)
            (each-one (λ j x a. is_live (node_at m.nodes j) ≡ true → NodeStandsFor (label p) (path_at m.nodes) (procedure_in m.nodes) x a) m.nodes ms k n who
            (f (who k)) c.sets c.tells i (λ ne. agrees.tells i) was));
        places = c.places ∙ ap (λ (up : ℕ → Path). named (λ g. up g.id) now) (sym keeps.up);
        parked = λ i h. ap (λ (up : ℕ → Path). next.scheduler.parked (up i)) keeps.up ∙ c.parked i (subst (λ l. i < l) keeps.size h);
        held = AllHeld-weaker (Held p m.nodes (instead who k (f (who k)))) (Held p ms (instead who k (f (who k))))
            (λ g h. record { live = keeps.lives g.id ∙ h.live; stands = h.stands }) now c.held;
        waits = λ i g live.
            each-one (λ j x a. is_live (node_at m.nodes j) ≡ true → x.parked ≡ Some g → Parked p j a g) m.nodes ms k n who (f (who k)) c.sets (c.waits g) i
            (λ ne. agrees.waits i g) (sym (keeps.lives i) ∙ live);
      }
