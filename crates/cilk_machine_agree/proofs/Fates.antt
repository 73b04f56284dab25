-- Another fate is told of an instance.
use Rattle.std.proofs.Common.{◌≡◌, ◌<◌, ℕ, List, refl, sym, ap, ◌∙◌, subst, arith, inl, inr, length, map, is_some}
use Rattle.cilk_laws_model.specs.model.Path.{Path}
use Rattle.cilk_laws_model.specs.model.Instance.{Instance}
use Rattle.cilk_laws_model.specs.model.Hands.{named}
use Rattle.cilk_laws_model.specs.model.Run.{Standing}
use Rattle.cilk_laws_model.specs.labelled.Bodies.{label}
use Rattle.cilk_laws_model.specs.syntax.Tree.{Program}
use Rattle.cilk_spawn.specs.declared.fate.Fate.{Fate}
use Rattle.cilk_spawn.specs.Nodes.{Node, no_node, node_at, is_live, lives, with_fate, path_at}
use Rattle.cilk_spawn.proofs.Lists.{at_set}
use Rattle.cilk_spawn.proofs.Trees.{ids_same}
use Rattle.cilk_sched.proofs.Count.{AllHeld-weaker}
use Rattle.cilk_machine_agree.specs.Agrees.{MachineParts, Agrees, Held}
use Rattle.cilk_machine_agree.specs.Alike.{NodeStandsFor, procedure_in}
use Rattle.cilk_machine_agree.specs.Outside.{SameOutside}
use Rattle.cilk_machine_agree.specs.Laws.{FatesAgree}
use Rattle.cilk_machine_agree.proofs.Sets.{Sets, sets}

module _ (p : Program) (m : MachineParts) (who : ℕ → Instance) (at : Standing) (h : Agrees p m who at) (k : ℕ) (fate : Fate) (inside : k < length m.nodes)
    (same : lives fate ≡ is_live (node_at m.nodes k)) where
  abbrev ns : List Node
  ns = m.nodes

  abbrev n : Node
  n = record (node_at ns k) { fate = fate }

  abbrev ms : List Node
  ms = with_fate ns k fate

  written : Sets ns ms k n
  written = sets ns k n h.tree inside
      (record { parent = refl; ordinal = refl; procedure = refl; live = same; aborted = refl; children = omega arith }) (h.tree.sent k)

  as-parked : (i : ℕ) → (node_at ms i).parked ≡ (node_at ns i).parked
  as-parked i = elim (at_set ns k n i no_node inside) [
    | inl e ↦ ap (λ (x : Node). x.parked) e.1 ∙ ap (λ j. (node_at ns j).parked) (sym e.0)
    | inr e ↦ ap (λ (x : Node). x.parked) e.1
  ]

  fated : (i : ℕ) → NodeStandsFor (label p) (path_at ns) (procedure_in ns) (node_at ns i) (who i)
      → NodeStandsFor (label p) (path_at ns) (procedure_in ns) (record (node_at ns i) { fate = fate }) (who i)
  fated i t = record { procedure = t.procedure; children = t.children; aborted = t.aborted; waiting = t.waiting; receiver = t.receiver }

  tells : (i : ℕ) → NodeStandsFor (label p) (path_at ns) (procedure_in ns) (node_at ns i) (who i)
      → NodeStandsFor (label p) (path_at ns) (procedure_in ns) (node_at ms i) (who i)
  tells i t = elim (at_set ns k n i no_node inside) [
    | inl e ↦ subst (λ x. NodeStandsFor (label p) (path_at ns) (procedure_in ns) x (who i))
        (ap (λ j. record (node_at ns j) { fate = fate }) e.0 ∙ sym e.1) (fated i t)
    | inr e ↦ subst (λ x. NodeStandsFor (label p) (path_at ns) (procedure_in ns) x (who i)) (sym e.1) t
  ]

  pub fate-agrees : Agrees p (record m { nodes = ms }) who at
  fate-agrees =
      let up = written.keeps.up in
      record {
        tree = written.keeps.tree;
        outside = subst (λ x. SameOutside (label p) x (length ms) m.outside at.state) (sym up)
            (subst (λ l. SameOutside (label p) (path_at ns) l m.outside at.state) (sym written.keeps.size) h.outside);
        instances = h.instances
            ∙ sym (λ j. map (λ i. record { path = up j i; instance = who i }) (ids_same ns ms written.keeps.size written.keeps.lives j));
        tells = λ i live.
            subst (λ x. NodeStandsFor (label p) x (procedure_in ms) (node_at ms i) (who i)) (sym up)
            (subst (λ x. NodeStandsFor (label p) (path_at ns) x (node_at ms i) (who i)) (sym written.keeps.procedures)
            (tells i (h.tells i (sym (written.keeps.lives i) ∙ live))));
        places = h.places ∙ ap (λ (x : ℕ → Path). named (λ f. x f.id) m.places) (sym up);
        parked = λ i lt. ap (λ (x : ℕ → Path). at.scheduler.parked (x i)) up ∙ h.parked i (subst (λ l. i < l) written.keeps.size lt)
            ∙ ap is_some (sym (as-parked i));
        held = AllHeld-weaker (Held p ns who) (Held p ms who) (λ g x. record { live = written.keeps.lives g.id ∙ x.live; stands = x.stands }) m.places h.held;
        waits = λ i f live is. h.waits i f (sym (written.keeps.lives i) ∙ live) (sym (as-parked i) ∙ is);
      }

pub fates-agree : FatesAgree
fates-agree p m who at h k fate inside same = fate-agrees p m who at h k fate inside same
