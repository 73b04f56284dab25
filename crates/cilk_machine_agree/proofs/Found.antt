-- What the standing tells of an instance by its path, the tree tells by its id.
use Rattle.std.proofs.Common.{◌≡◌, ◌<◌, ℕ, zero, suc, Bool, true, false, ◌==◌, List, [], ◌∷◌, map, length, Option, Some, refl, sym, ap, ◌∙◌, subst}
use Rattle.std.proofs.Common.{arith, inl, inr, slice_index_or, All, if◌then◌else◌}
use Rattle.std.proofs.lemmas.Bool.Decides.{nat_tests}
use Rattle.std.proofs.lemmas.List.Elements.{All-head, All-tail}
use Rattle.cilk_laws_model.specs.syntax.Tree.{Program}
use Rattle.cilk_laws_model.specs.labelled.Labelled.{Labelled}
use Rattle.cilk_laws_model.specs.labelled.Bodies.{label}
use Rattle.cilk_laws_model.specs.model.Path.{Path, same_path, is_child}
use Rattle.cilk_laws_model.specs.model.Instance as model
use Rattle.cilk_laws_model.specs.model.Instance.{Instance}
use Rattle.cilk_laws_model.specs.model.State as state
use Rattle.cilk_laws_model.specs.model.State.{Entry, instance_at, is_empty}
use Rattle.cilk_laws_model.specs.model.Run.{Standing}
use Rattle.cilk_sched.specs.frame.Stands.{StandsFor}
use Rattle.cilk_spawn.specs.declared.delivery.Delivery.{Delivery}
use Rattle.cilk_spawn.specs.Nodes.{Node, IsTree, node_at, is_live, live_ids, has_live_child, path_at}
use Rattle.cilk_spawn.proofs.Lists.{decide, among_those, those_pass, map_those}
use Rattle.cilk_spawn.proofs.Trees.{live_there}
use Rattle.cilk_spawn.proofs.Paths.{same_here, other_there}
use Rattle.cilk_spawn.proofs.Alive.{any_map, live_child_by}
use Rattle.cilk_sched.proofs.Count.{AllHeld-weaker}
use Rattle.cilk_machine_agree.specs.Alike.{NodeStandsFor, SameDeliveries, procedure_in}
use Rattle.cilk_machine_agree.specs.Agrees.{MachineParts, Held, Parked, Agrees, entry_of, instances_of, instance_or, read_off}

at_head : (b : Bool) (x y : Instance) (o : Option Instance) → b ≡ true → x ≡ y → (if b then Some x else o) ≡ Some y
at_head true x y o h e = ap Some e
at_head false x y o h e = cc

found_by : (ns : List Node) (who : ℕ → Instance) (xs : List ℕ) (k i : ℕ) → IsTree ns → i < length ns → All (λ j. j < length ns) xs → k < length xs
    → slice_index_or xs k 0 ≡ i → instance_at (map (entry_of ns who) xs) (path_at ns i) ≡ Some (who i)
found_by ns who [] k i t h all lt e = absurd (omega arith)
found_by ns who (x ∷ xs) zero i t h all lt e = at_head (same_path (path_at ns x) (path_at ns i)) (who x) (who i) _ (same_here ns x i e) (ap who e)
found_by ns who (x ∷ xs) (suc k) i t h all lt e =
    elim (decide x i) [
      | inl is ↦ at_head (same_path (path_at ns x) (path_at ns i)) (who x) (who i) _ (same_here ns x i is) (ap who is)
      | inr ne ↦
          ap (λ b. if b then Some (who x) else instance_at (map (entry_of ns who) xs) (path_at ns i))
          (other_there ns x i t (All-head (λ j. j < length ns) x xs all) h ne)
          ∙ found_by ns who xs k i t h (All-tail (λ j. j < length ns) x xs all) (omega arith) e
    ]

-- one that lives is found by its path
pub found : (ns : List Node) (who : ℕ → Instance) (i : ℕ) → IsTree ns → is_live (node_at ns i) ≡ true
    → instance_at (instances_of ns who) (path_at ns i) ≡ Some (who i)
found ns who i t live =
    let h = live_there ns i live in
    let s = among_those (λ j. is_live (node_at ns j)) (length ns) i h live in
    found_by ns who (live_ids ns) s.place i t h (λ k d lt. live_there ns _ (those_pass (λ j. is_live (node_at ns j)) (length ns) k d lt)) s.within s.is

-- the instances may be read off the standing
pub read-is : (p : Program) (m : MachineParts) (who : ℕ → Instance) (at : Standing) → Agrees p m who at → (i : ℕ) → is_live (node_at m.nodes i) ≡ true
    → who i ≡ read_off p m at i
read-is p m who at h i live =
    let d = model.started (label p) 0 [] in
    sym (ap (λ es. instance_or d (instance_at es (path_at m.nodes i))) h.instances ∙ ap (instance_or d) (found m.nodes who i h.tree live))

pub read-agrees : (p : Program) (m : MachineParts) (who : ℕ → Instance) (at : Standing) → Agrees p m who at → Agrees p m (read_off p m at) at
read-agrees p m who at h =
    let is = read-is p m who at h in
    record {
      tree = h.tree;
      outside = h.outside;
      instances =
          h.instances ∙ map_those (entry_of m.nodes who) (entry_of m.nodes (read_off p m at)) (λ i. is_live (node_at m.nodes i)) (length m.nodes)
          (λ i lt live j. record { path = path_at m.nodes i; instance = is i live j });
      tells = λ i live. subst (NodeStandsFor (label p) (path_at m.nodes) (procedure_in m.nodes) (node_at m.nodes i)) (is i live) (h.tells i live);
      places = h.places;
      parked = h.parked;
      held = AllHeld-weaker (Held p m.nodes who) (Held p m.nodes (read_off p m at))
          (λ g x. record { live = x.live; stands = subst (StandsFor (label p) g) (is g.id x.live) x.stands }) m.places h.held;
      waits = λ i f live some. subst (λ a. Parked p i a f) (is i live) (h.waits i f live some);
    }

pub same-empty : (program : Labelled) (up : ℕ → Path) (b : ℕ) (ds : List Delivery) (es : List model.Delivery) → SameDeliveries program up b ds es
    → is_empty es ≡ is_empty ds
same-empty program up b [] [] h = refl
same-empty program up b [] (e ∷ es) h = absurd h
same-empty program up b (d ∷ ds) [] h = absurd h
same-empty program up b (d ∷ ds) (e ∷ es) h = refl

pub empty-is : (ds : List Delivery) → is_empty ds ≡ (length ds == 0)
empty-is [] = refl
empty-is (d ∷ ds) = let more : 0 < length (d ∷ ds) = omega arith in sym (grind (arith, nat_tests, more))

-- whether a child lives, told by the entries
pub child-is : (ns : List Node) (who : ℕ → Instance) (i : ℕ) → IsTree ns → i < length ns
    → state.has_live_child (instances_of ns who) (path_at ns i) ≡ has_live_child ns i
child-is ns who i t h = any_map (λ (e : Entry). is_child (path_at ns i) e.path) (entry_of ns who) (live_ids ns) ∙ sym (live_child_by ns i t h)
