-- A return: the instance is no more, its value goes to the parent, and a parked parent that can go on comes to the hand; and the end of one that is aborted.
use Rattle.std.proofs.Common.{◌≡◌, ℕ, ℤ, Bool, true, false, not, ◌&&◌, List, [], ◌∷◌, map, length, Option, Some, None, refl, sym, ap, ◌∙◌, subst, inl}
use Rattle.std.proofs.Common.{inr, All, if◌then◌else◌}
use Rattle.std.proofs.lemmas.List.Elements.{All-head, All-tail, All-cons}
use Rattle.cilk_laws_model.specs.syntax.Tree.{Program}
use Rattle.cilk_laws_model.specs.labelled.Bodies.{label}
use Rattle.cilk_laws_model.specs.model.Path.{Path, parent_of}
use Rattle.cilk_laws_model.specs.model.Instance.{Instance}
use Rattle.cilk_laws_model.specs.model.State as state
use Rattle.cilk_laws_model.specs.model.State.{Instances, State}
use Rattle.cilk_laws_model.specs.model.Change as change
use Rattle.cilk_laws_model.specs.model.Change.{after_return_to, after_abort}
use Rattle.cilk_laws_model.specs.model.Scheduler as sched
use Rattle.cilk_laws_model.specs.model.Run.{Standing}
use Rattle.cilk_laws_model.proofs.Family.{parent-child}
use Rattle.cilk_spawn.specs.declared.fate.Fate.TheVariants.{Returned, Aborted}
use Rattle.cilk_spawn.specs.Nodes.{Node, node_at, has_live_child, takes_value, delivery_of, delivered_to, path_at}
use Rattle.cilk_spawn.proofs.Lists.{decide}
use Rattle.cilk_spawn.proofs.Trees.{path_root, path_child}
use Rattle.cilk_spawn.proofs.Children.{parent_other}
use Rattle.cilk_spawn.proofs.Grown.{same_number, other_number}
use Rattle.cilk_spawn.proofs.Paths.{same_here, other_there}
use Rattle.cilk_machine_agree.specs.Outside as outside
use Rattle.cilk_machine_agree.specs.declared.lock.Lock.{Lock}
use Rattle.cilk_machine_agree.specs.declared.lock.Lock.TheVariants.{Unset, Free, Held}
use Rattle.cilk_machine_agree.specs.Outside.{SameOutside, LockWithin, lock_by}
use Rattle.cilk_machine_agree.specs.Agrees.{MachineParts, Agrees}
use Rattle.cilk_machine_agree.specs.Laws.{InHand, path_of, sent, woken, without_frame, outside_after, who_after, released, freed, ReturnsAgree, EndsAgree}
use Rattle.cilk_machine_agree.proofs.Alone.{holds, inside, free, others}
use Rattle.cilk_machine_agree.proofs.Ends.{end-agrees, lives-after, path-after}
use Rattle.cilk_machine_agree.proofs.Wakes.{woken-agrees}
use Rattle.cilk_machine_agree.proofs.Sends.{sends}

either-way : {A : Type 0} (b : Bool) (x : A) → (if b then x else x) ≡ x
either-way true x = refl
either-way false x = refl

module _ (t : InHand) where
  abbrev p : Program
  p = t.program

  abbrev m : MachineParts
  m = t.machine

  abbrev ns : List Node
  ns = m.nodes

  abbrev k : ℕ
  k = t.frame.id

  abbrev a : Instance
  a = t.who k

  parent-path : (r : ℕ) → (node_at ns k).parent ≡ Some r → parent_of (path_of t) ≡ Some (path_at ns r)
  parent-path r parent = ap parent_of (path_child ns t.agrees.tree k r parent) ∙ parent-child (path_at ns r) (node_at ns k).ordinal

  -- the root has nobody to whom its value goes
  none-sent : (z : ℤ) → (node_at ns k).parent ≡ None → sent ns k z ≡ ns
  none-sent z parent =
      ap (λ o. if takes_value (node_at ns k).receiver && not (node_at ns k).aborted then delivered_to o ns (delivery_of ns k z) else ns) parent
      ∙ either-way (takes_value (node_at ns k).receiver && not (node_at ns k).aborted) ns

  outside-finished : (z : ℤ) (es : Instances)
      → SameOutside (label p) (path_at ns) (length ns) (record m.outside { outcome = outside.finished z })
      (record t.at.state { outcome = state.finished z; instances = es })
  outside-finished z es =
      let o = t.agrees.outside in
      record { cells = o.cells; sizes = o.sizes; locks = o.locks; holders = o.holders; output = o.output; outcome = refl; trapper = tt }

  abbrev returned-by : ℤ → Option Path → Standing
  returned-by z o =
      let s = after_return_to o t.at.state (path_of t) a z in
      record { state = s; scheduler = sched.woken s.instances (sched.with_empty_hand t.at.scheduler t.worker) t.worker o }

  returned : (z : ℤ) → has_live_child ns k ≡ false → (o : Option ℕ) → (node_at ns k).parent ≡ o
      → Agrees p (woken (without_frame t (outside_after t z o) (sent ns k z) Returned) t.worker o) (who_after t z o) (returned-by z (parent_of (path_of t)))
  returned z childless None parent =
      subst (λ o. Agrees p (without_frame t (outside_after t z None) (sent ns k z) Returned) t.who (returned-by z o))
      (sym (ap parent_of (path_root ns k parent)))
      (subst (λ ms. Agrees p (without_frame t (outside_after t z None) ms Returned) t.who (returned-by z None)) (sym (none-sent z parent))
      (end-agrees p m t.who t.at t.agrees k t.worker Returned refl (inside t) childless (free t) (others t) _ _ (outside-finished z _) refl))
  returned z childless (Some r) parent =
      let e = sends t r parent z childless in
      subst (λ o. Agrees p (woken (without_frame t m.outside (sent ns k z) Returned) t.worker (Some r)) (who_after t z (Some r)) (returned-by z o))
      (sym (parent-path r parent))
      (subst (λ q. Agrees p (woken (without_frame t m.outside (sent ns k z) Returned) t.worker (Some r)) (who_after t z (Some r))
      (let s = after_return_to (Some (path_at ns r)) t.at.state (path_of t) a z in
      record { state = s; scheduler = sched.woken s.instances (sched.with_empty_hand t.at.scheduler t.worker) t.worker (Some q) })) e.path
      (woken-agrees p (without_frame t m.outside (sent ns k z) Returned) _ _ e.agrees r e.live t.worker))

  -- its locks are free
  lock-released : (x : Lock) → LockWithin (length ns) x
      → (change.released (path_of t) (lock_by (path_at ns) x) ≡ lock_by (path_at ns) (released k x)) × LockWithin (length ns) (released k x)
  lock-released Unset h = (refl, tt)
  lock-released Free h = (refl, tt)
  lock-released (Held i) h = elim (decide i k) [
    | inl e ↦ (
      ap (λ b. if b then state.free else state.held (path_at ns i)) (same_here ns i k e)
          ∙ sym (ap (λ b. lock_by (path_at ns) (if b then Free else Held i)) (same_number i k e)),
      subst (λ b. LockWithin (length ns) (if b then Free else Held i)) (sym (same_number i k e)) tt,
    )
    | inr ne ↦ (
      ap (λ b. if b then state.free else state.held (path_at ns i)) (other_there ns i k t.agrees.tree h (inside t) ne)
          ∙ sym (ap (λ b. lock_by (path_at ns) (if b then Free else Held i)) (other_number i k ne)),
      subst (λ b. LockWithin (length ns) (if b then Free else Held i)) (sym (other_number i k ne)) h,
    )
  ]

  locks-released : (xs : List Lock) → All (LockWithin (length ns)) xs
      → (map (change.released (path_of t)) (map (lock_by (path_at ns)) xs) ≡ map (lock_by (path_at ns)) (map (released k) xs)) × All (LockWithin (length ns))
      (map (released k) xs)
  locks-released [] h = (refl, h)
  locks-released (x ∷ xs) h =
      let one = lock-released x (All-head (LockWithin (length ns)) x xs h) in
      let rest = locks-released xs (All-tail (LockWithin (length ns)) x xs h) in
      ((λ j. one.0 j ∷ rest.0 j), All-cons (LockWithin (length ns)) (released k x) (map (released k) xs) one.1 rest.1)

  abbrev aborted : State
  aborted = after_abort t.at.state (path_of t)

  outside-freed : SameOutside (label p) (path_at ns) (length ns) (freed t) aborted
  outside-freed =
      let o = t.agrees.outside in
      let l = locks-released m.outside.locks o.holders in
      record {
        cells = o.cells;
        sizes = o.sizes;
        locks = ap (map (change.released (path_of t))) o.locks ∙ l.0;
        holders = l.1;
        output = o.output;
        outcome = o.outcome;
        trapper = o.trapper;
      }

  abbrev aborted-by : Option Path → Standing
  aborted-by o = record { state = aborted; scheduler = sched.woken aborted.instances (sched.with_empty_hand t.at.scheduler t.worker) t.worker o }

  gone : (choice : ℕ) → has_live_child ns k ≡ false
      → Agrees p (without_frame t (freed t) ns (Aborted choice)) t.who (record { state = aborted; scheduler = sched.with_empty_hand t.at.scheduler t.worker })
  gone choice childless =
      end-agrees p m t.who t.at t.agrees k t.worker (Aborted choice) refl (inside t) childless (free t) (others t) (freed t) aborted outside-freed refl

  ended-of : (choice : ℕ) → has_live_child ns k ≡ false → (o : Option ℕ) → (node_at ns k).parent ≡ o
      → Agrees p (woken (without_frame t (freed t) ns (Aborted choice)) t.worker o) t.who (aborted-by (parent_of (path_of t)))
  ended-of choice childless None parent =
      subst (λ o. Agrees p (without_frame t (freed t) ns (Aborted choice)) t.who (aborted-by o))
      (sym (ap parent_of (path_root ns k parent))) (gone choice childless)
  ended-of choice childless (Some r) parent =
      let lives = lives-after ns r k (Aborted choice) refl (inside t) (parent_other ns k r t.agrees.tree parent)
      (t.agrees.tree.outlives k r parent (holds t).live) in
      subst (λ q. Agrees p (woken (without_frame t (freed t) ns (Aborted choice)) t.worker (Some r)) t.who (aborted-by q))
      (ap Some (path-after ns r k (Aborted choice) t.agrees.tree (inside t)) ∙ sym (parent-path r parent))
      (woken-agrees p (without_frame t (freed t) ns (Aborted choice)) t.who _ (gone choice childless) r lives t.worker)

pub returns-agree : ReturnsAgree
returns-agree t z did childless = returned t z childless (node_at t.machine.nodes t.frame.id).parent refl

pub ends-agree : EndsAgree
ends-agree t choice did childless = ended-of t choice childless (node_at t.machine.nodes t.frame.id).parent refl
