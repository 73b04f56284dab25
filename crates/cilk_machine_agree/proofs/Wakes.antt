-- A parked parent that can go on comes to the hand.
use Rattle.std.proofs.Common.{◌≡◌, ℕ, Bool, true, false, not, ◌&&◌, ◌||◌, Option, Some, None, is_some, refl, sym, ap, ◌∙◌, subst, if◌then◌else◌}
use Rattle.cilk_laws_model.specs.syntax.Tree.{Program}
use Rattle.cilk_laws_model.specs.labelled.Bodies.{label}
use Rattle.cilk_laws_model.specs.model.Path.{same_path}
use Rattle.cilk_laws_model.specs.model.Instance.{Instance}
use Rattle.cilk_laws_model.specs.model.State as state
use Rattle.cilk_laws_model.specs.model.State.{instance_at, is_empty}
use Rattle.cilk_laws_model.specs.model.Scheduler as sched
use Rattle.cilk_laws_model.specs.model.Run.{Standing}
use Rattle.cilk_sched.specs.frame.Frames.{Frame}
use Rattle.cilk_spawn.specs.Nodes.{node_at, is_live, has_live_child, path_at}
use Rattle.cilk_spawn.proofs.Trees.{live_there}
use Rattle.cilk_machine_agree.specs.Agrees.{MachineParts, Agrees}
use Rattle.cilk_machine_agree.specs.Laws.{can_go_on, woken_by, woken}
use Rattle.cilk_machine_agree.proofs.Found.{found, child-is, same-empty}
use Rattle.cilk_machine_agree.proofs.Ends.{wake-agrees}

module _ (p : Program) (m : MachineParts) (who : ℕ → Instance) (at : Standing) (h : Agrees p m who at) (r : ℕ) (live : is_live (node_at m.nodes r) ≡ true) where
  can-is : sched.can_go_on at.state.instances (path_at m.nodes r) ≡ can_go_on m.nodes r
  can-is =
      let s = h.tells r live in
      let there = live_there m.nodes r live in
      let child : state.has_live_child at.state.instances (path_at m.nodes r) ≡ has_live_child m.nodes r =
      ap (λ es. state.has_live_child es (path_at m.nodes r)) h.instances ∙ child-is m.nodes who r h.tree there in
      let takes : sched.can_take (instance_at at.state.instances (path_at m.nodes r))
      ≡ (not (node_at m.nodes r).aborted && not (is_empty (node_at m.nodes r).waiting)) =
      ap (λ es. sched.can_take (instance_at es (path_at m.nodes r))) h.instances ∙ ap sched.can_take (found m.nodes who r h.tree live)
      ∙ (λ j. not (sym s.aborted j) && not (same-empty (label p) (path_at m.nodes) (node_at m.nodes r).procedure (node_at m.nodes r).waiting
      (who r).waiting s.waiting j)) in
      λ j. not (child j) || takes j

  abbrev wakes : ℕ → sched.Scheduler
  wakes w = record {
    places = sched.with_hand at.scheduler.places w (Some (path_at m.nodes r));
    parked = λ q. not
        (same_path q (path_at m.nodes r)) && at.scheduler.parked q;
  }

  woken_with : (w : ℕ) (o : Option Frame) (b : Bool) → (node_at m.nodes r).parked ≡ o
      → Agrees p (woken_by m w r o b) who (record at { scheduler = if is_some o && b then wakes w else at.scheduler })
  woken_with w None b is = h
  woken_with w (Some g) true is = wake-agrees p m who at h r w g live is
  woken_with w (Some g) false is = h

  pub woken-agrees : (w : ℕ)
      → Agrees p (woken m w (Some r)) who (record at { scheduler = sched.woken at.state.instances at.scheduler w (Some (path_at m.nodes r)) })
  woken-agrees w =
      subst (λ x. Agrees p (woken m w (Some r)) who (record at { scheduler = x }))
      (λ j. if sym (h.parked r (live_there m.nodes r live)) j && sym can-is j then wakes w else at.scheduler)
      (woken_with w (node_at m.nodes r).parked (can_go_on m.nodes r) refl)
