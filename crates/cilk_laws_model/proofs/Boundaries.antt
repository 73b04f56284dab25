-- A boundary is where the rule has it written.
use Rattle.std.proofs.Common.{◌≡◌, true, ◌||◌, inl, inr, [], Option, Some, None, refl, ap, ◌∙◌}
use Rattle.std.proofs.lemmas.Bool.{and_from, and_parts, or_cases, or_left, or_right}
use Rattle.cilk_model.specs.labelled.Labelled.{Action, sync, return_with, return_nothing, close, Numbered}
use Rattle.cilk_model.specs.labelled.Items.{head_of}
use Rattle.cilk_model.specs.Instance.{Instance}
use Rattle.cilk_model.specs.State.{is_empty}
use Rattle.cilk_model.specs.Change.{leaves, is_sync, head_waits, at_boundary}
use Rattle.cilk_model.specs.Written as written
use Rattle.cilk_model.specs.Written.{Waits, AtBoundary}
use Rattle.cilk_laws_model.proofs.Ground.{empty_is}

waits_by : (act : Action) → (is_sync act || leaves act) ≡ true → Waits act
waits_by sync h = written.for_sync
waits_by (return_with e) h = written.to_leave (return_with e) (written.by_value e)
waits_by return_nothing h = written.to_leave return_nothing written.by_no_value
waits_by close h = written.to_leave close written.by_brace
waits_by other h = cc

can_wait : (act : Action) → Waits act → (is_sync act || leaves act) ≡ true
can_wait act written.for_sync = refl
can_wait act (written.to_leave a (written.by_value e)) = refl
can_wait act (written.to_leave a written.by_no_value) = refl
can_wait act (written.to_leave a written.by_brace) = refl

module _ (i : Instance) where
  boundary_head : i.below ≡ [] → (o : Option Numbered) → head_of i.top.items ≡ o → head_waits i o ≡ true → AtBoundary i
  boundary_head alone None e h = cc
  boundary_head alone (Some head) e h =
      written.before_wait alone head.number head.act e (waits_by head.act (and_parts (is_empty i.below) (is_sync head.act || leaves head.act) h).1)

  pub boundary_of : at_boundary i ≡ true → AtBoundary i
  boundary_of h =
      let parts = and_parts (is_empty i.below) (i.spawned || head_waits i (head_of i.top.items)) h in
      let alone = empty_is i.below parts.0 in
      elim (or_cases i.spawned (head_waits i (head_of i.top.items)) parts.1) [
        | inl spawned ↦ written.after_spawn alone spawned
        | inr waiting ↦ boundary_head alone (head_of i.top.items) refl waiting
      ]

  pub bounds : AtBoundary i → at_boundary i ≡ true
  bounds (written.after_spawn alone spawned) = and_from _ _ (ap is_empty alone) (or_left _ _ spawned)
  bounds (written.before_wait alone n act head waiting) =
      and_from _ _ (ap is_empty alone) (or_right i.spawned _ (ap (head_waits i) head ∙ and_from _ _ (ap is_empty alone) (can_wait act waiting)))
