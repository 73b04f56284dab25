-- The event that a step of the written rule is told by.
use Rattle.std.specs.Prelude.{◌≡◌, ℕ, ◌+◌, ℤ, List, ◌++◌}
use Rattle.cilk_model.specs.labelled.Labelled.{Labelled, Action}
use Rattle.cilk_model.specs.Path.{Path, child_path}
use Rattle.cilk_model.specs.Instance.{Receiver, Delivery, Instance}
use Rattle.cilk_model.specs.State.{of_value, State}
use Rattle.cilk_model.specs.Event as event
use Rattle.cilk_model.specs.Event.{Event}
use Rattle.cilk_model.specs.WrittenRule as rule
use Rattle.cilk_model.specs.WrittenRule.{Acts, Takes, Steps, Allows}

module _ (program : Labelled) (s : State) (p : Path) (i : Instance) (t : State) where
  -- the number is that of the head
  abbrev pub told_by_action : (n : ℕ) (act : Action) → Acts program s p i t n act → Event
  told_by_action n act (rule.leaves_procedure a z alone whole given ended) = event.returned p n
  told_by_action n act (rule.spawns taker callee es reached zs ys receiver none is are others receives born) = event.spawned (child_path p (i.children + 1)) n
  told_by_action n act (rule.traps a kind fails trapped) = event.trapped kind p n
  told_by_action n act other = event.acted p n

  -- the number is that of the spawn
  abbrev pub told_by_delivery : (left : List Delivery) (c : Path) (z : ℤ) (receiver : Receiver) → Takes program s p i t left c z receiver → Event
  told_by_delivery left c z receiver (rule.by_place reached n y comes puts) = event.delivered c n
  told_by_delivery left c z receiver (rule.place_traps reached n trap comes trapped) = event.trapped (of_value trap) p n
  told_by_delivery left c z receiver (rule.by_inlet inlet others n starts) = event.delivered c n

  abbrev pub told : Steps program s p i t → Event
  told (rule.takes boundary before delivery behind waiting taken) =
      told_by_delivery (before ++ behind) delivery.child delivery.value delivery.receiver taken
  told (rule.acts n act head acts) = told_by_action n act acts
  told (rule.ends ends) = event.ended p

-- s allows t by a step of p, which is told by this event
pub record AllowsAs (program : Labelled) (s : State) (p : Path) (t : State) (did : Event) : Type 0 where
  pub allows : Allows program s p t
  pub tells : told program s p allows.instance t allows.step ≡ did
