-- The written rule leaves one state for each head, delivery and aborted end, as far as look-ups tell.
use Rattle.std.specs.Prelude.{◌≡◌, ℕ, List, [], Some, slice_get, slice_index_or}
use Rattle.cilk_model.specs.labelled.Labelled.{Labelled, Action}
use Rattle.cilk_model.specs.Values.{Values, Cell}
use Rattle.cilk_model.specs.Path.{Path}
use Rattle.cilk_model.specs.Instance.{Activation, Delivery, Instance}
use Rattle.cilk_model.specs.State.{State, instance_at, store_of}
use Rattle.cilk_model.specs.Written.{content, Holding}
use Rattle.cilk_model.specs.WrittenRule.{Acts, Takes, Ends}

-- what stands at q is the same in both states; the values that its top activation sees are so cell by cell
pub data AlikeAt (t u : State) (q : Path) : Type 0 where
  equal : instance_at t.instances q ≡ instance_at u.instances q → AlikeAt t u q
  by_cells : (j : Instance) (own other : Values) (below beneath : List Activation) (procedure values : Values)
      → Holding procedure j.below below → Holding values j.below beneath
      → instance_at t.instances q ≡ Some (record j { top = record j.top { values = own }; below = below })
      → instance_at u.instances q ≡ Some (record j { top = record j.top { values = other }; below = beneath })
      → ((cell : Cell) → content (store_of t q (record j { top = record j.top { values = own }; below = below })) cell
      ≡ content (store_of u q (record j { top = record j.top { values = other }; below = beneath })) cell)
      → AlikeAt t u q

-- no look-up tells the states apart
pub record Alike (t u : State) : Type 0 where
  pub at : (q : Path) → AlikeAt t u q
  pub globals : (n k : ℕ) → slice_get (slice_index_or t.globals n []) k ≡ slice_get (slice_index_or u.globals n []) k
  pub locks : (k : ℕ) → slice_get t.locks k ≡ slice_get u.locks k
  pub output : t.output ≡ u.output
  pub outcome : t.outcome ≡ u.outcome

pub record OneState (program : Labelled) (s : State) (p : Path) (i : Instance) (t u : State) : Type 0 where
  pub by_action : (n : ℕ) (act : Action) → Acts program s p i t n act → Acts program s p i u n act → Alike t u
  pub by_delivery : (left : List Delivery) (delivery : Delivery)
      → Takes program s p i t left delivery.child delivery.value delivery.receiver
      → Takes program s p i u left delivery.child delivery.value delivery.receiver → Alike t u
  pub by_end : Ends program s p i t → Ends program s p i u → Alike t u

abbrev pub RuleLeavesOneState : Type 0
RuleLeavesOneState = (program : Labelled) (s : State) (p : Path) (i : Instance) (t u : State) → OneState program s p i t u
