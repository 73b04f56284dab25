-- When the parts of a machine stand for a position.
use Rattle.std.specs.Prelude.{◌≡◌, ℕ, length}
use Rattle.cilk_machine_agree.specs.model.Instance.{Instance}
use Rattle.cilk_machine_agree.specs.model.Run.{Position}
use Rattle.cilk_load.specs.labelled.Bodies.{label}
use Rattle.cilk_machine_agree.specs.runs.Hands.{EachInItsPlace}
use Rattle.cilk_machine_agree.specs.Outside.{Outcome}
use Rattle.cilk_machine_agree.specs.Agrees.{MachineParts, Agrees}
use Rattle.cilk_machine_agree.specs.Fated.{Fated}
use Rattle.cilk_view.specs.declared.shown.Shown.{Shown}

-- the machine of these parts, where the program stands so
abbrev pub machine_of : Shown → Outcome → MachineParts
machine_of s outcome = record {
  outside = record { cells = s.globals.now; locks = s.locks.now; output = s.output.now; outcome = outcome };
  nodes = s.tree.now.nodes;
  places = s.hands.now;
}

-- they agree with the position, where each instance is in its place
pub record ShowsAt (s : Shown) (at : Position) : Type 0 where
  pub outcome : Outcome
  pub who : ℕ → Instance
  pub agrees : Agrees s.loaded.now (machine_of s outcome) who at.standing
  pub placed : EachInItsPlace at.standing
  -- what became of each instance ever made is what the events tell
  pub fated : Fated (label s.loaded.now) s.tree.now.nodes at.events

-- they stand for some position, and there are as many workers as are told
pub record Shows (s : Shown) : Type 0 where
  pub workers : s.workers ≡ length s.hands.now
  pub at : Position
  pub shows : ShowsAt s at
