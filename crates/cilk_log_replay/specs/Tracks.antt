-- What is kept of all choices of a tape, as they were made once: the action of each, and a checkpoint behind each 1,000, which the last machine completes.
use Rattle.std.specs.Prelude.{◌≡◌, ◌<◌, ◌≤◌, ◌+◌, ◌*◌, ◌++◌, ◌∷◌, [], ℕ, Bool, List, length, Option, None, Some, unwrap_or, slice_get, slice_index_or}
use Rattle.cilk_machine.specs.syntax.Tree.{Program}
use Rattle.cilk_machine.specs.model.Choice.{Choice}
use Rattle.cilk_machine.specs.model.Event.{Event}
use Rattle.cilk_machine.specs.Checkpoints.{Checkpoint, IsCheckpointOf, IsEarlier}
use Rattle.cilk_machine.specs.Situation.{Situation}
use Rattle.cilk_log_replay.specs.Breaks.{number_of, is_set}
use Rattle.cilk_log_replay.specs.Tape.{Tape, did_at, IsAt}

-- the number of the action that was taken, and 0 where none was
abbrev pub action_of : Option Event → ℕ
action_of None = 0
action_of (Some did) = unwrap_or (number_of did) 0

abbrev pub action_at : Tape → ℕ → ℕ
action_at t k = action_of (did_at t k)

-- whether there is a breakpoint at the action of choice i
abbrev pub meets : List ℕ → List Bool → ℕ → Bool
meets actions marks i = is_set marks (slice_index_or actions i 0)

-- the checkpoint is of where the first k choices lead, and the last machine tells the rest
pub record IsKeptAt (t : Tape) (k : ℕ) (last : Situation) (c : Checkpoint) : Type 0 where
  pub situation : Situation
  pub stands : IsAt t k situation
  pub kept : IsCheckpointOf c situation
  pub earlier : IsEarlier situation last

-- a checkpoint more, of that machine
pub record KeepsOne (last : Situation) (old new : List Checkpoint) : Type 0 where
  pub more : Checkpoint
  pub is : new ≡ old ++ more ∷ []
  pub kept : IsCheckpointOf more last

-- the first k choices were made, and this is kept
pub record IsTrack (t : Tape) (k : ℕ) (last : Situation) (checkpoints : List Checkpoint) (actions : List ℕ) : Type 0 where
  pub within : k ≤ length t.choices
  pub stands : IsAt t k last
  pub count : length actions ≡ k
  pub acted : (i : ℕ) → i < k → slice_index_or actions i 0 ≡ action_at t i
  -- one behind each 1,000 choices, and one before the first
  pub first : 1 ≤ length checkpoints
  pub low : 1000 * length checkpoints ≤ k + 1000
  pub high : k < 1000 * length checkpoints
  pub kept : (i : ℕ) (c : Checkpoint) → slice_get checkpoints i ≡ Some c → IsKeptAt t (1000 * i) last c

-- nothing was made yet, whatever the choices are
abbrev pub Begins : Program → ℕ → Situation → List Checkpoint → List ℕ → Type 0
Begins program workers last checkpoints actions =
    (choices : List Choice) → IsTrack (record { program = program; workers = workers; choices = choices }) 0 last checkpoints actions
