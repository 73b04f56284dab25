-- A history at which workers take turns, and how many of its choices each worker made.
use Rattle.std.specs.Prelude.{◌≡◌, ◌+◌, ◌<◌, ◌==◌, ℕ, Bool, List, length, count_by, slice_index}
use Rattle.cilk_run.specs.choices.declared.choice.Choice.{Choice}
use Rattle.cilk_run.specs.machine.Situation.{Situation}

-- what contracts see of a `Table`: as of a `Locked`, a machine and a list of choices, with the two reasons to end that are not the machine's: want of
-- memory, and that all are told to
pub record Posted : Type 0 where
  pub machine : Situation
  pub history : List Choice
  pub short : Bool
  pub stopped : Bool

-- the number of a worker's choices
abbrev pub turns_of : ℕ → List Choice → ℕ
turns_of w choices = count_by (λ (c : Choice). c.worker == w) choices

-- the numbers of choices of n workers, from worker 1 on
pub record IsCounted (n : ℕ) (turns : List ℕ) (history : List Choice) : Type 0 where
  pub entries : length turns ≡ n
  pub each : (w : ℕ) → w < n → slice_index turns w ≡ turns_of (w + 1) history
