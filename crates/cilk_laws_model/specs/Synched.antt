-- What `SYNCHED` tells, and what a `sync` waits for, said of the paths of children.
use Rattle.std.specs.Prelude.{◌≡◌, ℕ, true, false, []}
use Rattle.cilk_model.specs.Path.{Path, child_path}
use Rattle.cilk_model.specs.Instance.{Instance}
use Rattle.cilk_model.specs.State.{State, is_live, is_synched}

-- no child of p lives, and no delivery waits
pub record NothingToWaitFor (s : State) (p : Path) (i : Instance) : Type 0 where
  pub childless : (k : ℕ) → is_live s.instances (child_path p k) ≡ false
  pub delivered : i.waiting ≡ []

-- of each state, whether a run leads there or not (Cilk 5.4 manual, `SYNCHED`)
abbrev pub SynchedMeans : Type 0
SynchedMeans = (s : State) (p : Path) (i : Instance)
    → (is_synched s p i ≡ true → NothingToWaitFor s p i) × (NothingToWaitFor s p i → is_synched s p i ≡ true)
