-- The live instances as a family: their paths are apart, and each child has a live parent that has counted it.
use Rattle.std.specs.Prelude.{◌≡◌, ℕ, true}
use Rattle.cilk_model.specs.Path.{Path, child_path}
use Rattle.cilk_model.specs.State.{Instances, PathsAreApart, Counted, is_live}

-- each live child has a live parent that has counted it
abbrev pub ChildrenAreCounted : Instances → Type 0
ChildrenAreCounted entries = (p : Path) (k : ℕ) → is_live entries (child_path p k) ≡ true → Counted entries p k

pub record IsFamily (entries : Instances) : Type 0 where
  pub apart : PathsAreApart entries
  pub counted : ChildrenAreCounted entries
