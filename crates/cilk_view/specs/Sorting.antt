-- The instances ever made, with their paths.
use Rattle.std.specs.Prelude.{◌≡◌, ◌<◌, ℕ, List, length, All, map}
use Rattle.std.specs.Global.{Vec}
use Rattle.std.specs.List.{range_with_len}
use Rattle.cilk_machine_agree.specs.model.Path.{Path}
use Rattle.cilk_machine_agree.specs.spawn.Nodes.{Node, path_at}

-- the second goes by the first
abbrev pub IsMade : List Node → Vec ℕ × ℕ → Type 0
IsMade ns one = (one.1 < length ns) × (one.0.items ≡ path_at ns one.1)

abbrev pub paths_in : List (Vec ℕ × ℕ) → List Path
paths_in made = map (λ one. one.0.items) made

-- those of the first n ids
pub record AreMade (ns : List Node) (n : ℕ) (made : List (Vec ℕ × ℕ)) : Type 0 where
  pub each : All (IsMade ns) made
  pub paths : paths_in made ≡ map (path_at ns) (range_with_len 0 n)
