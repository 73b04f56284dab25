-- What a later tree tells of an earlier one: of an instance that has ended nothing changes any more but its fate, and that only where its value is taken.
use Rattle.std.specs.Prelude.{◌≡◌, ◌<◌, ◌≤◌, ℕ, false, List, length, nat_lt, if◌then◌else◌}
use Rattle.cilk_spawn.specs.declared.fate.Fate.{Fate}
use Rattle.cilk_spawn.specs.declared.fate.Fate.TheVariants.{Live, Returned, Delivered, Aborted}
use Rattle.cilk_spawn.specs.Nodes.{Node, node_at, is_live}

-- of the same parent, as the same child of it, and of the same procedure
pub record SameBirth (old new : Node) : Type 0 where
  pub parent : new.parent ≡ old.parent
  pub ordinal : new.ordinal ≡ old.ordinal
  pub procedure : new.procedure ≡ old.procedure

-- what was told of a fate behind choice c, where this is told of it later: who was delivered afterwards had returned
abbrev pub cut : ℕ → Fate → Fate
cut c Live = Live
cut c Returned = Returned
cut c (Delivered d) = if nat_lt c d then Returned else Delivered d
cut c (Aborted d) = Aborted d

abbrev pub cut_node : ℕ → Node → Node
cut_node c n = record n { fate = cut c n.fate }

-- what had ended in the tree behind choice c is told by a later one
pub record IsCut (c : ℕ) (old last : List Node) : Type 0 where
  pub size : length old ≤ length last
  pub births : (i : ℕ) → i < length old → SameBirth (node_at old i) (node_at last i)
  pub ended : (i : ℕ) → i < length old → is_live (node_at old i) ≡ false → node_at old i ≡ cut_node c (node_at last i)
